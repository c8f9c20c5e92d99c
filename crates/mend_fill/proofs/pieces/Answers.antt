-- `mend_fill::pieces` takes pieces while there are some and both buffers have room: the invariant is what was taken so far, and
-- each step leads on.
use native.Mathlib.Omega.{arith}
use Rattle.mend_step.proofs.Pieces.{kept_within}
use Rattle.mend_fill.proofs.Parts.{part_long}
use Rattle.mend_fill.proofs.FillLaws.{none_at_end, none_record, none_line, done_none, done_kept, done_skipped, done_all}
use Rattle.mend_fill.proofs.PieceLaws.{leads_on}
use Rattle.mend_fill.proofs.pieces.Goals as goal

pub loop-f-init : goal.loop-f-init
loop-f-init c = (done_none _ _ _ _ _ _ _, omega arith, omega arith)

-- a kept record

pub slice_bounds-text-count : goal.slice_bounds-text-count
slice_bounds-text-count c = (kept_within _ _ _ _ c.in-Kept.ensures).0

pub slice_bounds-text-start : goal.slice_bounds-text-start
slice_bounds-text-start c = (kept_within _ _ _ _ c.in-Kept.ensures).0

pub slice_bounds-text-end : goal.slice_bounds-text-end
slice_bounds-text-end c = (kept_within _ _ _ _ c.in-Kept.ensures).1

pub text-requires : goal.text-requires
text-requires c =
    let k = kept_within _ _ _ _ c.in-Kept.ensures in
    let m = part_long c.args.trace.now c.loop-f.f.at c.in-Kept.next k.0 k.1 in
    omega (arith, m, k.2, c.if-out-f-ge-RECORD_ROOM.true)

pub loop-f-smaller-in-Kept : goal.loop-f-smaller-in-Kept
loop-f-smaller-in-Kept c = omega (arith, c.loop-f-test.true, leads_on _ _ _ _ c.in-Kept.ensures c.loop-f-test.true)

pub loop-f-preserved-in-Kept : goal.loop-f-preserved-in-Kept
loop-f-preserved-in-Kept c =
    let h = c.loop-f in
    let k = kept_within _ _ _ _ c.in-Kept.ensures in
    let m = part_long c.args.trace.now h.f.at c.in-Kept.next k.0 k.1 in
    let x = c.if-out-f-ge-RECORD_ROOM.true in
    let y = c.if-text-f-ge-LINE_ROOM.true in (
      done_kept _ _ _ _ _ _ _ h.invariant.0 c.loop-f-test.true (omega (arith, x, h.auto.out)) (omega (arith, y, h.auto.text)) c.in-Kept.ensures c.text.ensures,
      omega (arith, c.text.ensures.next, m, k.2, x, h.auto.out),
      h.invariant.2,
    )

-- a skipped stretch

pub overflow_sub-next : goal.overflow_sub-next
overflow_sub-next c = omega (arith, leads_on _ _ _ _ c.in-Skipped.ensures c.loop-f-test.true)

pub loop-f-smaller : goal.loop-f-smaller
loop-f-smaller c = omega (arith, c.loop-f-test.true, leads_on _ _ _ _ c.in-Skipped.ensures c.loop-f-test.true)

pub loop-f-preserved : goal.loop-f-preserved
loop-f-preserved c =
    let h = c.loop-f in
    let x = c.if-out-f-ge-RECORD_ROOM.true in
    let y = c.if-text-f-ge-LINE_ROOM.true in (
      done_skipped _ _ _ _ _ _ _ h.invariant.0 c.loop-f-test.true (omega (arith, x, h.auto.out)) (omega (arith, y, h.auto.text)) c.in-Skipped.ensures c.stretch_line.ensures.put,
      h.invariant.1,
      omega (arith, c.stretch_line.ensures.upper_bound, y, h.auto.text),
    )

-- the end, or no room

pub returns-else-text-f-ge-LINE_ROOM : goal.returns-else-text-f-ge-LINE_ROOM
returns-else-text-f-ge-LINE_ROOM c =
    let h = c.loop-f in
    done_all _ _ _ _ _ _ _ h.invariant.0 (none_line _ _ _ _ _ (omega (arith, c.if-text-f-ge-LINE_ROOM.false, h.auto.text))) h.invariant.1 h.invariant.2

pub returns-else-out-f-ge-RECORD_ROOM : goal.returns-else-out-f-ge-RECORD_ROOM
returns-else-out-f-ge-RECORD_ROOM c =
    let h = c.loop-f in
    done_all _ _ _ _ _ _ _ h.invariant.0 (none_record _ _ _ _ _ (omega (arith, c.if-out-f-ge-RECORD_ROOM.false, h.auto.out))) h.invariant.1 h.invariant.2

pub returns-after-loop-f : goal.returns-after-loop-f
returns-after-loop-f c =
    let h = c.loop-f in
    done_all _ _ _ _ _ _ _ h.invariant.0 (none_at_end _ _ _ _ _ c.loop-f-test.false) h.invariant.1 h.invariant.2
