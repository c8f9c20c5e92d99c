-- `mend_write::hand_over` fills and writes until the input's end is reached: the invariant is the fills so far, and each leads on.
use Prim.Native.Nat.{ℕ}
use mathlib.Core.Path.{◌≡◌, sym}
use native.Mathlib.Omega.{arith}
use lib.Seq.{length-take-le}
use Rattle.mend_write.proofs.Whole.{filled, unwrapped, going_none, going_more, going_all, took, sofar_more, sofar_all, sofar_some, fill_leads}
use Rattle.mend_write.proofs.hand_over.Goals as goal

pub loop-at-init : goal.loop-at-init
loop-at-init g c = going_none _ _ _ _ _ _

pub unwrap-f-requires : goal.unwrap-f-requires
unwrap-f-requires g c = filled _ _ _ c.requires.trace_value c.fill.ensures

pub slice_bounds-write_all-end : goal.slice_bounds-write_all-end
slice_bounds-write_all-end g c = omega (arith, (unwrapped _ _ c.unwrap-f.ensures c.fill.ensures).took.within.0, c.fill.auto.out)

pub slice_bounds-write_all-end-in-loop-at : goal.slice_bounds-write_all-end-in-loop-at
slice_bounds-write_all-end-in-loop-at g c = sym (length-take-le _ _ (omega (arith, (unwrapped _ _ c.unwrap-f.ensures c.fill.ensures).took.within.0, c.fill.auto.out)))

pub slice_bounds-write_all-end-else-is_err : goal.slice_bounds-write_all-end-else-is_err
slice_bounds-write_all-end-else-is_err g c = omega (arith, (unwrapped _ _ c.unwrap-f.ensures c.fill.ensures).took.within.1, c.fill.auto.text)

pub slice_bounds-write_all-end-else-is_err-2 : goal.slice_bounds-write_all-end-else-is_err-2
slice_bounds-write_all-end-else-is_err-2 g c = sym (length-take-le _ _ (omega (arith, (unwrapped _ _ c.unwrap-f.ensures c.fill.ensures).took.within.1, c.fill.auto.text)))

pub returns-then-is_err-clause-handed : goal.returns-then-is_err-clause-handed
returns-then-is_err-clause-handed g c =
    let f = unwrapped _ _ c.unwrap-f.ensures c.fill.ensures in
    let h = c.loop-at in
    let a = c.requires in
    let on = fill_leads _ _ f c.loop-at-test.true (omega (arith, h.auto.out, a.record_room_in_bounds.0)) (omega (arith, h.auto.text, a.record_room_in_bounds.1)) in
    sofar_some _ _ (sofar_more _ _ h.invariant.sofar c.loop-at-test.true f) (omega (arith, on))

pub returns-then-is_err-clause-written : goal.returns-then-is_err-clause-written
returns-then-is_err-clause-written g c = λ e. absurd (let z : ◌≡◌ {A = ℕ} 0 1 = cc in omega arith)

pub loop-at-smaller : goal.loop-at-smaller
loop-at-smaller g c =
    let f = unwrapped _ _ c.unwrap-f.ensures c.fill.ensures in
    let h = c.loop-at in
    let a = c.requires in
    let on = fill_leads _ _ f c.loop-at-test.true (omega (arith, h.auto.out, a.record_room_in_bounds.0)) (omega (arith, h.auto.text, a.record_room_in_bounds.1)) in
    omega (arith, on, c.loop-at-test.true)

pub loop-at-preserved : goal.loop-at-preserved
loop-at-preserved g c =
    let h = c.loop-at.invariant in
    let f = unwrapped _ _ c.unwrap-f.ensures c.fill.ensures in
    let m = took _ _ _ c.is_err.ensures.value c.if-is_err.false c.write_all.ensures.bytes in
    let l = took _ _ _ c.is_err-else-is_err.ensures.value c.if-is_err-2.false c.write_all-else-is_err.ensures.bytes in
    going_more _ _ _ _ h c.loop-at-test.true f m l

pub returns-clause-handed : goal.returns-clause-handed
returns-clause-handed g c = sofar_all _ _ c.loop-at.invariant.sofar c.loop-at-test.false

pub returns-clause-written : goal.returns-clause-written
returns-clause-written g c = λ _. going_all _ _ c.loop-at.invariant c.loop-at-test.false
