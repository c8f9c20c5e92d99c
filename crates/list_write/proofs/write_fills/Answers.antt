-- `list_write::write_fills` fills and writes until the run is done: the invariant is the fills so far, the measure the run's
-- weight. A write that fails leaves the fills that were handed over, the last among them.
use Prim.Native.Nat.{ℕ}
use mathlib.Core.Path.{◌≡◌, refl, sym, ap, subst, ◌∙◌}
use mathlib.Core.Bool.{true, false}
use mathlib.Core.List.{[]}
use native.Mathlib.Omega.{arith}
use lib.Seq.{length-take-le}
use Rattle.std.proofs.lemmas.Bool.{not-true, not-false}
use Rattle.std.specs.Io.KnownBytes.{Appends}
use Rattle.std.proofs.KnownBytes.{Appends-nil, Appends-trans}
use Rattle.list_whole.specs.declared.Run.{Run}
use Rattle.list_whole.specs.Fill.{no_fill, start_run}
use Rattle.list_whole.proofs.Same.{same_memory, same_then}
use Rattle.list_whole.proofs.Whole.{fill_falls}
use Rattle.list_whole.proofs.Once.{fills_some}
use Rattle.list_write.proofs.Made.{more, handed, listed, took}
use Rattle.list_write.proofs.write_fills.Goals as goal

pub loop-run-init : goal.loop-run-init
loop-run-init g c = (record { count = 0; text = []; fills = no_fill }, Appends-nil _, same_memory _, refl)

pub slice_bounds-write_all-end : goal.slice_bounds-write_all-end
slice_bounds-write_all-end g c = omega (arith, c.fill_with-filled.ensures.filled.within)

pub slice_bounds-write_all-end-in-loop-run : goal.slice_bounds-write_all-end-in-loop-run
slice_bounds-write_all-end-in-loop-run g c =
    let f = c.fill_with-filled in
    sym (length-take-le f.result.used _ (omega (arith, f.ensures.filled.within)))

-- a write that fails leaves the buffer as long as it was lent
pub shape_of-out-then-is_err : goal.shape_of-out-then-is_err
shape_of-out-then-is_err g c = c.fill_with-filled.auto.out ∙ c.loop-run.invariant.3

pub returns-then-is_err-clause-handed : goal.returns-then-is_err-clause-handed
returns-then-is_err-clause-handed g c =
    let a = c.args in
    let f = c.fill_with-filled in
    handed a.input.now a.memory.now.cells.now a.memory.now.links.now a.memory.now.calendar.now a.memory.now.words.now a.memory.now.bits.now a.memory.now.arrived.now a.out.now
    c.start-run.result f.result.run _ _ false c.start-run.ensures c.requires.lent_for
    (more _ c.loop-run.invariant.0 (not-true _ c.loop-run-test.true) f.ensures.filled) (omega arith)
    (λ e. absurd (let z : ◌≡◌ {A = ℕ} 0 1 = cc in omega arith))

pub returns-then-is_err-clause-same : goal.returns-then-is_err-clause-same
returns-then-is_err-clause-same g c = same_then c.loop-run.invariant.2 c.fill_with-filled.ensures.same

pub returns-then-is_err-clause-written : goal.returns-then-is_err-clause-written
returns-then-is_err-clause-written g c = λ e. absurd (let z : ◌≡◌ {A = ℕ} 0 1 = cc in omega arith)

pub loop-run-smaller : goal.loop-run-smaller
loop-run-smaller g c =
    let f = c.fill_with-filled in
    let h = c.loop-run in
    fill_falls _ (omega (arith, h.invariant.3, c.requires.room_in_bounds)) (not-true _ c.loop-run-test.true) (omega arith) f.ensures.filled

pub loop-run-preserved : goal.loop-run-preserved
loop-run-preserved g c =
    let f = c.fill_with-filled in
    let h = c.loop-run.invariant in (
      more _ h.0 (not-true _ c.loop-run-test.true) f.ensures.filled,
      Appends-trans _ _ _ _ _ h.1 (took _ _ _ c.is_err.ensures.value c.if-is_err.false c.write_all.ensures.bytes),
      same_then h.2 f.ensures.same,
      f.auto.out ∙ h.3,
    )

pub returns-clause-handed : goal.returns-clause-handed
unfolding start_run
returns-clause-handed g c =
    let a = c.args in
    let h = c.loop-run in
    let d = not-false _ c.loop-run-test.false in
    let e = c.start-run.ensures in
    handed a.input.now a.memory.now.cells.now a.memory.now.links.now a.memory.now.calendar.now a.memory.now.words.now a.memory.now.bits.now a.memory.now.arrived.now a.out.now
    c.start-run.result h.run _ _ true e c.requires.lent_for h.invariant.0
    (fills_some h.invariant.0.fills (ap (λ (x : Run). x.done) e) d) (λ _. d)

pub returns-clause-same : goal.returns-clause-same
returns-clause-same g c = c.loop-run.invariant.2

pub returns-clause-written : goal.returns-clause-written
returns-clause-written g c =
    let a = c.args in
    let h = c.loop-run.invariant in
    λ _. subst (Appends _ _)
    (listed a.input.now a.memory.now.cells.now a.memory.now.links.now a.memory.now.calendar.now a.memory.now.words.now a.memory.now.bits.now a.memory.now.arrived.now a.out.now
    c.start-run.ensures c.requires.lent_for h.0 (not-false _ c.loop-run-test.false)) h.1
