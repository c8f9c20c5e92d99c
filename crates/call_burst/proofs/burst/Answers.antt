-- `call_burst::burst` meets its contract: the refusals in their order, and then all the slots.
use Prim.Native.Nat.{ℕ}
use mathlib.Core.Path.{refl, ◌∙◌, ap}
use lib.ListN.{length}
use Rattle.meaning.specs.State.{state_of}
use Rattle.leaf_refusal.proofs.Numbers.{never_0}
use Rattle.call_burst.specs.Burst.{stretch_of}
use Rattle.call_burst.proofs.Refusals.{lent_all, worked_out, burst_refused, burst_goes, burst_ranges, burst_fits}
use Rattle.call_burst.proofs.StopLaws.{fit_burst}
use Rattle.call_burst.proofs.LikelyLaws.{fit_shaped}
use Rattle.call_burst.proofs.burst.Goals as goal

pub returns-in-Err : goal.returns-in-Err
returns-in-Err c =
    let a = c.args in
    let s = state_of a.ctl a.cells.now a.links.now a.calendar.now a.words.now a.bits.now a.arrived.now in
    let e = worked_out s a.arrivals.now a.sizes.now a.departures.now a.answers.now _ _ c.lengths_fit-fit.ensures c.in-Err.ensures in
    ap (λ (k : ℕ). stretch_of s a.departures.now a.answers.now k 0) c.from.ensures
    ∙ burst_refused s a.arrivals.now a.sizes.now a.departures.now a.answers.now _ e (never_0 c.in-Err.why)

pub run-requires : goal.run-requires
run-requires c =
    let a = c.args in
    let s = state_of a.ctl a.cells.now a.links.now a.calendar.now a.words.now a.bits.now a.arrived.now in
    let e = worked_out s a.arrivals.now a.sizes.now a.departures.now a.answers.now _ _ c.lengths_fit-fit.ensures c.in_default.ensures in
    let fits = burst_fits s a.arrivals.now a.sizes.now a.departures.now a.answers.now 0 e refl in
    let f = fit_burst s (length a.arrivals.now) (length a.departures.now) (length a.answers.now) (length a.sizes.now)
    (burst_ranges s a.arrivals.now a.sizes.now a.departures.now a.answers.now 0 e refl) fits in
    record { burst_lent = lent_all a.ctl.n a.ctl.v _ _ _ _ _ _ a.arrivals.now a.sizes.now a.departures.now a.answers.now fits; shaped = fit_shaped s f.0 }

pub returns : goal.returns
returns c =
    let a = c.args in
    let s = state_of a.ctl a.cells.now a.links.now a.calendar.now a.words.now a.bits.now a.arrived.now in
    let e = worked_out s a.arrivals.now a.sizes.now a.departures.now a.answers.now _ _ c.lengths_fit-fit.ensures c.in_default.ensures in
    c.run.ensures ∙ burst_goes s a.arrivals.now a.sizes.now a.departures.now a.answers.now 0 e refl
