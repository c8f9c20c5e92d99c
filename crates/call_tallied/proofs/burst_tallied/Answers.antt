-- `call_tallied::burst_tallied` meets its contract: a refusal leaves all as it came, and otherwise the slots run from a tally that stands.
use mathlib.Core.Path.{refl, sym, ◌∙◌}
use Rattle.std.proofs.Common.{rules}
use Rattle.meaning.specs.State.{State, state_of}
use Rattle.leaf_refusal.proofs.Numbers.{never_0}
use Rattle.call_tallied.proofs.Refusals.{tallied_refused, tallied_goes, tallied_stands, tallied_lent, tallied_shaped}
use Rattle.call_tallied.proofs.burst_tallied.Goals as goal

pub returns-in-Err : goal.returns-in-Err
returns-in-Err c =
    let a = c.args in
    let stood : State = state_of a.ctl a.cells.now a.links.now a.calendar.now a.words.now a.bits.now a.arrived.now in
    tallied_refused a.tally a.connection stood a.arrivals.now a.sizes.now a.departures.now a.answers.now _ (c.from.ensures ∙ c.in-Err.ensures)
    (λ z. never_0 c.in-Err.why (sym c.from.ensures ∙ z))

pub run-end-requires : goal.run-end-requires
run-end-requires c =
    let a = c.args in
    let stood : State = state_of a.ctl a.cells.now a.links.now a.calendar.now a.words.now a.bits.now a.arrived.now in
    let j = c.in_default.ensures in
    record {
      bins_long = search rules;
      burst_lent = tallied_lent a.tally a.connection stood a.arrivals.now a.sizes.now a.departures.now a.answers.now 0 j refl;
      shaped = tallied_shaped a.tally a.connection stood a.arrivals.now a.sizes.now a.departures.now a.answers.now 0 j refl;
      stands = tallied_stands a.tally a.connection stood a.arrivals.now a.sizes.now a.departures.now a.answers.now 0 j refl;
    }

pub returns : goal.returns
returns c =
    let a = c.args in
    let stood : State = state_of a.ctl a.cells.now a.links.now a.calendar.now a.words.now a.bits.now a.arrived.now in
    c.run-end.ensures
    ∙ tallied_goes a.tally a.connection stood a.arrivals.now a.sizes.now a.departures.now a.answers.now 0 c.in_default.ensures refl
