-- `call_tallied::one_tallied` meets its contract: the slot's departing space and VCI are read where its answer was written.
use mathlib.Core.Path.{◌∙◌}
use native.Mathlib.Omega.{arith}
use lib.ListN.{length, get_or}
use Rattle.meaning.specs.State.{state_of}
use Rattle.call_burst.specs.Burst.{Stretch, stretch_of}
use Rattle.call_burst.proofs.Loop.{turn_kept}
use Rattle.call_tallied.proofs.Turns.{standing_same, one_stops, one_takes}
use Rattle.call_tallied.proofs.one_tallied.Goals as goal

pub returns-then-end-ne0 : goal.returns-then-end-ne0
returns-then-end-ne0 c =
    let a = c.args in
    -- where the burst stood
    let stood : Stretch = stretch_of (state_of a.ctl a.cells.now a.links.now a.calendar.now a.words.now a.bits.now a.arrived.now) a.departures.now a.answers.now 0 a.i in
    one_stops a.arrivals.now a.connection (get_or a.sizes.now a.i 0) stood a.tally.now _ c.one_slot-end.ensures c.if-end-ne0.true

pub take_departure-requires : goal.take_departure-requires
take_departure-requires c =
    let a = c.args in
    let stood : Stretch = stretch_of (state_of a.ctl a.cells.now a.links.now a.calendar.now a.words.now a.bits.now a.arrived.now) a.departures.now a.answers.now 0 a.i in
    let o = c.one_slot-end in
    let k = turn_kept a.arrivals.now (get_or a.sizes.now a.i 0) stood _ _ _ _ _ o.ensures in
    standing_same a.tally.now.bins a.tally.now.cells a.ctl _ (length a.arrived.now) _ a.connection k.0 k.1 (omega (arith, o.auto)) ∙ c.requires.stands

pub returns : goal.returns
returns c =
    let a = c.args in
    let stood : Stretch = stretch_of (state_of a.ctl a.cells.now a.links.now a.calendar.now a.words.now a.bits.now a.arrived.now) a.departures.now a.answers.now 0 a.i in
    one_takes a.arrivals.now a.connection (get_or a.sizes.now a.i 0) stood a.tally.now _ c.one_slot-end.ensures c.if-end-ne0.false c.requires.slot_lent.answer _ c.take_departure.ensures
