-- `call_burst::turn` meets its contract: an unfit size and a refused slot stop the burst as it stands; a served slot is shown and its answer written.
use Prim.Native.Nat.{ℕ}
use native.Mathlib.Omega.{arith}
use mathlib.Core.Path.{sym, ◌∙◌, ap}
use Rattle.meaning.specs.State.{state_of}
use Rattle.meaning.specs.Slot.{slot}
use Rattle.call_burst.specs.Burst.{stretch_of}
use Rattle.call_burst.proofs.ShowLaws.{slot_shows, size_most}
use Rattle.call_burst.proofs.TurnLaws.{turn_unfit, turn_stops, turn_serves, answered}
use Rattle.call_burst.proofs.Loop.{lent_part}
use borrow.Author.Rules.{rules}
use Rattle.call_burst.proofs.turn.Goals as goal

pub returns-then-not-size_fits : goal.returns-then-not-size_fits
returns-then-not-size_fits c =
    let a = c.args in
    let s = state_of a.ctl a.cells.now a.links.now a.calendar.now a.words.now a.bits.now a.arrived.now in
    ap (λ (k : ℕ). stretch_of s a.departures.now a.answers.now k a.i) c.from.ensures
    ∙ turn_unfit a.arrivals.now a.size s a.departures.now a.answers.now a.i (sym c.size_fits.ensures ∙ c.if-not-size_fits.true)

pub slice_bounds-slot-end : goal.slice_bounds-slot-end
slice_bounds-slot-end c = omega (arith, c.requires.arrival, c.from-2.ensures, size_most c.args.size (sym c.size_fits.ensures ∙ c.if-not-size_fits.false))

pub returns-then-number-ne0 : goal.returns-then-number-ne0
returns-then-number-ne0 c =
    let a = c.args in
    let s = state_of a.ctl a.cells.now a.links.now a.calendar.now a.words.now a.bits.now a.arrived.now in
    let f = sym c.size_fits.ensures ∙ c.if-not-size_fits.false in
    let e = c.slot.ensures ∙ ap (slot s) (lent_part a.arrivals.now a.i a.size _ c.from-2.ensures) in
    turn_stops a.arrivals.now a.size s a.departures.now a.answers.now a.i f _ e c.if-number-ne0.true

pub show-requires : goal.show-requires
show-requires c =
    let a = c.args in
    let s = state_of a.ctl a.cells.now a.links.now a.calendar.now a.words.now a.bits.now a.arrived.now in
    let f = sym c.size_fits.ensures ∙ c.if-not-size_fits.false in
    let e = c.slot.ensures ∙ ap (slot s) (lent_part a.arrivals.now a.i a.size _ c.from-2.ensures) in
    record { octets_in_bounds = omega (arith, c.requires.departure); shows = slot_shows s _ _ (answered a.arrivals.now a.size s a.departures.now a.answers.now a.i f _ e) c.if-number-ne0.false (search rules) }

pub returns : goal.returns
returns c =
    let a = c.args in
    let s = state_of a.ctl a.cells.now a.links.now a.calendar.now a.words.now a.bits.now a.arrived.now in
    let f = sym c.size_fits.ensures ∙ c.if-not-size_fits.false in
    let e = c.slot.ensures ∙ ap (slot s) (lent_part a.arrivals.now a.i a.size _ c.from-2.ensures) in
    turn_serves a.arrivals.now a.size s a.departures.now a.answers.now a.i f _ e c.if-number-ne0.false _ _ c.show.ensures c.put_answer.ensures
