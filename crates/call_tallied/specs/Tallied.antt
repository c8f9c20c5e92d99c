-- A burst that tallies the delays of one connection, for a card that polls: within a burst a space may be taken again, and its arrival
-- slot with it, so a tally after the burst would come too late.
--
--   Tallying         == how far such a burst has come: the burst, and the tally beside it
--   takes_slot c t w  == the tally t of connection c after the served slot w: the call after a slot, as tally_slot has it
--   one_tallied       == one slot, as a burst has it; where it was served, the tally takes what it answered
--   slots_tallied     == slot after slot, as a burst has them
--   burst_tallied     == the call
use Rattle.std.specs.Prelude.{ℕ, not, List, [], ◌∷◌, length}
use Rattle.meaning.specs.Plain.{when◌then◌else◌, ◌=?◌}
use Rattle.meaning.specs.State.{State}
use Rattle.meaning.specs.Work.{Work}
use Rattle.meaning.specs.Slot.{slot}
use Rattle.call_burst.specs.Burst.{Stretch, stretch_of, cell_lent, stopped, one_slot, lengths_fit}
use Rattle.call_tally.specs.declared.Tally.{Tally}
use Rattle.call_tally.specs.Tally.{standing, tally_slot}

pub record Tallying : Type 0 where
  pub stretch : Stretch
  pub tally : Tally

abbrev pub tallying_of : Stretch → Tally → Tallying
tallying_of b t = record { stretch = b; tally = t }

-- the record and the arrival slots are those that the slot left
unfoldable pub takes_slot : ℕ → Tally → Work → Tally
takes_slot c t w = (tally_slot t w.state.ctl w.state.arrived c w.answer.space w.answer.departing).tally

unfoldable pub one_tallied : List ℕ → ℕ → ℕ → Tallying → Tallying
one_tallied arrivals c size b =
    let before = b.stretch in
    let after = one_slot arrivals size before in
    when after.number =? 0 then tallying_of after (takes_slot c b.tally (slot before.state (cell_lent arrivals before.done size)))
    else tallying_of after b.tally

unfoldable pub slots_tallied : List ℕ → ℕ → List ℕ → Tallying → Tallying
slots_tallied arrivals c [] b = b
slots_tallied arrivals c (size ∷ sizes) b =
    let after = one_tallied arrivals c size b in
    when after.stretch.number =? 0 then slots_tallied arrivals c sizes after else after

-- The tally is judged once, before anything else: 1, 2, 4 and 3 of tally_slot as in a slot in which nothing leaves. Then the burst's own
-- 2. A refused call changes nothing.
unfoldable pub burst_tallied : Tally → ℕ → State → List ℕ → List ℕ → List ℕ → List ℕ → Tallying
burst_tallied t c s arrivals sizes departures answers =
    let begun = stretch_of s departures answers 0 0 in
    let number = standing t.bins t.cells s.ctl (length s.arrived) c in
    let fit = lengths_fit s.ctl.n s.ctl.v (length s.cells) (length s.links) (length s.calendar) (length s.words)
    (length s.bits) (length s.arrived) (length arrivals) (length sizes) (length departures) (length answers) in
    when not (number =? 0) then tallying_of (stopped begun number) t
    else when not fit then tallying_of (stopped begun 2) t
    else slots_tallied arrivals c sizes (tallying_of begun t)
