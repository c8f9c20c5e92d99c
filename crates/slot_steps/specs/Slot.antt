-- A slot's refusals 1, 2 and 9 as one number, its steps 2 to 5, and what a slot without the header check promises.
use Rattle.std.specs.Prelude.{◌≡◌, ℕ, not, ◌||◌, List, length}
use Rattle.meaning.specs.declared.Record.{Record}
use Rattle.meaning.specs.Plain.{when◌then◌else◌, ◌=?◌, Out, ◌and_then◌}
use Rattle.meaning.specs.Numbers.{ranges_hold, octets}
use Rattle.meaning.specs.State.{State, lengths_hold}
use Rattle.meaning.specs.Bits.{lowest_free}
use Rattle.meaning.specs.Work.{Work, work_of, bare_answer}
use Rattle.meaning.specs.Slot.{step2, step3, step4, step5, unchecked_slot}

-- "slot 1, 2, 9": the first that is given, or 0
unfoldable pub shape_of : Record → List ℕ → List ℕ → List ℕ → List ℕ → List ℕ → List ℕ → List ℕ → ℕ
shape_of r cells links calendar words bits arrived cell =
    when not (ranges_hold r.n r.v) then 1
    else when not (lengths_hold r.n r.v cells links calendar words bits arrived) then 2
    else when not (length cell =? 0 || length cell =? octets) then 9
    else 0

abbrev pub shape_in : State → List ℕ → ℕ
shape_in s cell = shape_of s.ctl s.cells s.links s.calendar s.words s.bits s.arrived cell

-- steps 2 to 5, the clock having moved: a cell that is let in takes the lowest free space
abbrev pub later_steps : State → List ℕ → Out Work
later_steps s cell = step2 (work_of s (bare_answer 0)) and_then step3 (lowest_free s.bits) cell and_then step4 and_then step5

-- document 01's slot, of a cell that needs no check
abbrev pub unchecked_promise : State → List ℕ → Work → Type 0
unchecked_promise s cell w = w ≡ unchecked_slot s cell
