-- The works of a slot's cases over one state, for contracts: s is the state once the clock has moved, b and j are what
-- steps 2 and 3 found, a is the seat of an accepted cell.
--
--   quiet_of s b j           == the work after step 3 where no cell is accepted
--   seating_of s b j cell    == what is left of step 3 once the cell is judged accepted: it takes the lowest free space
--   accept_of s b j a cell   == the work after step 3 where the cell is accepted into seat a
--   last_steps w             == steps 4 and 5 of a work after step 3
--   quiet_left s b j o ..    == the work after step 5 where o departs and no cell is accepted: where joins, the chain from
--                              head on has joined the Output List; calendar and bits are as step 4 left them
--   accept_left s b j a ..   == the same of an accepted cell; where clears, entry T is emptied
use Rattle.std.specs.Prelude.{ℕ, Bool, not, Option, List}
use Rattle.meaning.specs.Plain.{when◌then◌else◌, ◌=?◌, Out, ◌and_then◌}
use Rattle.meaning.specs.Numbers.{empty}
use Rattle.meaning.specs.Bits.{lowest_free, taken, marked, unmarked}
use Rattle.meaning.specs.State.{State}
use Rattle.meaning.specs.Lists.{empty_list, write_entry}
use Rattle.meaning.specs.Work.{Work}
use Rattle.meaning.specs.Slot.{step4, step5}
use Rattle.slot_arrive.specs.declared.Fall.{Fall}
use Rattle.slot_arrive.specs.declared.Judged.{Judged}
use Rattle.mem_lists.specs.declared.Seat.{Seat}
use Rattle.mem_lists.specs.declared.Off.{Off}
use Rattle.mem_lists.specs.Spaces.{linked}
use Rattle.slot_plan.specs.Plan.{rotated, quiet_work, seating, accept_work, seat_ends, left_by}

abbrev pub quiet_of : State → Option Fall → Judged → Work
quiet_of s b j = quiet_work s.ctl j s.cells s.links s.calendar (rotated s.ctl b s.words) s.bits s.arrived

abbrev pub seating_of : State → Option Fall → Judged → List ℕ → Out Work
seating_of s b j cell = seating s.ctl j (lowest_free s.bits) cell s.cells s.links s.calendar (rotated s.ctl b s.words) s.bits s.arrived

abbrev pub accept_of : State → Option Fall → Judged → Seat → List ℕ → Work
accept_of s b j a cell = accept_work s.ctl j a cell s.cells s.links s.calendar (rotated s.ctl b s.words) s.bits s.arrived

abbrev pub last_steps : Work → Out Work
last_steps w = step4 w and_then step5

abbrev pub quiet_left : State → Option Fall → Judged → Off → Bool → ℕ → List ℕ → List ℕ → Work
quiet_left s b j o joins head calendar bits =
    left_by (quiet_of s b j) (linked joins s.ctl.outtail head s.links) calendar bits o

abbrev pub accept_left : State → Option Fall → Judged → Seat → List ℕ → Off → Bool → ℕ → Bool → Work
accept_left s b j a cell o joins head clears =
    let links = linked (not (a.head =? empty)) a.x a.head s.links in
    let calendar = write_entry s.calendar a.e (seat_ends a) in
    let bits = marked (taken s.bits a.x) a.e in
    left_by (accept_of s b j a cell) (linked joins s.ctl.outtail head links)
    (when clears then write_entry calendar s.ctl.turn empty_list else calendar)
    (when clears then unmarked bits s.ctl.turn else bits) o
