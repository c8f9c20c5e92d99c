-- What is promised where a case is lent fewer memories than all: it holds whatever the others hold, which are its first lists.
--
--   EndsWith k b j o ..     == o departs, and entry T has joined the Output List where joins, and was emptied where clears: links, words
--                              and bits are written
--   GivesWith r k b j f ..  == the slot gives what the steps f say of the work after step 3, or all as it came; r is the
--                              record that came
--   AllWith r k b j f ..    == the same, only the arrival slots not being lent
--   KeepsWith k b j ..      == nothing departs: only the words are written
--   MayEnd k o ..           == links and words are there, and the connection of what departs has a cell waiting
use Rattle.std.specs.Prelude.{ℕ, ◌≤◌, ◌<◌, ◌≡◌, Bool, Option, List, length, get_or}
use Rattle.meaning.specs.declared.Record.{Record}
use Rattle.meaning.specs.declared.Served.{Served}
use Rattle.meaning.specs.Plain.{when◌then◌else◌, Out}
use Rattle.meaning.specs.Numbers.{connections_in, words_in, waiting_place}
use Rattle.meaning.specs.Bits.{unmarked}
use Rattle.meaning.specs.State.{state_of}
use Rattle.meaning.specs.Work.{Work}
use Rattle.meaning.specs.Slot.{finish}
use Rattle.meaning.specs.Lent.{SliceMut, Lent, LentMut}
use Rattle.slot_arrive.specs.declared.Fall.{Fall}
use Rattle.slot_arrive.specs.declared.Judged.{Judged}
use Rattle.mem_lists.specs.declared.Off.{Off}
use Rattle.slot_plan.specs.Plan.{served_work}
use Rattle.slot_plan.specs.Works.{quiet_of, quiet_left}

abbrev pub EndsWith : List ℕ → List ℕ → List ℕ → List ℕ → Record → Option Fall → Judged → Off → Bool → ℕ → Bool → Served → LentMut → LentMut → LentMut → Type 0
EndsWith cells calendar calendar' arrived k b j o joins head clears s links words bits =
    served_work s cells links.exit.now calendar' words.exit.now bits.exit.now arrived
    ≡ quiet_left (state_of k cells links.entry.now calendar words.entry.now bits.entry.now arrived) b j o joins head calendar'
    (when clears then unmarked bits.entry.now k.turn else bits.entry.now)

abbrev pub GivesWith : List ℕ → List ℕ → Record → Record → Option Fall → Judged → (Work → Out Work) → Served → Lent → LentMut → LentMut → LentMut → Type 0
GivesWith calendar arrived r k b j steps s cells links words bits =
    served_work s cells.entry.now links.exit.now calendar words.exit.now bits.exit.now arrived
    ≡ finish (state_of r cells.entry.now links.entry.now calendar words.entry.now bits.entry.now arrived)
    (steps (quiet_of (state_of k cells.entry.now links.entry.now calendar words.entry.now bits.entry.now arrived) b j))

abbrev pub AllWith : List ℕ → Record → Record → Option Fall → Judged → (Work → Out Work) → Served → Lent → LentMut → LentMut → LentMut → LentMut → Type 0
AllWith arrived r k b j steps s cells links calendar words bits =
    served_work s cells.entry.now links.exit.now calendar.exit.now words.exit.now bits.exit.now arrived
    ≡ finish (state_of r cells.entry.now links.entry.now calendar.entry.now words.entry.now bits.entry.now arrived)
    (steps (quiet_of (state_of k cells.entry.now links.entry.now calendar.entry.now words.entry.now bits.entry.now arrived) b j))

abbrev pub KeepsWith : List ℕ → List ℕ → List ℕ → List ℕ → List ℕ → Record → Option Fall → Judged → Served → LentMut → Type 0
KeepsWith cells links calendar bits arrived k b j s words =
    served_work s cells links calendar words.exit.now bits arrived ≡ quiet_of (state_of k cells links calendar words.entry.now bits arrived) b j

abbrev pub MayEnd : Record → Off → SliceMut → SliceMut → Type 0
MayEnd k o links words =
    (length links.now ≡ k.n) × (length words.now ≡ words_in k.v) × (k.rotation < connections_in k.v) × (o.vci < connections_in k.v)
    × (1 ≤ get_or words.now (waiting_place o.vci) 0)
