-- Record and lent memories as one state, for contracts: `here` as a `requires` sees them, `before` and `after` as an
-- `ensures` does. A further lent memory is one more word here and in the parameter lists, and no other word of a contract.
--
--   here r ..         == the record r and what the memories hold at the call
--   before r ..       == the same, said in an `ensures`
--   seen r ..         == the same of memories that the call only reads
--   after r ..        == the record r and what they hold at the return
--   set_up_after s ..   == what a setup gives back: the number of s, and the state that it leaves, with the record of s
--   served_after s ..  == what a slot gives back: the state that it leaves, with the record of s, and the answer of s
--   Gives r o s ..    == a slot that came with the record r gives back s and what o says, or, o being refused, all as it came
use Rattle.std.specs.Prelude.{ℕ, ◌≡◌, List}
use Rattle.std.specs.Borrow.{Bor, MutBor}
use denote.Triple.Both.{Both}
use Rattle.meaning.specs.declared.Record.{Record}
use Rattle.meaning.specs.declared.Fresh.{Fresh}
use Rattle.meaning.specs.declared.Served.{Served}
use Rattle.meaning.specs.Plain.{Out}
use Rattle.meaning.specs.State.{State, state_of}
use Rattle.meaning.specs.Calls.{SetUp, set_up_of}
use Rattle.meaning.specs.Work.{Work, work_of}
use Rattle.meaning.specs.Slot.{finish}

abbrev pub Slice : Type 0
Slice = Bor (List ℕ)

abbrev pub Lent : Type 0
Lent = Both Slice Slice

-- the same of a memory that the call may write
abbrev pub SliceMut : Type 0
SliceMut = MutBor (List ℕ)

abbrev pub LentMut : Type 0
LentMut = Both SliceMut SliceMut

abbrev pub here : Record → SliceMut → SliceMut → SliceMut → SliceMut → SliceMut → SliceMut → State
here r cells links calendar words bits arrived = state_of r cells.now links.now calendar.now words.now bits.now arrived.now

abbrev pub before : Record → LentMut → LentMut → LentMut → LentMut → LentMut → LentMut → State
before r cells links calendar words bits arrived =
    state_of r cells.entry.now links.entry.now calendar.entry.now words.entry.now bits.entry.now arrived.entry.now

-- the same of memories that the call only reads
abbrev pub seen : Record → Lent → Lent → Lent → Lent → Lent → Lent → State
seen r cells links calendar words bits arrived =
    state_of r cells.entry.now links.entry.now calendar.entry.now words.entry.now bits.entry.now arrived.entry.now

abbrev pub after : Record → LentMut → LentMut → LentMut → LentMut → LentMut → LentMut → State
after r cells links calendar words bits arrived =
    state_of r cells.exit.now links.exit.now calendar.exit.now words.exit.now bits.exit.now arrived.exit.now

abbrev pub set_up_after : Fresh → LentMut → LentMut → LentMut → LentMut → LentMut → LentMut → SetUp
set_up_after s cells links calendar words bits arrived = set_up_of s.number (after s.ctl cells links calendar words bits arrived)

abbrev pub served_after : Served → LentMut → LentMut → LentMut → LentMut → LentMut → LentMut → Work
served_after s cells links calendar words bits arrived = work_of (after s.ctl cells links calendar words bits arrived) s.answer

abbrev pub Gives : Record → Out Work → Served → LentMut → LentMut → LentMut → LentMut → LentMut → LentMut → Type 0
Gives r o s cells links calendar words bits arrived =
    served_after s cells links calendar words bits arrived ≡ finish (before r cells links calendar words bits arrived) o
