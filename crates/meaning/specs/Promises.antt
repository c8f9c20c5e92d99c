-- What each of the six calls promises of its answer and of every lent octet and word afterwards, as its contract cites
-- it (by specs/Lent.antt, where it speaks of all memories). A primed name is what a lent memory holds afterwards.
-- proofs/Once.antt: two results of a promise coincide.
use Rattle.std.specs.Prelude.{ℕ, ◌+◌, ◌≡◌, Bool, true, List, length}
use Rattle.meaning.specs.declared.Record.{Record}
use Rattle.meaning.specs.State.{State}
use Rattle.meaning.specs.Header.{Name}
use Rattle.meaning.specs.Calls.{Asked, SetUp, setup, called_of, open_call, close_call}
use Rattle.meaning.specs.Words.{Second}
use Rattle.meaning.specs.Work.{Work}
use Rattle.meaning.specs.Slot.{slot}
use Rattle.meaning.specs.Line.{Slice, cell_memory, idle_cell, line_part, line_cell}
use Rattle.meaning.specs.Audit.{AuditHolds}

-- "Setup is handed no record": of what is lent the memories alone matter
abbrev pub setup_promise : ℕ → ℕ → Asked → State → SetUp → Type 0
setup_promise N z a lent r = r ≡ setup N z a lent

abbrev pub open_promise : Record → List ℕ → ℕ → Name → ℕ → ℕ → ℕ → Second → ℕ → List ℕ → Type 0
open_promise r words who name m F C x number words' = called_of number words' ≡ open_call r words who name m F C x

abbrev pub close_promise : Record → List ℕ → ℕ → Name → ℕ → List ℕ → Type 0
close_promise r words who name number words' = called_of number words' ≡ close_call r words who name

abbrev pub slot_promise : State → List ℕ → Work → Type 0
slot_promise s cell w = w ≡ slot s cell

-- where a part starts, given where the two slices do: a block of memory and a place in it
abbrev pub start_of : ℕ × ℕ → ℕ × ℕ → Slice → ℕ × ℕ
start_of at_cells at_idle cell_memory = at_cells
start_of at_cells at_idle idle_cell = at_idle

-- The line cell copies nothing: it is octets of one of the two slices, and lies where they lie.
pub record LinePromise (cells idle : List ℕ) (at_cells at_idle : ℕ × ℕ) (number : ℕ) (r : List ℕ) (at : ℕ × ℕ) : Type 0 where
  pub shows : r ≡ line_cell cells idle number
  pub block : at.0 ≡ (start_of at_cells at_idle (line_part (length cells) (length idle) number).slice).0
  pub place : at.1
      ≡ (start_of at_cells at_idle (line_part (length cells) (length idle) number).slice).1
      + (line_part (length cells) (length idle) number).start

-- yes exactly when the audit's clauses hold
pub record AuditPromise (s : State) (r : Bool) : Type 0 where
  pub yes_holds : r ≡ true → AuditHolds s
  pub holds_yes : AuditHolds s → r ≡ true
