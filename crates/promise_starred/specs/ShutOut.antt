-- Document 01, "Judging the promises": the policers that must be shut out. A policer here is any function that is handed
-- what a slot is handed and gives back what a slot gives back; it may do as it likes with states that no run reaches. Each is
-- shut out whatever was chosen at setup: raw (document 02 (i)) or not, at the UNI or the NNI (vi), with one operator on the card (xi).
use Rattle.std.specs.Prelude.{ℕ, ◌-◌, ◌≡◌, ◌≢◌, false, List}
use Rattle.meaning.specs.declared.Served.{Served}
use Rattle.meaning.specs.Numbers.{empty, lets_in, slot_numbers}
use Rattle.meaning.specs.State.{State, state_of}
use Rattle.meaning.specs.Calls.{Options, Allowed}
use Rattle.meaning.specs.Work.{work_of}
use Rattle.meaning.specs.Words.{connection_at}
use Rattle.meaning.specs.Slot.{slot}
use Rattle.meaning.specs.Promises.{slot_promise}
use Rattle.meaning_runs.specs.Run.{Call, calls, fresh_run}

-- what a slot gives back: record and answer, and the six memories
pub record Given : Type 0 where
  pub served : Served
  pub cells : List ℕ
  pub links : List ℕ
  pub calendar : List ℕ
  pub words : List ℕ
  pub bits : List ℕ
  pub arrived : List ℕ

abbrev pub Policer : Type 0
Policer = State → List ℕ → Given

-- a state that some calls after setup lead to
pub data Reached (o : Options) : State → Type 0 where
  after : (N z : ℕ) → Allowed N z o → (cs : List Call) → Reached o (calls (fresh_run N z o) cs).state

-- demand 2, of the slot
pub record Meets (o : Options) (f : Policer) : Type 0 where
  pub promise : (s : State) → Reached o s → (cell : List ℕ)
      → slot_promise s cell (work_of (state_of (f s cell).served.ctl (f s cell).cells (f s cell).links (f s cell).calendar (f s cell).words (f s cell).bits (f s cell).arrived)
      (f s cell).served.answer)

-- "a policer that always refuses"
abbrev pub AlwaysRefuses : Options → Policer → Type 0
AlwaysRefuses o f = (s : State) → Reached o s → (cell : List ℕ) → (f s cell).served.answer.number ≢ 0

-- "one whose verdict never varies": on one and the same cell
abbrev pub VerdictNeverVaries : Options → Policer → Type 0
VerdictNeverVaries o f = (s s' : State) → Reached o s → Reached o s' → (cell : List ℕ)
    → (f s cell).served.answer.verdict ≡ (f s' cell).served.answer.verdict

-- "one that fills the first slot properly and later only moves t"
abbrev pub LaterOnlyMovesT : Options → Policer → Type 0
LaterOnlyMovesT o f = (s : State) → Reached o s → s.ctl.t ≢ slot_numbers - 1 → (cell : List ℕ)
    → ((f s cell).cells ≡ s.cells) × ((f s cell).links ≡ s.links) × ((f s cell).calendar ≡ s.calendar) × ((f s cell).words ≡ s.words)
    × ((f s cell).bits ≡ s.bits) × ((f s cell).arrived ≡ s.arrived)

-- "one that reports an invented D": in some slot another D than the five steps give
pub record InventsD (o : Options) (f : Policer) : Type 0 where
  pub state : State
  pub reached : Reached o state
  pub cell : List ℕ
  pub other : (f state cell).served.answer.d ≢ (slot state cell).answer.d

-- "or tally": of some connection another count of waiting cells than the five steps leave
pub record InventsTally (o : Options) (f : Policer) : Type 0 where
  pub state : State
  pub reached : Reached o state
  pub cell : List ℕ
  pub vci : ℕ
  pub other : (connection_at (f state cell).words vci).waiting ≢ (connection_at (slot state cell).state.words vci).waiting

-- "One that stores and never sends"
abbrev pub NeverSends : Options → Policer → Type 0
NeverSends o f = (s : State) → Reached o s → (cell : List ℕ) → (f s cell).served.answer.space ≡ empty

-- "discarding everything would meet 3 alone, so 3 is stated over 2's rules"
abbrev pub DiscardsAll : Options → Policer → Type 0
DiscardsAll o f = (s : State) → Reached o s → (cell : List ℕ) → lets_in (f s cell).served.answer.verdict ≡ false
