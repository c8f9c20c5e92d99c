-- What it means that a trace, or the line that says why there is none, was handed over: first it is made whole, then the buffer
-- is filled from its start with what comes next of it, as much as the buffer holds, and each fill is handed to the writer
-- before the next is made. Which octets the system then writes, and what the writer answers, is outside every contract.
--
--   Fills     == so many fills, what they put and what they left
--   Passed    == the fills that were handed to one writer
--   Handed    == both are made; the trace is handed to the first writer, and then the line to the second
--   Taken     == which octets the writers took
use Rattle.std.specs.Prelude.{ℕ, suc, ◌<◌, ◌≡◌, Bool, true, false, List, [], ◌++◌, length, take, drop}
use Rattle.std.specs.declared.option.Option.{Option}
use Rattle.std.specs.Io.KnownBytes.{Appends}
use Rattle.list_lines.specs.Put.{Put}
use Rattle.text_scribe.specs.Scribe.{said_of, trace_of, error_of, Scribed, ScribePromise}

-- sent is what count fills put, one after the other; each was made before all was sent
pub data Fills (all out : List ℕ) : (count : ℕ) (sent out' : List ℕ) → Type 0 where
  no_fill : Fills all out 0 [] out
  then_fill : {count : ℕ} {sent out' : List ℕ} (used : ℕ) (out'' : List ℕ) → Fills all out count sent out' → length sent < length all
      → Put out' 0 (take (length out) (drop (length sent) all)) out'' used
      → Fills all out (suc count) (sent ++ take used out'') out''

-- What was handed over is a beginning of all. The answer is yes only where it is all of it, and no only after a fill; so where
-- there is nothing to hand over it is yes, and no fill is made.
pub record Passed (all out : List ℕ) (answer : Bool) (out' : List ℕ) : Type 0 where
  pub count : ℕ
  pub sent : List ℕ
  pub rest : List ℕ
  pub fills : Fills all out count sent out'
  pub begins : all ≡ sent ++ rest
  pub whole : answer ≡ true → rest ≡ []
  pub some : answer ≡ false → 0 < count

-- The line is handed over where the trace was; one of them is always empty.
pub record Handed (input whole line out : List ℕ) (answer : Bool) (whole' line' out' : List ℕ) : Type 0 where
  pub made : Scribed
  pub promise : ScribePromise input whole line made whole' line'
  pub good : Bool
  pub middle : List ℕ
  pub trace : Passed (trace_of (said_of input) (length whole)) out good middle
  pub error : good ≡ true → Passed (error_of (said_of input) (length whole)) middle answer out'
  pub cut : good ≡ false → (answer ≡ false) × (out' ≡ middle)

-- Yes is said only where both writers took all: where they say which octets they hold, those of the first grew by the trace, and
-- those of the second by the line, of which one is empty. Before and after, of the one and of the other.
pub record Taken (input : List ℕ) (room : ℕ) (a a' b b' : Option (List ℕ)) : Type 0 where
  pub trace : Appends a a' (trace_of (said_of input) room)
  pub error : Appends b b' (error_of (said_of input) room)
