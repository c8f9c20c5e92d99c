-- What it means that the text of an input was handed over: fill after fill from place 0, each from where the one before left
-- the place and the buffer, and each handed to the writer before the next is made; then, where the lines end before the input
-- does, the refusal. Which octets the system then writes is outside every contract.
--
--   end_of trace       == the place where the lines of a trace end: no record stands there
--   stop_of trace n    == what is said of the place where they end, where the input has n octets
--   Fills             == so many fills, what they put and what they left
--   Shown             == the fills that were handed over, and the refusal behind them
--   Taken             == which octets the writers took
use Rattle.std.specs.Prelude.{ℕ, zero, suc, ◌+◌, ◌≤◌, ◌<◌, ◌≡◌, Bool, true, false, ◌&&◌, List, [], ◌++◌, length, take, Option, Some, None}
use Rattle.std.specs.Io.KnownBytes.{Appends}
use Rattle.meaning.specs.Plain.{when◌then◌else◌, ◌≤?◌, ◌=?◌}
use Rattle.trace_record.specs.Trace.{Stands, event, finish, refusal, stands_at}
use Rattle.list_lines.specs.Lines.{stop_line}
use Rattle.list_lines.specs.Put.{Put}
use Rattle.text_print.specs.declared.Printed.{Printed}
use Rattle.text_print.specs.Print.{line_room, text_of}
use Rattle.text_print.specs.Fill.{FillPromise}

-- so many octets of an input are read as a trace
abbrev pub limit : ℕ
limit = 524_288

abbrev pub standing : Stands → Bool
standing (event r n) = true
standing finish = false
standing (refusal number place) = false

-- where the lines end from a place on, of at most k records: k above the octets left is enough
unfoldable pub end_at : (ℕ → ℕ) → ℕ → Stands → ℕ
end_at on at (event r n) = on n
end_at on at finish = at
end_at on at (refusal number place) = at

unfoldable pub end_from : ℕ → List ℕ → ℕ → ℕ
end_from zero trace at = at
end_from (suc k) trace at = end_at (end_from k trace) at (stands_at trace at)

unfoldable pub end_of : List ℕ → ℕ
end_of trace = end_from (length trace + 1) trace 0

-- a record that can't be read, or one that isn't wholly within what is read; at the input's end there is nothing to say, but
-- an empty input is no trace
abbrev pub at_end : ℕ → ℕ → Bool
at_end at total = 1 ≤? at && at =? total

unfoldable pub stop_of : List ℕ → ℕ → List ℕ
stop_of trace total = when at_end (end_of trace) total then [] else stop_line (end_of trace)

-- text is what count fills put, one after the other; each was made where a record stood
pub data Fills (trace out : List ℕ) : (count : ℕ) (text : List ℕ) (at : ℕ) (out' : List ℕ) → Type 0 where
  no_fill : Fills trace out 0 [] 0 out
  then_fill : {count : ℕ} {text : List ℕ} {at : ℕ} {out' : List ℕ} (r : Printed) (out'' : List ℕ) → Fills trace out count text at out'
      → standing (stands_at trace at) ≡ true → FillPromise trace at out' r out''
      → Fills trace out (suc count) (text ++ take r.used out'') r.at out''

-- The lines of a trace, the answer good and the place at: what was handed over is a beginning of the text, and all of it
-- where every write took all.
pub record Handed (trace out : List ℕ) (good : Bool) (at : ℕ) (out' : List ℕ) : Type 0 where
  pub count : ℕ
  pub text : List ℕ
  pub rest : List ℕ
  pub fills : Fills trace out count text at out'
  pub begins : text_of trace ≡ text ++ rest
  pub within : at ≤ length trace
  pub whole : good ≡ true → (rest ≡ []) × (at ≡ end_of trace) × (standing (stands_at trace at) ≡ false)

-- where the lines end, or nothing where a write failed
abbrev pub HandedTo : List ℕ → List ℕ → Option ℕ → List ℕ → Type 0
HandedTo trace out (Some at) out' = Handed trace out true at out'
HandedTo trace out None out' = (at : ℕ) × Handed trace out false at out'

-- The same with the refusal, for an input of total octets. It is put at the buffer's start once all lines are handed over;
-- where there is none, or a write before it failed, the buffer stays as the last fill left it.
pub record Shown (trace : List ℕ) (total : ℕ) (out : List ℕ) (answer : Bool) (out' : List ℕ) : Type 0 where
  pub good : Bool
  pub at : ℕ
  pub middle : List ℕ
  pub stop : List ℕ
  pub handed : Handed trace out good at middle
  pub put : Put middle 0 stop out' (length stop)
  pub told : (good ≡ true → stop ≡ stop_of trace total) × (good ≡ false → stop ≡ [])
  pub whole : answer ≡ true → good ≡ true

-- a buffer in which a line might not fit is not used, and nothing is written
pub record ShowPromise (input out : List ℕ) (answer : Bool) (out' : List ℕ) : Type 0 where
  pub shown : line_room ≤ length out → Shown (take limit input) (length input) out answer out'
  pub short : length out < line_room → (answer ≡ false) × (out' ≡ out)

-- Yes is said only where both writers took all: where they say which octets they hold, those of the one grew by the text, and
-- those of the other by the refusal. Before and after, of the one and of the other.
pub record Taken (trace : List ℕ) (total : ℕ) (a a' b b' : Option (List ℕ)) : Type 0 where
  pub lines : Appends a a' (text_of trace)
  pub stop : Appends b b' (stop_of trace total)
