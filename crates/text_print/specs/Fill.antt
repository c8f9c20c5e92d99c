-- What a fill of the buffer promises: lines of records while there are records and a line surely fits, no fewer and no more.
use Rattle.std.specs.Prelude.{ℕ, ◌+◌, ◌≤◌, ◌<◌, ◌≡◌, ◌⊎◌, List, [], ◌++◌, length}
use Rattle.trace_record.specs.Trace.{TraceRecord, Stands, event, finish, refusal, stands_at}
use Rattle.list_lines.specs.Put.{Put}
use Rattle.text_print.specs.declared.Printed.{Printed}
use Rattle.text_print.specs.Print.{line_of, line_room}

-- text is the lines of the records from place at to place at', each put while a buffer of long octets had room for a line
pub data Lines (trace : List ℕ) (long at : ℕ) : List ℕ → ℕ → Type 0 where
  none : Lines trace long at [] at
  then : {text : List ℕ} {at' : ℕ} (r : TraceRecord) (next : ℕ) → Lines trace long at text at' → length text + line_room ≤ long
      → stands_at trace at' ≡ event r next → Lines trace long at (text ++ line_of trace r) next

-- no record stands there: the end, or one that can't be read
abbrev pub NoRecord : Stands → Type 0
NoRecord (event r next) = ⊥
NoRecord finish = 0 ≤ 0
NoRecord (refusal number place) = 0 ≤ 0

pub record FillPromise (trace : List ℕ) (at : ℕ) (out : List ℕ) (r : Printed) (out' : List ℕ) : Type 0 where
  pub text : List ℕ
  pub lines : Lines trace (length out) at text r.at
  pub full : NoRecord (stands_at trace r.at) ⊎ (length out < length text + line_room)
  pub put : Put out 0 text out' r.used
  pub within : r.used ≤ length out
