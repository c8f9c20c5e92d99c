-- What a record written at a place means to the reader, over the very reader of the trace. proofs/Top.antt has the theorems.
use Rattle.std.specs.Prelude.{ℕ, ◌+◌, ◌≤◌, ◌<◌, ◌≡◌, ◌⊎◌, List, length, get_or}
use Rattle.trace_record.specs.Trace.{event, stands_at}
use Rattle.text_meaning.specs.Events.{event_of}
use Rattle.text_record.specs.Record.{Given, record_octets, given_event, record_at}

-- the reader at place at of a trace reads the very record r there: its numbers, the place behind it and, of a CA, its octets
pub record Reads (trace : List ℕ) (at : ℕ) (r : Given) : Type 0 where
  pub stands : stands_at trace at ≡ event (record_at at r) (at + length (record_octets r))
  pub says : event_of trace (record_at at r) ≡ given_event r

-- only octets at to next - 1 changed
pub record Kept (out : List ℕ) (at next : ℕ) (out' : List ℕ) : Type 0 where
  pub long : length out' ≡ length out
  pub others : (k : ℕ) → (k < at) ⊎ (next ≤ k) → get_or out' k 0 ≡ get_or out k 0
