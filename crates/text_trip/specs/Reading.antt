-- What the reader reads in a whole trace: the events of its records up to its end, over the very reader of crate trace_record.
--
--   read_from k trace at  == the events from place at on, of at most k records, or the place that can't be read
--   read trace           == those of a whole trace
use Rattle.std.specs.Prelude.{ℕ, zero, suc, ◌+◌, List, [], length}
use Rattle.trace_record.specs.Trace.{Stands, event, finish, refusal, stands_at}
use Rattle.text_meaning.specs.Events.{event_of}
use Rattle.text_meaning.specs.Writing.{Said, good, bad, onto}

unfoldable pub read_at : (ℕ → Said) → List ℕ → Stands → Said
read_at on trace (event r next) = onto (event_of trace r) (on next)
read_at on trace finish = good []
read_at on trace (refusal number place) = bad place

unfoldable pub read_from : ℕ → List ℕ → ℕ → Said
read_from zero trace at = bad at
read_from (suc k) trace at = read_at (read_from k trace) trace (stands_at trace at)

unfoldable pub read : List ℕ → Said
read trace = read_from (length trace + 1) trace 0
