-- Document 01, "Trace and listing": what a trace asks of the policer, call after call. A pause is so many empty slots, so
-- every call has its line.
--
--   Call           == one call: setup with what is chosen there, open of a VC or path with a second bucket or none, close, or a slot with
--                     the octets lent to it (none or 53)
--   Calls          == the calls of a trace, one after the other, and how it ends: at its end, or where it can't be read
--   calls_of input  == the calls of what the program is given
use Rattle.std.specs.Prelude.{ℕ, zero, suc, ◌+◌, Bool, List, [], length, take, drop}
use Rattle.meaning.specs.Plain.{when◌then◌else◌, ◌<?◌}
use Rattle.meaning.specs.Numbers.{octets}
use Rattle.meaning.specs.Header.{Name, by_vci, by_vpi}
use Rattle.meaning.specs.Words.{Second, without_second}
use Rattle.meaning.specs.Calls.{Options}
use Rattle.trace_record.specs.Trace.{TraceRecord, GM, VO, VX, CA, SL, VS, PO, PX, head_options, Stands, event, finish, refusal, stands_at}

pub data Call : Type 0 where
  set_up : (N z : ℕ) (o : Options) → Call
  open_connection : (name : Name) (m F C : ℕ) (x : Second) → Call
  close_connection : (name : Name) → Call
  serve : (cell : List ℕ) → Call

pub data Calls : Type 0 where
  finished : Calls
  stopped : (place : ℕ) → Calls
  call : Call → Calls → Calls

-- "SL: a count (16) of empty slots"
unfoldable pub pauses : ℕ → Calls → Calls
pauses zero rest = rest
pauses (suc k) rest = call (serve []) (pauses k rest)

-- "CA: 53 octets, one slot": those that start at place start
unfoldable pub cell_of : List ℕ → ℕ → List ℕ
cell_of trace start = take octets (drop start trace)

-- the calls of one record, before the rest: a VO is a VS without a second bucket; document 02 (vi): "PO and PX are VO and VX with
-- the VPI"
unfoldable pub record_calls : List ℕ → TraceRecord → Calls → Calls
record_calls trace (GM N z head) rest = call (set_up N z (head_options head)) rest
record_calls trace (VO vci m F C) rest = call (open_connection (by_vci vci) m F C without_second) rest
record_calls trace (VX vci) rest = call (close_connection (by_vci vci)) rest
record_calls trace (CA start) rest = call (serve (cell_of trace start)) rest
record_calls trace (SL count) rest = pauses count rest
record_calls trace (VS vci m F C x) rest = call (open_connection (by_vci vci) m F C x) rest
record_calls trace (PO vpi m F C) rest = call (open_connection (by_vpi vpi) m F C without_second) rest
record_calls trace (PX vpi) rest = call (close_connection (by_vpi vpi)) rest

-- "A record that can't be read ends the run there"; "also one that would start at 65,536 because the input goes on":
-- more says that the input goes on behind the trace
unfoldable pub calls_at : Bool → List ℕ → (ℕ → Calls) → ℕ → Stands → Calls
calls_at more trace rest at (event r next) = record_calls trace r (rest next)
calls_at more trace rest at finish = when more then stopped at else finished
calls_at more trace rest at (refusal number place) = stopped place

-- the calls from a place on, of at most k records: k above the octets left is enough (`calls-enough`)
unfoldable pub calls_from : ℕ → Bool → List ℕ → ℕ → Calls
calls_from zero more trace at = stopped at
calls_from (suc k) more trace at = calls_at more trace (calls_from k more trace) at (stands_at trace at)

-- "The program reads the first 65,536 octets"
abbrev pub limit : ℕ
limit = 65_536

unfoldable pub goes_further : List ℕ → Bool
goes_further input = limit <? length input

unfoldable pub calls_of : List ℕ → Calls
calls_of input = calls_from (limit + 1) (goes_further input) (take limit input) 0
