-- How the program goes through a trace: from one step to the next, each with what it writes. A step is a slot of a pause,
-- a record, or the end.
--
--   World           == where a run stands: the policer's state, the next record, the slots left of a pause, the counts
--   step w          == the next step from w: what it writes, and where the run stands then
--   after k w       == where the run stands after k steps from w;  text_of k w == what they write
use Rattle.std.specs.Prelude.{ℕ, zero, suc, ◌+◌, ◌-◌, ◌%◌, Bool, true, List, [], ◌++◌}
use Rattle.meaning.specs.declared.Record.{Record}
use Rattle.meaning.specs.declared.Answer.{Answer}
use Rattle.meaning.specs.Plain.{when◌then◌else◌, ◌<?◌}
use Rattle.meaning.specs.Numbers.{slot_numbers}
use Rattle.meaning.specs.State.{State, state_of}
use Rattle.meaning.specs.Header.{by_vci, by_vpi}
use Rattle.meaning.specs.Words.{without_second}
use Rattle.meaning.specs.Slot.{slot}
use Rattle.list_lines.specs.Lines.{stop_line}
use Rattle.trace_record.specs.Trace.{TraceRecord, GM, VO, VX, CA, SL, VS, PO, PX, head_options, Stands, event, finish, refusal, stands_at}
use Rattle.list_meaning.specs.declared.Tally.{Tally}
use Rattle.list_whole.specs.declared.Run.{Run}
use Rattle.list_meaning.specs.Trace.{Call, set_up, open_connection, close_connection, serve, cell_of}
use Rattle.list_meaning.specs.Listing.{is_accepted, is_excess, is_unknown, has_sent, end_of, line_of, state_after, ends_run}

pub record World : Type 0 where
  pub state : State
  pub at : ℕ
  pub left : ℕ
  pub done : Bool
  pub tally : Tally

abbrev pub onward : Record → (at left : ℕ) → Bool → Tally → Run
onward r at left done tally = record { ctl = r; at = at; left = left; done = done; tally = tally }

-- a run's numbers and the six memories
abbrev pub world_of : Run → List ℕ → List ℕ → List ℕ → List ℕ → List ℕ → List ℕ → World
world_of r cells links calendar words bits arrived =
    record {
      state = state_of r.ctl cells links calendar words bits arrived;
      at = r.at;
      left = r.left;
      done = r.done;
      tally = r.tally;
    }

-- "each modulo 2^32"
unfoldable pub counted_if : Bool → ℕ → ℕ
counted_if b n = (n + (when b then 1 else 0)) % slot_numbers

unfoldable pub counted : Tally → Answer → Tally
counted t a =
    record {
      accepted = counted_if (is_accepted a) t.accepted;
      excess = counted_if (is_excess a) t.excess;
      unknown = counted_if (is_unknown a) t.unknown;
      sent = counted_if (has_sent a) t.sent;
    }

abbrev pub no_tally : Tally
no_tally = record { accepted = 0; excess = 0; unknown = 0; sent = 0 }

unfoldable pub tally_after : State → Tally → Call → Tally
tally_after s t (set_up N z o) = no_tally
tally_after s t (open_connection name m F C x) = t
tally_after s t (close_connection name) = t
tally_after s t (serve cell) = counted t (slot s cell).answer

pub record Step : Type 0 where
  pub text : List ℕ
  pub world : World

-- a call, with its line; after it comes the record at `at`, or so many slots of a pause
unfoldable pub called : World → Call → (at left : ℕ) → Step
called w c at left =
    record {
      text = line_of w.state c ++ (when ends_run w.state c then end_of no_tally else []);
      world = record {
        state = state_after w.state c;
        at = at;
        left = left;
        done = ends_run w.state c;
        tally = tally_after w.state w.tally c;
      };
    }

-- a pause begins: its slots are steps of their own
unfoldable pub paused : World → (at left : ℕ) → Step
paused w at left =
    record {
      text = [];
      world = record { state = w.state; at = at; left = left; done = w.done; tally = w.tally };
    }

-- the end line, and a line before it
unfoldable pub ended : World → List ℕ → Step
ended w before =
    record {
      text = before ++ end_of w.tally;
      world = record { state = w.state; at = w.at; left = w.left; done = true; tally = w.tally };
    }

unfoldable pub record_step : List ℕ → World → TraceRecord → ℕ → Step
record_step trace w (GM N z head) next = called w (set_up N z (head_options head)) next 0
record_step trace w (VO vci m F C) next = called w (open_connection (by_vci vci) m F C without_second) next 0
record_step trace w (VX vci) next = called w (close_connection (by_vci vci)) next 0
record_step trace w (CA start) next = called w (serve (cell_of trace start)) next 0
record_step trace w (SL count) next = paused w next count
record_step trace w (VS vci m F C x) next = called w (open_connection (by_vci vci) m F C x) next 0
record_step trace w (PO vpi m F C) next = called w (open_connection (by_vpi vpi) m F C without_second) next 0
record_step trace w (PX vpi) next = called w (close_connection (by_vpi vpi)) next 0

-- "A record that can't be read ends the run there", with its place on the stop line; so does the trace's end, with a stop
-- line at that place where the input goes on
unfoldable pub stands_step : Bool → List ℕ → World → Stands → Step
stands_step more trace w (event r next) = record_step trace w r next
stands_step more trace w finish = ended w (when more then stop_line w.at else [])
stands_step more trace w (refusal number place) = ended w (stop_line place)

-- the step of a run that has no slot of a pause left
abbrev pub read_step : Bool → List ℕ → World → Step
read_step more trace w = stands_step more trace w (stands_at trace w.at)

unfoldable pub step : Bool → List ℕ → World → Step
step more trace w =
    when w.done then record { text = []; world = w }
    else when 0 <? w.left then called w (serve []) w.at (w.left - 1)
    else read_step more trace w

unfoldable pub after : Bool → List ℕ → ℕ → World → World
after more trace zero w = w
after more trace (suc k) w = (step more trace (after more trace k w)).world

unfoldable pub text_of : Bool → List ℕ → ℕ → World → List ℕ
text_of more trace zero w = []
text_of more trace (suc k) w = text_of more trace k w ++ (step more trace (after more trace k w)).text
