-- REQUEST (iv) of document 02: a connection opened without a second bucket is judged as before. A setup has answered 0, whatever the
-- memory held before, then any calls followed, refused ones among them; h is what was called and said, the newest first, s the
-- record and memory that the next call gets, z is V, and kind the line kind.
--
--   by_peak t c o     == verdict, VCI and D of a cell of the connection c that arrives in slot t, by the peak bucket's rule alone: those of
--                       document 01
--   AsBefore         == in the next slot they are what is answered, whatever the cell's CLP, if m, F, C and flag of the second
--                       bucket were all 0 when the connection was opened. So none of its cells is tagged, nor excess but by the peak
use Rattle.std.specs.Prelude.{ℕ, ◌-◌, ◌≡◌, true, List, [], length}
use Rattle.std.proofs.Math.Option.{some}
use Rattle.meaning.specs.Plain.{when◌then◌else◌}
use Rattle.meaning.specs.Numbers.{octets, accepted, excess}
use Rattle.meaning.specs.State.{State}
use Rattle.meaning.specs.Header.{connection, names_connection}
use Rattle.meaning.specs.Words.{without_second}
use Rattle.meaning.specs.Calls.{Asked, setup}
use Rattle.meaning.specs.Slot.{slot}
use Rattle.meaning_runs.specs.Run.{Call, Event, run_of, calls, served}
use Rattle.meaning_runs.specs.Leak.{Opening, due_slot, leak_accepts, opening_of}
use Rattle.meaning_runs.specs.Judged.{Judged, judged_of}
use Rattle.promises.specs.Demand3.{header_let_in}

abbrev pub by_peak : ℕ → ℕ → Opening → Judged
by_peak t c o = when leak_accepts o t then judged_of accepted c (due_slot o t - t) else judged_of excess c 0

pub record AsBefore (z kind : ℕ) (h : List Event) (s : State) : Type 0 where
  pub by_peak_alone : (cell : List ℕ) (o : Opening) → length cell ≡ octets
      → names_connection z (header_let_in kind s cell) ≡ true
      → opening_of (connection z (header_let_in kind s cell)) h ≡ some o
      → o.second ≡ without_second
      → judged_of (slot s cell).answer.verdict (slot s cell).answer.vci (slot s cell).answer.d
      ≡ by_peak (served h) (connection z (header_let_in kind s cell)) o

-- of every run from a fresh state
abbrev pub AsBeforeHolds : Type 0
AsBeforeHolds = (N z : ℕ) (a : Asked) (lent : State)
    → (setup N z a lent).number ≡ 0
    → (cs : List Call)
    → let r = calls (run_of (setup N z a lent).state []) cs in AsBefore z a.kind r.events r.state
