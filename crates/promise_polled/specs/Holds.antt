-- BURSTS OVER RUNS. A setup has answered 0, whatever the memory held before; then any calls follow, bursts among them,
-- with any arguments. The run is that of the calls that they stand for, event for event and state for state: answers,
-- line cells, record and memories. So each theorem over runs holds of a card that polls.
--
--   BurstIs r ..      == what a burst after the run r answers, hands out and leaves
--   RunsToo P         == whatever P holds of every run holds of every run with bursts in it
use Rattle.std.specs.Prelude.{ℕ, ◌≡◌, List, [], length}
use Rattle.meaning.specs.State.{State}
use Rattle.meaning.specs.Calls.{Asked, setup}
use Rattle.meaning_runs.specs.Run.{Call, Run, run_of, calls}
use Rattle.call_burst.specs.Burst.{burst}
use Rattle.promise_polled.specs.Polled.{Poll, many, cells_served, ends_with, as_calls, all_calls, handed_out, answered, polls}

pub record BurstIs (r : Run) (arrivals sizes departures answers : List ℕ) : Type 0 where
  -- 0; 2 where a buffer has another length; 9 at the first size that is neither 0 nor 53. Never 1, and never 3.
  pub number_is : (burst r.state arrivals sizes departures answers).number ≡ ends_with arrivals sizes departures answers
  -- `done` slots were served, and the slot that stops a burst changes nothing: the state is that after those calls
  pub done_is : (burst r.state arrivals sizes departures answers).done ≡ length (cells_served arrivals sizes departures answers)
  pub state_is : (burst r.state arrivals sizes departures answers).state ≡ (calls r (as_calls (many arrivals sizes departures answers))).state
  -- every octet of departures and every number of answers
  pub departures_are : (burst r.state arrivals sizes departures answers).departures
      ≡ handed_out r.state (cells_served arrivals sizes departures answers) departures
  pub answers_are : (burst r.state arrivals sizes departures answers).answers
      ≡ answered r.state (cells_served arrivals sizes departures answers) answers

pub record Polled (r : Run) (ps : List Poll) : Type 0 where
  -- the same run: its events, and record and memories
  pub same_run : polls r ps ≡ calls r (all_calls ps)
  -- and any burst that follows
  pub next_burst : (arrivals sizes departures answers : List ℕ) → BurstIs (polls r ps) arrivals sizes departures answers

abbrev pub PolledHolds : Type 0
PolledHolds = (N z : ℕ) (a : Asked) (lent : State)
    → (setup N z a lent).number ≡ 0
    → (ps : List Poll) → Polled (run_of (setup N z a lent).state []) ps

-- of every run from a fresh state, and of every run with bursts in it
abbrev pub OfRuns : (ℕ → ℕ → Asked → Run → Type 0) → Type 0
OfRuns P = (N z : ℕ) (a : Asked) (lent : State)
    → (setup N z a lent).number ≡ 0
    → (cs : List Call) → P N z a (calls (run_of (setup N z a lent).state []) cs)

abbrev pub OfPolledRuns : (ℕ → ℕ → Asked → Run → Type 0) → Type 0
OfPolledRuns P = (N z : ℕ) (a : Asked) (lent : State)
    → (setup N z a lent).number ≡ 0
    → (ps : List Poll) → P N z a (polls (run_of (setup N z a lent).state []) ps)

abbrev pub RunsToo : (ℕ → ℕ → Asked → Run → Type 0) → Type 0
RunsToo P = OfRuns P → OfPolledRuns P
