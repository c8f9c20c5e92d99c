-- Document 01, "Judging the promises": demand 3 of another policer's events. "One that stores and never sends is shut out by
-- demands 2 and 3; discarding everything would meet 3 alone, so 3 is stated over 2's rules."
--
--   calls_by f r cs   == the run r, and then the calls cs, where f serves the slots; open and close are as they are
--   OnEvents N h     == the clauses of demand 3 that speak of the events alone, as they stand in promises/specs/Demand3
--   Meets3 o f       == they hold of each of its own runs from a fresh state
--   keeper           == a policer that stores and never sends: steps 1 to 4, and never 5
--   swallower        == one that accepts every cell and keeps none
--   discarder        == a policer that finds every cell excess
use Rattle.std.specs.Prelude.{ℕ, ◌+◌, ◌-◌, ◌≤◌, ◌<◌, ◌≡◌, false, List, [], ◌∷◌, length}
use Rattle.meaning.specs.Plain.{when◌then◌else◌, ◌=?◌, ◌and_then◌}
use Rattle.meaning.specs.Numbers.{nothing, accepted, excess, empty, lets_in}
use Rattle.meaning.specs.State.{state_of}
use Rattle.meaning.specs.Bits.{lowest_free}
use Rattle.meaning.specs.Calls.{Options, Allowed}
use Rattle.meaning.specs.Work.{Work, work_of, answer_of, bare_answer}
use Rattle.meaning.specs.Slot.{step1, step2, step3, step4, finish}
use Rattle.meaning_runs.specs.Run.{Call, on_open_with, on_close, on_slot, Event, ran, Run, run_of, shown, let_in, call, fresh_run, served}
use Rattle.meaning_runs.specs.Seen.{cells_of, departures_of, cell_at, departure_at}
use Rattle.promise_starred.specs.ShutOut.{Given, Policer}

-- ── the runs of another policer ──
abbrev pub work_by : Given → Work
work_by g = work_of (state_of g.served.ctl g.cells g.links g.calendar g.words g.bits g.arrived) g.served.answer

unfoldable pub call_by : Policer → Run → Call → Run
call_by f r (on_open_with who name m F C x) = call r (on_open_with who name m F C x)
call_by f r (on_close who name) = call r (on_close who name)
call_by f r (on_slot cell) =
    let w = work_by (f r.state cell) in
    run_of w.state (ran (let_in r.state cell).cell w.answer (shown w) ∷ r.events)

unfoldable pub calls_by : Policer → Run → List Call → Run
calls_by f r [] = r
calls_by f r (c ∷ cs) = calls_by f (call_by f r c) cs

-- ── demand 3, of events ──
pub record OnEvents (N : ℕ) (h : List Event) : Type 0 where
  pub was_accepted : (v k : ℕ) → k < length (departures_of v h) → k < length (cells_of v h)
  pub in_order : (v j k : ℕ) → j < k → k < length (departures_of v h)
      → ((cell_at v j h).arrival < (cell_at v k h).arrival)
      × ((departure_at v j h).slot < (departure_at v k h).slot)
  pub unchanged : (v k : ℕ) → k < length (departures_of v h)
      → (departure_at v k h).octets ≡ (cell_at v k h).octets
  pub not_early : (v k : ℕ) → k < length (departures_of v h)
      → (cell_at v k h).due ≤ (departure_at v k h).slot
  pub not_late : (v k : ℕ) → k < length (departures_of v h)
      → (departure_at v k h).slot ≤ (cell_at v k h).due + (N - 1)
  pub leaves : (v k : ℕ) → k < length (cells_of v h) → (cell_at v k h).due + (N - 1) < served h
      → k < length (departures_of v h)
  pub delay : (v k : ℕ) → k < length (cells_of v h)
      → ((cell_at v k h).due ≡ (cell_at v k h).arrival + (cell_at v k h).D)
      × ((cell_at v k h).D ≤ N - 1)

abbrev pub OfOwnRuns : Options → Policer → (ℕ → Run → Type 0) → Type 0
OfOwnRuns o f P = (N z : ℕ) → Allowed N z o → (cs : List Call) → P N (calls_by f (fresh_run N z o) cs)

abbrev pub Meets3 : Options → Policer → Type 0
Meets3 o f = OfOwnRuns o f (λ N r. OnEvents N r.events)

-- ── of its own runs: what is lent next ──
abbrev pub SendsNothing : Options → Policer → Type 0
SendsNothing o f = OfOwnRuns o f (λ N r. (cell : List ℕ) → (f r.state cell).served.answer.space ≡ empty)

abbrev pub AcceptsNothing : Options → Policer → Type 0
AcceptsNothing o f = OfOwnRuns o f (λ N r. (cell : List ℕ) → lets_in (f r.state cell).served.answer.verdict ≡ false)

-- it goes on: a slot that is lent no cell is served
abbrev pub ServesOn : Options → Policer → Type 0
ServesOn o f = OfOwnRuns o f (λ N r. (f r.state []).served.answer.number ≡ 0)

-- it accepts a cell of some connection in some run
pub record Stores (o : Options) (f : Policer) : Type 0 where
  pub N : ℕ
  pub z : ℕ
  pub allowed : Allowed N z o
  pub before : List Call
  pub vci : ℕ
  pub stored : 0 < length (cells_of vci (calls_by f (fresh_run N z o) before).events)

-- ── three such policers ──
abbrev given : Work → Given
given w =
    record {
      served = record { ctl = w.state.ctl; answer = w.answer };
      cells = w.state.cells;
      links = w.state.links;
      calendar = w.state.calendar;
      words = w.state.words;
      bits = w.state.bits;
      arrived = w.state.arrived;
    }

abbrev pub keeper : Policer
keeper s cell = given (finish s (step1 (work_of s (bare_answer 0)) and_then step2 and_then step3 (lowest_free s.bits) cell and_then step4))

abbrev pub swallower : Policer
swallower s cell = given (work_of s (answer_of 0 (when length cell =? 0 then nothing else accepted) 1 0 empty 0))

abbrev pub discarder : Policer
discarder s cell = given (work_of s (answer_of 0 excess 0 0 empty 0))
