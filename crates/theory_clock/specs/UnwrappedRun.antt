-- A run with the clock that never wraps, call for call beside `call` and `calls` of the runs.
use Rattle.std.specs.Prelude.{ℕ, ◌≡◌, List, [], ◌∷◌}
use Rattle.meaning.specs.State.{with_words}
use Rattle.meaning.specs.Header.{number_in}
use Rattle.meaning.specs.Calls.{Options}
use Rattle.meaning.specs.Line.{line_cell}
use Rattle.meaning_runs.specs.Run.{Call, on_open_with, on_close, on_slot, opened, closed, ran, Run, run_of, shown, served}
use Rattle.meaning_runs.specs.Run.{let_in, calls, fresh_run}
use Rattle.theory_clock.specs.Unwrapped.{unwrapped_open, unwrapped_close, unwrapped_slot, unwrapped_fresh}
use Rattle.theory_clock.specs.Stored.{stored_state}
use Rattle.theory_clock.specs.Kept.{Kept}

unfoldable pub unwrapped_call : Run → Call → Run
unwrapped_call r (on_open_with who name m F C x) =
    let s = r.state in
    let c = unwrapped_open s.ctl s.words who name m F C x in
    run_of (with_words s c.words) (opened who (number_in s.ctl.v name) m F C x c.number ∷ r.events)
unwrapped_call r (on_close who name) =
    let s = r.state in
    let c = unwrapped_close s.ctl s.words who name in
    run_of (with_words s c.words) (closed who (number_in s.ctl.v name) c.number ∷ r.events)
unwrapped_call r (on_slot cell) =
    let w = unwrapped_slot r.state cell in
    run_of w.state (ran (let_in r.state cell).cell w.answer (shown w) ∷ r.events)

unfoldable pub unwrapped_calls : Run → List Call → Run
unwrapped_calls r [] = r
unwrapped_calls r (c ∷ cs) = unwrapped_calls (unwrapped_call r c) cs

unfoldable pub unwrapped_fresh_run : ℕ → ℕ → Options → Run
unwrapped_fresh_run N z o = run_of (unwrapped_fresh N z o) []

-- Demand 2 over runs: of the same calls after setup, with the 32-bit clock and with the one that never wraps
pub record NeverWraps (N z : ℕ) (o : Options) (cs : List Call) : Type 0 where
  -- the same memories, t, `last` and the arrival slots modulo 2^32
  pub memories : (calls (fresh_run N z o) cs).state ≡ stored_state (unwrapped_calls (unwrapped_fresh_run N z o) cs).state
  -- the same numbers, answers and line cells, call for call
  pub answers : (calls (fresh_run N z o) cs).events ≡ (unwrapped_calls (unwrapped_fresh_run N z o) cs).events
  -- the same cell on the line, whatever idle cell is lent and whatever number is asked for
  pub line : (idle : List ℕ) (number : ℕ)
      → line_cell (calls (fresh_run N z o) cs).state.cells idle number
      ≡ line_cell (unwrapped_calls (unwrapped_fresh_run N z o) cs).state.cells idle number
  -- the clock that never wraps is the number of slots served
  pub clock : (unwrapped_calls (unwrapped_fresh_run N z o) cs).state.ctl.t ≡ served (calls (fresh_run N z o) cs).events
  -- rotation is (k + V + 255) modulo V + 256, and no open connection is further behind than since rotation named it
  pub rotation : Kept (unwrapped_calls (unwrapped_fresh_run N z o) cs).state
