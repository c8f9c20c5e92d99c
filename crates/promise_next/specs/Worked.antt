-- A worked run of request (ix), N 5: VC 1 with m 0, F 3, C 6 sends cells in slots 0 and 1. The first leaves at once, the second has D 2:
-- after slot 1 the answer is 2. Slot 2 sends nothing, and the answer is 1; slot 3 sends the cell, and then none waits.
use Rattle.std.specs.Prelude.{◌≡◌, List, [], ◌∷◌}
use Rattle.meaning.specs.declared.Wait.{Wait}
use Rattle.meaning.specs.Calls.{plain}
use Rattle.meaning.specs.Next.{wait_of}
use Rattle.meaning_runs.specs.Run.{Call, on_open, on_slot, Run, call, fresh_run}
use Rattle.meaning_runs.specs.Eight.{cell_for}
use Rattle.promise_next.specs.Next.{next_in}

abbrev pub two_cells : List Call
two_cells = on_open 1 0 3 6 ∷ on_slot (cell_for 1) ∷ on_slot (cell_for 1) ∷ on_slot [] ∷ on_slot [] ∷ []

-- the answers after each of the calls
unfoldable pub answers_after : Run → List Call → List Wait
answers_after r [] = []
answers_after r (c ∷ cs) = next_in (call r c).state ∷ answers_after (call r c) cs

abbrev pub NextWorked : Type 0
NextWorked = answers_after (fresh_run 5 2 plain) two_cells
    ≡ wait_of 0 0 ∷ wait_of 0 0 ∷ wait_of 0 2 ∷ wait_of 0 1 ∷ wait_of 0 0 ∷ []
