-- The old form is a run of the new one in which somebody else chooses the spaces: each cell takes the head of the Free List.
--
--   heads l cs   == the calls cs of the old form's run l, each with the head of its Free List as that call finds it
--   IsChosen     == from a fresh state: these spaces are free, and with them the new form says what the old one says, spaces and all
use Rattle.std.specs.Prelude.{ℕ, ◌≡◌, List, [], ◌∷◌}
use Rattle.meaning.specs.Calls.{Options, Allowed}
use Rattle.meaning_runs.specs.Run.{Call, fresh_run}
use Rattle.meaning_listed.specs.Listed.{fresh_listed}
use Rattle.meaning_listed.specs.Runs.{ListedRun, listed_run, call_listed, calls_listed}
use Rattle.theory_choice.specs.Chosen.{Chosen, calls_at, FreeEach}

abbrev pub chosen : ListedRun → Call → Chosen
chosen l c = record { space = l.listed.free.head; made = c }

unfoldable pub heads : ListedRun → List Call → List Chosen
heads l [] = []
heads l (c ∷ cs) = chosen l c ∷ heads (call_listed l c) cs

abbrev pub fresh_old : ℕ → ℕ → Options → ListedRun
fresh_old N z o = listed_run (fresh_listed N z o) []

abbrev pub IsChosen : Type 0
IsChosen = (N z : ℕ) (o : Options) → Allowed N z o → (cs : List Call)
    → FreeEach (fresh_run N z o) (heads (fresh_old N z o) cs)
    × ((calls_at (fresh_run N z o) (heads (fresh_old N z o) cs)).events ≡ (calls_listed (fresh_old N z o) cs).events)
