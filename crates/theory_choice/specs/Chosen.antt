-- Document 02 (vii): nothing but the departing space depends on which free space a cell takes. Runs in which somebody else chooses it.
--
--   Chosen          == a call, and the space that its cell takes, if it lends one and that is let in
--   calls_at r cs    == the run r, and then these calls, in this order
--   FreeEach r cs   == each chosen space is free when its call comes
--   AsLowest        == from a fresh state, with whatever free spaces: the same is said as where each cell takes the lowest one
--   SaidAlike       == so any two choices of free spaces say the same
use Rattle.std.specs.Prelude.{ℕ, ◌≡◌, true, List, [], ◌∷◌, map}
use Rattle.meaning.specs.Bits.{is_free_space}
use Rattle.meaning.specs.Calls.{Options, Allowed}
use Rattle.meaning_runs.specs.Run.{Call, Run, call_at, calls, fresh_run}
use Rattle.meaning_listed.specs.Runs.{but_space}

pub record Chosen : Type 0 where
  pub space : ℕ
  pub made : Call

abbrev pub made_of : Chosen → Call
made_of c = c.made

unfoldable pub calls_at : Run → List Chosen → Run
calls_at r [] = r
calls_at r (c ∷ cs) = calls_at (call_at c.space r c.made) cs

abbrev pub FreeEach : Run → List Chosen → Type 0
FreeEach r [] = Unit {0}
FreeEach r (c ∷ cs) = (is_free_space r.state.bits c.space ≡ true) × FreeEach (call_at c.space r c.made) cs

abbrev pub AsLowest : Type 0
AsLowest = (N z : ℕ) (o : Options) → Allowed N z o → (cs : List Chosen) → FreeEach (fresh_run N z o) cs
    → map but_space (calls_at (fresh_run N z o) cs).events ≡ map but_space (calls (fresh_run N z o) (map made_of cs)).events

abbrev pub SaidAlike : Type 0
SaidAlike = (N z : ℕ) (o : Options) → Allowed N z o → (cs ds : List Chosen) → map made_of cs ≡ map made_of ds
    → FreeEach (fresh_run N z o) cs → FreeEach (fresh_run N z o) ds
    → map but_space (calls_at (fresh_run N z o) cs).events ≡ map but_space (calls_at (fresh_run N z o) ds).events
