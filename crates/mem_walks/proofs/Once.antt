-- "Each public function's promise determines the answer": two answers that the promise of `mem_walks::stored` allows coincide;
-- what it leaves of the budgets is promised by an equation.
use mathlib.Core.Path.{◌≡◌, refl, sym}
use mathlib.Core.Bool.{Bool, true, false}
use Rattle.meaning.specs.declared.Record.{Record}
use Rattle.meaning.specs.Lent.{Lent, LentMut}
use Rattle.mem_walks.specs.Stored.{StoredIn}

pub stored_once : (r : Record) (cells links calendar : Lent) (spaces waits : LentMut) (a b : Bool)
    → (a ≡ true → StoredIn r cells links calendar spaces waits)
    → (StoredIn r cells links calendar spaces waits → a ≡ true)
    → (b ≡ true → StoredIn r cells links calendar spaces waits)
    → (StoredIn r cells links calendar spaces waits → b ≡ true)
    → a ≡ b
stored_once r cells links calendar spaces waits true b yes-a no-a yes-b no-b = sym (no-b (yes-a refl))
stored_once r cells links calendar spaces waits false true yes-a no-a yes-b no-b = no-a (yes-b refl)
stored_once r cells links calendar spaces waits false false yes-a no-a yes-b no-b = refl
