-- Lists at setup: no queue has a space, and a cleared list holds 0 everywhere.
use Prim.Native.Nat.{ℕ, zero, suc}
use mathlib.Core.Path.{◌≡◌, refl}
use mathlib.Core.List.{List, []}
use lib.ListN.{get_or, replicate}
use Rattle.meaning.specs.Audit.{joined}

pub joined_none : (n : ℕ) → ◌≡◌ {A = List ℕ} (joined (replicate n [])) []
joined_none zero = refl
joined_none (suc n) = joined_none n

-- a cleared list, past its end too
pub get_or_zeros : (n i : ℕ) → ◌≡◌ {A = ℕ} (get_or (replicate n 0) i 0) 0
get_or_zeros zero i = refl
get_or_zeros (suc n) zero = refl
get_or_zeros (suc n) (suc i) = get_or_zeros n i
