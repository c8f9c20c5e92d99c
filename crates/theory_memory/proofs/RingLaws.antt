-- The calendar as a ring: entries (b + i) and (b + j) modulo N differ.
use Prim.Native.Nat.{ℕ, ◌+◌, ◌-◌, ◌%◌, ◌<◌}
use mathlib.Core.Path.{sym, ap, ◌∙◌}
use mathlib.Core.Logic.{◌≢◌}
use native.Mathlib.Nat.{mod-lt, mod-eq_of_lt, mod-eq-sub-mod, mod-add-mod}
use native.Mathlib.Decide.{dec_lt}
use native.Mathlib.Omega.{arith}

shift_ne : (n r e : ℕ) → r < n → 0 < e → e < n → (r + e) % n ≢ r
shift_ne n r e h p k = go (dec_lt (r + e) n)
  where
    go : Dec (r + e < n) → (r + e) % n ≢ r
    go (yes q) z = omega (arith, mod-eq_of_lt q)
    go (no q) z =
        omega (arith, mod-eq-sub-mod {n = r + e} {m = n} (omega arith), mod-eq_of_lt {n = r + e - n} {m = n} (omega arith))

later_ne : (n b j i : ℕ) → i < n → j < i → (b + i) % n ≢ (b + j) % n
later_ne n b j i h k e =
    shift_ne n ((b + j) % n) (i - j) (mod-lt (b + j) (omega arith)) (omega arith) (omega arith)
    (mod-add-mod (b + j) n (i - j) ∙ ap (λ (m : ℕ). m % n) (omega arith) ∙ e)

pub entry_ne : (n b i j : ℕ) → i < n → j < n → i ≢ j → (b + i) % n ≢ (b + j) % n
entry_ne n b i j hi hj ne e = go (dec_lt i j)
  where
    go : Dec (i < j) → ⊥
    go (yes p) = later_ne n b i j hj p (sym e)
    go (no p) = later_ne n b j i hi (omega arith) e
