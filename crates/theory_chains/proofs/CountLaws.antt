-- How often a number stands in a list: the tests of `is` and `inside` as facts.
use Prim.Native.Nat.{ℕ, ◌≤◌, ◌<◌}
use mathlib.Core.Path.{◌≡◌, refl}
use mathlib.Core.Logic.{◌≢◌}
use native.Mathlib.Decide.{ℕ_discrete, dec_lt}
use native.Mathlib.Omega.{arith}
use borrow.Author.Tests.{eq-eqb, ne_eqb, lt-ltb, le-ltb}
use Rattle.theory_chains.specs.Strung.{is, inside}

pub is_no : (k x : ℕ) → k ≢ x → is k x ≡ 0
unfolding is
is_no k x h = rw (ne_eqb k x h)

pub is_yes : (k x : ℕ) → k ≡ x → is k x ≡ 1
unfolding is
is_yes k x e = rw (eq-eqb k x e)

pub is_same : (k : ℕ) → is k k ≡ 1
is_same k = is_yes k k refl

pub is_le : (k x : ℕ) → is k x ≤ 1
is_le k x = go (ℕ_discrete k x)
  where
    go : Dec (k ≡ x) → is k x ≤ 1
    go (yes e) = omega (arith, is_yes k x e)
    go (no e) = omega (arith, is_no k x e)

pub inside_yes : (k n : ℕ) → k < n → inside k n ≡ 1
unfolding inside
inside_yes k n h = rw (lt-ltb k n h)

pub inside_no : (k n : ℕ) → n ≤ k → inside k n ≡ 0
unfolding inside
inside_no k n h = rw (le-ltb k n h)

pub inside_le : (k n : ℕ) → inside k n ≤ 1
inside_le k n = go (dec_lt k n)
  where
    go : Dec (k < n) → inside k n ≤ 1
    go (yes p) = omega (arith, inside_yes k n p)
    go (no p) = omega (arith, inside_no k n (omega arith))

pub inside_lt : (k n : ℕ) → 0 < inside k n → k < n
inside_lt k n h = go (dec_lt k n)
  where
    go : Dec (k < n) → k < n
    go (yes p) = p
    go (no p) = absurd (omega (arith, inside_no k n (omega arith)))
