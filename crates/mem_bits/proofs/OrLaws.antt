-- The OR of words is 0 exactly where each of them is, so that one test judges all words that N does not reach.
use Prim.Native.Nat.{ℕ, zero, suc, ◌+◌, ◌*◌, ◌/◌, ◌%◌, ◌^◌, ◌<◌}
use mathlib.Core.Path.{◌≡◌, ◌∙◌, ap}
use mathlib.Core.List.{List, [], ◌∷◌}
use native.Mathlib.Nat.{one-mul}
use native.Mathlib.Omega.{arith}
use lib.Bits.{bit_and, bit_or, or_add_and}
use lib.Dec.{lit<}
use Rattle.std.proofs.Common.{All, fold}
use Rattle.std.proofs.lemmas.Nat.{le_or_l, le_or_r}
use Rattle.std.proofs.lemmas.Nat.Bits.{and_pow}
use lib.Pow.{shl_exact}

-- the OR of a and some words
pub or_words : (a : ℕ) (words : List ℕ) → fold bit_or a words ≡ 0 → (a ≡ 0) × All (λ w. w ≡ 0) words
or_words a [] e = (e, λ k d p. absurd (omega arith))
or_words a (x ∷ words) e = both (or_words (bit_or a x) words e)
  where
    both : (bit_or a x ≡ 0) × All (λ w. w ≡ 0) words → (a ≡ 0) × All (λ w. w ≡ 0) (x ∷ words)
    both rest = (omega (arith, rest.0, le_or_l a x), each)
      where
        each : All (λ w. w ≡ 0) (x ∷ words)
        each zero d p = omega (arith, rest.0, le_or_r a x)
        each (suc k) d p = rest.1 k d (omega arith)

pub words_or : (a : ℕ) (words : List ℕ) → a ≡ 0 → All (λ w. w ≡ 0) words → fold bit_or a words ≡ 0
words_or a [] z f = z
words_or a (x ∷ words) z f = words_or (bit_or a x) words (omega (arith, z, f zero 0 (omega arith), or_add_and a x)) (λ k d p. f (suc k) d (omega arith))

-- `1 << m` is 2 ^ m
pub one_shl : (m : ℕ) → m < 64 → 1 * 2 ^ m % 2 ^ 64 ≡ 2 ^ m
one_shl m h = shl_exact 1 m 64 (lit< tt) (omega arith) ∙ one-mul (2 ^ m)

-- ── one bit ──
pub or_set : (w k : ℕ) → w / 2 ^ k % 2 ≡ 1 → bit_or w (2 ^ k) ≡ w
or_set w k e =
    let a : bit_and w (2 ^ k) ≡ 1 * 2 ^ k = and_pow w k ∙ ap (λ (x : ℕ). x * 2 ^ k) e in
    omega (arith, or_add_and w (2 ^ k), a)

pub or_clear : (w k : ℕ) → w / 2 ^ k % 2 ≡ 0 → bit_or w (2 ^ k) ≡ w + 2 ^ k
or_clear w k e =
    let a : bit_and w (2 ^ k) ≡ 0 * 2 ^ k = and_pow w k ∙ ap (λ (x : ℕ). x * 2 ^ k) e in
    omega (arith, or_add_and w (2 ^ k), a)
