-- Sums of bins: one bin more, one cell more, no bin above the sum; and a sum on 64 bits that wrap, beside the bins laid over
-- each other.
use Rattle.std.proofs.Common.{◌≡◌, ℕ, zero, suc, ◌+◌, ◌*◌, ◌%◌, ◌^◌, ◌<◌, ◌≤◌, List, [], ◌∷◌, length, get_or, take, ap, ◌∙◌, zero-le, le_of_suc-le-suc, not-suc-le-zero, mod-eq_of_lt, suc-mul, mul-le-mul_left, arith}
use native.Mathlib.Nat.{mod-add-mod}
use lib.Bits.{bit_or, bit_and, or_add_and, and_le_l, and_le_r}
use Rattle.call_tally.specs.Tally.{sum, one_more}

pub sum_one_more : (l : List ℕ) (k : ℕ) → k < length l → sum (one_more l k) ≡ sum l + 1
unfolding sum
sum_one_more [] k h = absurd (not-suc-le-zero h)
sum_one_more (x ∷ xs) zero h = omega arith
sum_one_more (x ∷ xs) (suc k) h = omega (arith, sum_one_more xs k (le_of_suc-le-suc h))

pub at_most_sum : (l : List ℕ) (k : ℕ) → get_or l k 0 ≤ sum l
unfolding sum
at_most_sum [] k = zero-le
at_most_sum (x ∷ xs) zero = omega arith
at_most_sum (x ∷ xs) (suc k) = omega (arith, at_most_sum xs k)

pub sum_more : (l : List ℕ) (i : ℕ) → i < length l → sum (take (suc i) l) ≡ sum (take i l) + get_or l i 0
unfolding sum
sum_more [] i h = absurd (not-suc-le-zero h)
sum_more (x ∷ xs) zero h = omega arith
sum_more (x ∷ xs) (suc i) h = omega (arith, sum_more xs i (le_of_suc-le-suc h))

pub sum_take_le : (l : List ℕ) (i : ℕ) → sum (take i l) ≤ sum l
unfolding sum
sum_take_le [] zero = zero-le
sum_take_le [] (suc i) = zero-le
sum_take_le (x ∷ xs) zero = zero-le
sum_take_le (x ∷ xs) (suc i) = omega (arith, sum_take_le xs i)

pub sum_none : (l : List ℕ) → sum (take 0 l) ≡ 0
unfolding sum
sum_none [] = omega arith
sum_none (x ∷ xs) = omega arith

-- the sum s of i bins and those bins laid over each other, a; w is s on 64 bits
pub record Over (i s w a : ℕ) : Type 0 where
  pub wraps : w ≡ s % 2 ^ 64
  pub covers : s ≤ i * a
  pub within : a ≤ s

-- one bin more
pub over_more : (i s w a b : ℕ) → Over i s w a → Over (suc i) (s + b) ((w + b) % 2 ^ 64) (bit_or a b)
over_more i s w a b o =
    let e : bit_or a b + bit_and a b ≡ a + b = or_add_and a b in
    let l = and_le_l a b in
    let r = and_le_r a b in
    let m : i * a ≤ i * bit_or a b = mul-le-mul_left i (omega (arith, e, r)) in
    record {
      wraps = ap (λ (x : ℕ). (x + b) % 2 ^ 64) o.wraps ∙ mod-add-mod s (2 ^ 64) b;
      covers = omega (arith, e, l, m, o.covers, suc-mul i (bit_or a b));
      within = omega (arith, e, o.within);
    }

-- 64 bins below 2^33 add up to the sum on 64 bits
pub not_wrapped : (s w a : ℕ) → Over 64 s w a → a < 2 ^ 33 → w ≡ s
not_wrapped s w a o h = o.wraps ∙ mod-eq_of_lt (omega (arith, o.covers, h))
