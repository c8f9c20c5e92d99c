-- The long division of `specs/Check.antt` leaves the remainder, which is linear: so an error changes a syndrome by its own
-- remainder, whatever the header holds.
use mathlib.Core.Path.{◌≡◌, refl, sym, ap, ap₂, ◌∙◌, subst}
use Prim.Native.Nat.{ℕ, zero, suc, ◌+◌, ◌*◌, ◌/◌, ◌%◌, ◌^◌, ◌<◌}
use native.Mathlib.Omega.{arith}
use native.Mathlib.Nat.{zero-add, suc-add, zero-mul, one-mul, div-eq_of_lt, div-lt_iff_lt-mul, pow-suc, mod-lt}
use lib.Dec.{lit<}
use lib.Pow.{pow_pos, pow_mono, pow-add, split}
use lib.Bits.{bit_xor, xor_zero_r, xor_self, xor_lt, xor_block}
use Rattle.base_hec.specs.Check.{remainder, generator}
use Rattle.base_hec.proofs.Xor.{xor_twice, xor_swap}
use Rattle.base_hec.proofs.Linear.{Linear, same, after, sum, digit}

step : ℕ → ℕ → ℕ
step k p = bit_xor p (p / 2 ^ (k + 8) % 2 * (generator * 2 ^ k))

step_linear : (k : ℕ) → Linear (step k)
unfolding step
step_linear k = sum (λ p. p) (λ p. p / 2 ^ (k + 8) % 2 * (generator * 2 ^ k)) same (digit (k + 8) (generator * 2 ^ k))

pub remainder_linear : (k : ℕ) → Linear (remainder k)
unfolding remainder step
remainder_linear zero a b = refl
remainder_linear (suc k) a b = after (remainder k) (step k) (remainder_linear k) (step_linear k) a b

-- a number of at most eight digits is left as it is
pub remainder_small : (k p : ℕ) → p < 2 ^ 8 → remainder k p ≡ p
unfolding remainder
remainder_small zero p h = refl
remainder_small (suc k) p h =
    ap (remainder k)
    (ap (λ (x : ℕ). bit_xor p (x % 2 * (generator * 2 ^ k))) (div-eq_of_lt (lower k))
    ∙ ap (bit_xor p) (zero-mul (generator * 2 ^ k))
    ∙ xor_zero_r p)
    ∙ remainder_small k p h
  where
    lower : (k : ℕ) → p < 2 ^ (k + 8)
    lower k = omega (arith, pow_mono {i = 8} {j = k + 8} (omega arith))

-- What is left has no digit above x^7: the digit looked at goes, and none comes above it.
module _ (k : ℕ) where
  cleared : (d r : ℕ) → d < 2 → r < 2 ^ (k + 8) → bit_xor (d * 2 ^ (k + 8) + r) (d % 2 * (generator * 2 ^ k)) < 2 ^ (k + 8)
  cleared zero r h hr =
      let e : bit_xor (0 * 2 ^ (k + 8) + r) (0 * (generator * 2 ^ k)) ≡ r =
      ap₂ bit_xor (ap (λ (x : ℕ). x + r) (zero-mul (2 ^ (k + 8))) ∙ zero-add r) (zero-mul (generator * 2 ^ k)) ∙ xor_zero_r r in
      subst (λ (x : ℕ). x < 2 ^ (k + 8)) (sym e) hr
  cleared (suc zero) r h hr =
      let p : 2 ^ (k + 8) ≡ 2 ^ k * 2 ^ 8 = pow-add 2 k 8 in
      let h7 : 7 * 2 ^ k < 2 ^ (k + 8) = omega (arith, pow_pos k) in
      let e : bit_xor (1 * 2 ^ (k + 8) + r) (1 * (generator * 2 ^ k)) ≡ 0 * 2 ^ (k + 8) + bit_xor r (7 * 2 ^ k) =
      ap (bit_xor (1 * 2 ^ (k + 8) + r)) (omega arith) ∙ xor_block (k + 8) 1 1 r (7 * 2 ^ k) hr h7 in
      subst (λ (x : ℕ). x < 2 ^ (k + 8)) (sym e) (omega (arith, xor_lt (k + 8) r (7 * 2 ^ k) hr h7))
  cleared (suc (suc d)) r h hr = absurd (omega arith)

  step_lt : (p : ℕ) → p < 2 ^ (suc k + 8) → step k p < 2 ^ (k + 8)
  unfolding step
  step_lt p h =
      let twice : 2 ^ (suc k + 8) ≡ 2 ^ (k + 8) * 2 = ap (λ (n : ℕ). 2 ^ n) (suc-add k 8) ∙ pow-suc 2 (k + 8) in
      let d<2 : p / 2 ^ (k + 8) < 2 = (div-lt_iff_lt-mul (pow_pos (k + 8))).1 (omega arith) in
      subst (λ (x : ℕ). bit_xor x (p / 2 ^ (k + 8) % 2 * (generator * 2 ^ k)) < 2 ^ (k + 8)) (split p (k + 8))
      (cleared (p / 2 ^ (k + 8)) (p % 2 ^ (k + 8)) d<2 (mod-lt p (pow_pos (k + 8))))

pub remainder_lt : (k p : ℕ) → p < 2 ^ (k + 8) → remainder k p < 2 ^ 8
unfolding remainder step
remainder_lt zero p h = h
remainder_lt (suc k) p h = remainder_lt k (step k p) (step_lt k p h)

-- A multiple of the generator: a sum of the generator times powers of x.
pub data Multiple : ℕ → Type 0 where
  none : Multiple 0
  more : (m k : ℕ) → Multiple m → Multiple (bit_xor m (generator * 2 ^ k))

with_digit : (m k d : ℕ) → d < 2 → Multiple m → Multiple (bit_xor m (d * (generator * 2 ^ k)))
with_digit m k zero h x =
    subst Multiple (sym (ap (bit_xor m) (zero-mul (generator * 2 ^ k)) ∙ xor_zero_r m)) x
with_digit m k (suc zero) h x =
    subst Multiple (sym (ap (bit_xor m) (one-mul (generator * 2 ^ k)))) (more m k x)
with_digit m k (suc (suc d)) h x = absurd (omega arith)

-- It is the remainder: what is divided and what is left differ by a multiple of the generator, and what is left has
-- eight digits (`remainder_lt`).
pub divided : (k p : ℕ) → Multiple (bit_xor p (remainder k p))
unfolding remainder
divided zero p = subst Multiple (sym (xor_self p)) none
divided (suc k) p =
    let d : ℕ = p / 2 ^ (k + 8) % 2 in
    let c : ℕ = d * (generator * 2 ^ k) in
    let q : ℕ = bit_xor p c in
    subst Multiple (xor_swap q (remainder k q) c ∙ ap (λ (x : ℕ). bit_xor x (remainder k q)) (xor_twice p c))
    (with_digit (bit_xor q (remainder k q)) k d (mod-lt (p / 2 ^ (k + 8)) (lit< tt)) (divided k q))
