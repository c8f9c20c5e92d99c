-- A function of numbers is linear where it takes a sum, bit by bit, to the sum: shifts, masks and sums of such are. Two
-- linear functions that agree at the powers of 2 below 2^n agree below 2^n.
use mathlib.Core.Path.{◌≡◌, refl, sym, ap, ap₂, ◌∙◌}
use mathlib.Core.Bool.{Bool, true}
use Prim.Native.Nat.{ℕ, zero, suc, ◌+◌, ◌*◌, ◌/◌, ◌%◌, ◌^◌, ◌<◌}
use native.Mathlib.Nat.{mod-lt, add-zero, zero-mul, one-mul, pow-suc, div-lt_iff_lt-mul}
use native.Mathlib.Omega.{arith}
use lib.Dec.{T, lit<, eqb, eqb→eq}
use lib.Arith.{lt-one}
use lib.Pow.{pow_pos, split}
use lib.Bits.{bit_xor, xor_zero_r, xor_self, xor_shr, xor_mod, xor_block, xor_shifted}
use Rattle.base_hec.proofs.Table.{both, both_left, both_right}
use Rattle.base_hec.proofs.Xor.{regroup}

abbrev pub Linear : (ℕ → ℕ) → Type 0
Linear f = (a b : ℕ) → f (bit_xor a b) ≡ bit_xor (f a) (f b)

pub same : Linear (λ x. x)
same a b = refl

pub after : (f g : ℕ → ℕ) → Linear f → Linear g → Linear (λ x. f (g x))
after f g hf hg a b = ap f (hg a b) ∙ hf (g a) (g b)

pub sum : (f g : ℕ → ℕ) → Linear f → Linear g → Linear (λ x. bit_xor (f x) (g x))
sum f g hf hg a b = ap₂ bit_xor (hf a b) (hg a b) ∙ regroup (f a) (f b) (g a) (g b)

pub up : (k : ℕ) → Linear (λ x. x * 2 ^ k)
up k a b =
    sym (ap₂ bit_xor (sym (add-zero (a * 2 ^ k))) (sym (add-zero (b * 2 ^ k)))
    ∙ xor_block k a b 0 0 (pow_pos k) (pow_pos k)
    ∙ add-zero (bit_xor a b * 2 ^ k))

pub down : (k : ℕ) → Linear (λ x. x / 2 ^ k)
down k a b = xor_shr a b k

pub low : (k : ℕ) → Linear (λ x. x % 2 ^ k)
low k a b = xor_mod a b k

-- a digit times a number
times : (c x y : ℕ) → x < 2 → y < 2 → bit_xor x y * c ≡ bit_xor (x * c) (y * c)
times c zero y h k = rw zero-mul refl
times c (suc zero) zero h k = rw zero-mul (sym (xor_zero_r (1 * c)))
times c (suc zero) (suc zero) h k = zero-mul c ∙ sym (xor_self (1 * c))
times c (suc zero) (suc (suc y)) h k = absurd (omega arith)
times c (suc (suc x)) y h k = absurd (omega arith)

pub digit : (j c : ℕ) → Linear (λ x. x / 2 ^ j % 2 * c)
digit j c a b =
    ap (λ (x : ℕ). x * c) (after (λ x. x % 2 ^ 1) (λ x. x / 2 ^ j) (low 1) (down j) a b)
    ∙ times c (a / 2 ^ j % 2) (b / 2 ^ j % 2) (mod-lt (a / 2 ^ j) (lit< tt)) (mod-lt (b / 2 ^ j) (lit< tt))

-- the test that two functions agree at each power of 2 below 2^n
abbrev pub agreeing : (ℕ → ℕ) → (ℕ → ℕ) → ℕ → Bool
agreeing f g zero = true
agreeing f g (suc n) = both (eqb (f (2 ^ n)) (g (2 ^ n))) (agreeing f g n)

module _ (f g : ℕ → ℕ) (hf : Linear f) (hg : Linear g) where
  -- 0 is 0 and 0, added
  at_zero : f 0 ≡ g 0
  at_zero =
      hf 0 0 ∙ xor_self (f 0) ∙ sym (hg 0 0 ∙ xor_self (g 0))

  at_digit : (n d : ℕ) → d < 2 → f (2 ^ n) ≡ g (2 ^ n) → f (d * 2 ^ n) ≡ g (d * 2 ^ n)
  at_digit n zero h e = rw zero-mul at_zero
  at_digit n (suc zero) h e = rw one-mul e
  at_digit n (suc (suc d)) h e = absurd (omega arith)

  at_sum : (n d r : ℕ) → r < 2 ^ n → f (d * 2 ^ n) ≡ g (d * 2 ^ n) → f r ≡ g r → f (d * 2 ^ n + r) ≡ g (d * 2 ^ n + r)
  at_sum n d r h p q =
      ap f (sym (xor_shifted d n r h)) ∙ hf (d * 2 ^ n) r ∙ ap₂ bit_xor p q ∙ sym (ap g (sym (xor_shifted d n r h)) ∙ hg (d * 2 ^ n) r)

  pub agree : (n : ℕ) → T (agreeing f g n) → (x : ℕ) → x < 2 ^ n → f x ≡ g x
  agree zero t x h = ap f (lt-one h) ∙ at_zero ∙ ap g (sym (lt-one h))
  agree (suc n) t x h =
      let d : ℕ = x / 2 ^ n in
      let r : ℕ = x % 2 ^ n in
      let here = eqb→eq (f (2 ^ n)) (g (2 ^ n)) (both_left (eqb (f (2 ^ n)) (g (2 ^ n))) (agreeing f g n) t) in
      let lower = both_right (eqb (f (2 ^ n)) (g (2 ^ n))) (agreeing f g n) t in
      let d<2 : d < 2 = (div-lt_iff_lt-mul (pow_pos n)).1 (omega (arith, pow-suc 2 n)) in
      let r< : r < 2 ^ n = mod-lt x (pow_pos n) in
      ap f (sym (split x n))
      ∙ at_sum n d r r< (at_digit n d d<2 here) (agree n lower r r<)
      ∙ ap g (split x n)
