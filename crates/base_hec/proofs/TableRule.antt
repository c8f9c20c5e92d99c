-- The table's rule, by one computed test over its 256 entries; each of the forty bits is named by its own syndrome, and no
-- sum of two of these names a bit or is 0.
use mathlib.Core.Path.{◌≡◌, refl, subst}
use mathlib.Core.Bool.{Bool, true, false, cond, ◌||◌}
use Prim.Native.Nat.{ℕ, zero, suc, ◌+◌, ◌≤◌, ◌<◌}
use native.Mathlib.Omega.{arith}
use lib.Dec.{T, eqb, eqb→eq}
use lib.ListN.{get_or, replicate}
use lib.Bits.{bit_xor}
use borrow.Author.Tests.{ne_eqb}
use Rattle.base_hec.specs.Check.{remainder}
use Rattle.base_hec.specs.WrongBit.{several, one_bit, first_with, wrong_bit, wrong_bits}
use Rattle.base_hec.proofs.Table.{every, at}

right : ℕ → ℕ → Bool
right s x = eqb x (wrong_bit s)

-- the rule
pub table_rule : (s : ℕ) → s < 256 → get_or wrong_bits s 0 ≡ wrong_bit s
unfolding wrong_bits right wrong_bit first_with one_bit remainder
table_rule s h = eqb→eq (get_or wrong_bits s 0) (wrong_bit s) (at right wrong_bits tt s h)

named : ℕ → ℕ → Bool
named i x = eqb (wrong_bit (one_bit i)) i

-- one wrong bit
pub one_named : (i : ℕ) → i < 40 → wrong_bit (one_bit i) ≡ i
unfolding named wrong_bit first_with one_bit remainder
one_named i h = eqb→eq (wrong_bit (one_bit i)) i (at named (replicate 40 0) tt i h)

apart : ℕ → ℕ → ℕ → Bool
apart i j x = eqb i j || eqb (wrong_bit (bit_xor (one_bit i) (one_bit j))) several

all_apart : ℕ → ℕ → Bool
all_apart i x = every (apart i) 0 (replicate 40 0)

-- two wrong bits
pub two_several : (i j : ℕ) → i < 40 → j < 40 → (i ≡ j → ⊥) → wrong_bit (bit_xor (one_bit i) (one_bit j)) ≡ several
unfolding all_apart apart wrong_bit first_with one_bit remainder
two_several i j hi hj n =
    eqb→eq (wrong_bit (bit_xor (one_bit i) (one_bit j))) several
    (other (eqb i j) (eqb (wrong_bit (bit_xor (one_bit i) (one_bit j))) several) (ne_eqb i j n)
    (at (apart i) (replicate 40 0) (at all_apart (replicate 40 0) tt i hi) j hj))
  where
    other : (a b : Bool) → a ≡ false → T (a || b) → T b
    other a b e t = subst (λ (x : Bool). T (x || b)) e t

-- a search of the forty never ends at the number that stands for no error
never_clean : (s n i : ℕ) → i + n ≤ 40 → eqb (first_with n i s) 40 ≡ false
unfolding first_with
never_clean s zero i h = refl
never_clean s (suc n) i h = go (eqb (one_bit i) s) (never_clean s n (suc i) (omega arith))
  where
    go : (b : Bool) → eqb (first_with n (suc i) s) 40 ≡ false → eqb (cond b i (first_with n (suc i) s)) 40 ≡ false
    go true later = ne_eqb i 40 (λ e. omega arith)
    go false later = later

-- only 0 is no error
pub not_clean : (s : ℕ) → (s ≡ 0 → ⊥) → eqb (wrong_bit s) 40 ≡ false
unfolding wrong_bit
not_clean s n = rw (ne_eqb s 0 n) (never_clean s 40 0 (omega arith))
