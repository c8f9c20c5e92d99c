-- How many errors in three and in four bits deceive the check, counted over all of them. By `triple` and
-- `quadruple` of `Errors.antt` the counts are the same for every header.
use mathlib.Core.Path.{◌≡◌, refl}
use mathlib.Core.Bool.{cond}
use Prim.Native.Nat.{ℕ, zero, suc, ◌+◌, ◌-◌}
use lib.Dec.{eqb, ltb}
use lib.Bits.{bit_xor}
use Rattle.base_hec.specs.Check.{remainder}
use Rattle.base_hec.specs.WrongBit.{no_error, several, one_bit, first_with, wrong_bit}

-- f of each of the n numbers from i on, added up
pub total : ℕ → ℕ → (ℕ → ℕ) → ℕ
total zero i f = 0
total (suc n) i f = f i + total n (suc i) f

-- f of the syndrome of each three bits i < j < k of forty, and of k, added up
pub triples : (ℕ → ℕ → ℕ) → ℕ
triples f =
    total 40 0 (λ i.
    total (39 - i) (suc i) (λ j.
    total (39 - j) (suc j) (λ k. f (bit_xor (bit_xor (one_bit i) (one_bit j)) (one_bit k)) k)))

-- Of the 9,880 errors in three bits, 2,908 are taken for one in one bit.
pub triples_taken : triples (λ s k. cond (ltb (wrong_bit s) no_error) 1 0) ≡ 2908
unfolding total triples wrong_bit first_with one_bit remainder
triples_taken = refl

-- Of the 91,390 errors in four bits, 727 are not seen: the fourth has the syndrome of the first three.
pub quadruples_unseen : triples (λ s k. total (39 - k) (suc k) (λ l. cond (eqb (one_bit l) s) 1 0)) ≡ 727
unfolding total triples one_bit remainder
quadruples_unseen = refl

-- Of the table's 256 entries one says no error, forty name a bit, and 215 say more than one.
pub entries_naming : total 256 0 (λ s. cond (ltb (wrong_bit s) no_error) 1 0) ≡ 40
unfolding total wrong_bit first_with one_bit remainder
entries_naming = refl

pub entries_several : total 256 0 (λ s. cond (eqb (wrong_bit s) several) 1 0) ≡ 215
unfolding total wrong_bit first_with one_bit remainder
entries_several = refl
