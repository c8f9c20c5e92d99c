-- What is promised of errors in a header: read this file first. One wrong bit of forty is named and mended, two are seen
-- as more than one, for every header; of three and four it is counted how many are taken for one or none.
use mathlib.Core.Path.{◌≡◌, sym, ap, ◌∙◌}
use mathlib.Core.List.{List}
use Prim.Native.Nat.{ℕ, ◌*◌, ◌^◌, ◌≤◌, ◌<◌}
use native.Mathlib.Omega.{arith}
use lib.Dec.{lit<}
use lib.ListN.{length, get_or}
use lib.Bits.{bit_xor, xor_lt}
use Rattle.base_hec.specs.Check.{remainder, coset, check_of, head_of, hec_of, syndrome_of}
use Rattle.base_hec.specs.WrongBit.{several, one_bit, wrong_bit, wrong_bits, flipped}
use Rattle.base_hec.specs.Modes.{Octets}
use Rattle.base_hec.proofs.TableRule.{table_rule, one_named, two_several}
use Rattle.base_hec.proofs.Remainder.{remainder_lt}
use Rattle.base_hec.proofs.Flip.{length_flipped, octets_flipped, flipped_twice}
use Rattle.base_hec.proofs.Syndrome.{syndrome_flipped, clean_zero}

-- A header of five octets, perhaps with a payload behind it, whose fifth is the one that belongs to its first four.
pub record Right (l : List ℕ) : Type 0 where
  pub long : 5 ≤ length l
  pub octets : Octets l
  pub fifth : get_or l 4 0 ≡ hec_of l

module _ (l : List ℕ) (right : Right l) where
  one : (i : ℕ) → i < 40 → syndrome_of (flipped i l) ≡ one_bit i
  one i h = syndrome_flipped i l h right.long right.octets ∙ ap (λ (x : ℕ). bit_xor x (one_bit i)) (clean_zero l right.fifth)

  two : (i j : ℕ) → i < 40 → j < 40 → syndrome_of (flipped j (flipped i l)) ≡ bit_xor (one_bit i) (one_bit j)
  two i j hi hj =
      syndrome_flipped j (flipped i l) hj (rw (length_flipped i l) right.long) (octets_flipped i l hi right.long right.octets)
      ∙ ap (λ (x : ℕ). bit_xor x (one_bit j)) (one i hi)

  long1 : (i : ℕ) → 5 ≤ length (flipped i l)
  long1 i = rw (length_flipped i l) right.long

  long2 : (i j : ℕ) → 5 ≤ length (flipped j (flipped i l))
  long2 i j = rw (length_flipped j (flipped i l)) (long1 i)

  octets2 : (i j : ℕ) → i < 40 → j < 40 → Octets (flipped j (flipped i l))
  octets2 i j hi hj = octets_flipped j (flipped i l) hj (long1 i) (octets_flipped i l hi right.long right.octets)

  -- No error: the syndrome is 0.
  pub clean : syndrome_of l ≡ 0
  clean = clean_zero l right.fifth

  -- One error: the bit is named, and changing it gives the header back, with all that stands behind it.
  pub single_named : (i : ℕ) → i < 40 → wrong_bit (syndrome_of (flipped i l)) ≡ i
  single_named i h = ap wrong_bit (one i h) ∙ one_named i h

  pub single_mended : (i : ℕ) → i < 40 → flipped (wrong_bit (syndrome_of (flipped i l))) (flipped i l) ≡ l
  single_mended i h =
      ap (λ (k : ℕ). flipped k (flipped i l)) (single_named i h) ∙ flipped_twice i l (omega (arith, right.long))

  -- Two errors: more than one, in every one of the 780 pairs.
  pub double_seen : (i j : ℕ) → i < j → j < 40 → wrong_bit (syndrome_of (flipped j (flipped i l))) ≡ several
  double_seen i j h k = ap wrong_bit (two i j (omega arith) k) ∙ two_several i j (omega arith) k (λ e. omega arith)

  -- No error in one bit or in two passes for a clean header.
  pub single_not_clean : (i : ℕ) → i < 40 → syndrome_of (flipped i l) ≡ 0 → ⊥
  unfolding wrong_bit
  single_not_clean i h e = omega (arith, sym (single_named i h) ∙ ap wrong_bit e)

  pub double_not_clean : (i j : ℕ) → i < j → j < 40 → syndrome_of (flipped j (flipped i l)) ≡ 0 → ⊥
  unfolding wrong_bit
  double_not_clean i j h k e = omega (arith, sym (double_seen i j h k) ∙ ap wrong_bit e)

  -- Three and four: what the header holds doesn't matter.
  pub triple : (i j k : ℕ) → i < 40 → j < 40 → k < 40
      → syndrome_of (flipped k (flipped j (flipped i l))) ≡ bit_xor (bit_xor (one_bit i) (one_bit j)) (one_bit k)
  triple i j k hi hj hk =
      syndrome_flipped k (flipped j (flipped i l)) hk (long2 i j) (octets2 i j hi hj) ∙ ap (λ (x : ℕ). bit_xor x (one_bit k)) (two i j hi hj)

  pub quadruple : (i j k m : ℕ) → i < 40 → j < 40 → k < 40 → m < 40
      → syndrome_of (flipped m (flipped k (flipped j (flipped i l))))
      ≡ bit_xor (bit_xor (bit_xor (one_bit i) (one_bit j)) (one_bit k)) (one_bit m)
  quadruple i j k m hi hj hk hm =
      let l2 : List ℕ = flipped j (flipped i l) in
      syndrome_flipped m (flipped k l2) hm (rw (length_flipped k l2) (long2 i j)) (octets_flipped k l2 hk (long2 i j) (octets2 i j hi hj))
      ∙ ap (λ (x : ℕ). bit_xor x (one_bit m)) (triple i j k hi hj hk)

head_lt : (l : List ℕ) → Octets l → head_of l < 2 ^ 32
unfolding head_of
head_lt l octets = omega (arith, octets 0, octets 1, octets 2, octets 3)

-- What the table of 256 entries holds at a header's syndrome is what the rule says of it.
pub table_says : (l : List ℕ) → Octets l → get_or wrong_bits (syndrome_of l) 0 ≡ wrong_bit (syndrome_of l)
unfolding syndrome_of hec_of check_of
table_says l octets =
    let r : ℕ = remainder 32 (head_of l * 2 ^ 8) in
    let h : head_of l < 2 ^ 32 = head_lt l octets in
    let r< : r < 2 ^ 8 = remainder_lt 32 (head_of l * 2 ^ 8) (omega arith) in
    table_rule (bit_xor (bit_xor r coset) (get_or l 4 0)) (xor_lt 8 (bit_xor r coset) (get_or l 4 0) (xor_lt 8 r coset r< (lit< tt)) (octets 4))
