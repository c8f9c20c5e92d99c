-- The word of a bit that is set by an OR, and cleared by an OR and a difference, is what the definitions of a mark say: they go by cases
-- on the bit, the code does not.
use Prim.Native.Nat.{ℕ, ◌+◌, ◌-◌, ◌^◌}
use mathlib.Core.Path.{◌≡◌, refl, ◌∙◌, ap}
use mathlib.Core.Bool.{Bool, true, false}
use mathlib.Core.List.{List}
use native.Mathlib.Omega.{arith}
use lib.Bits.{bit_or}
use lib.ListN.{get_or, set}
use lib.Seq.{set-get_or}
use Rattle.meaning.specs.Plain.{when◌then◌else◌}
use Rattle.meaning.specs.Bits.{word_of, bit_of, is_set, with_bit, without_bit}
use Rattle.meaning.proofs.SetLaws.{bit_set, bit_clear}
use Rattle.mem_bits.proofs.OrLaws.{or_set, or_clear}

module _ (bits : List ℕ) (k : ℕ) where
  abbrev word : ℕ
  word = get_or bits (word_of k) 0

  abbrev bit : ℕ
  bit = 2 ^ bit_of k

  abbrev word_as : ℕ → List ℕ
  word_as v = set bits (word_of k) v

  pub set_by : word_as (bit_or word bit) ≡ (when is_set bits k then bits else with_bit bits k)
  unfolding with_bit
  set_by = go (is_set bits k) refl
    where
      go : (b : Bool) → is_set bits k ≡ b → word_as (bit_or word bit) ≡ (when b then bits else with_bit bits k)
      go true h = ap word_as (or_set word (bit_of k) (bit_set bits k h)) ∙ set-get_or bits (word_of k) 0
      go false h = ap word_as (or_clear word (bit_of k) (bit_clear bits k h))

  pub clear_by : word_as (bit_or word bit - bit) ≡ (when is_set bits k then without_bit bits k else bits)
  unfolding without_bit
  clear_by = go (is_set bits k) refl
    where
      go : (b : Bool) → is_set bits k ≡ b → word_as (bit_or word bit - bit) ≡ (when b then without_bit bits k else bits)
      go true h = ap (λ (v : ℕ). word_as (v - bit)) (or_set word (bit_of k) (bit_set bits k h))
      go false h =
          let back : word + bit - bit ≡ word = omega arith in
          ap (λ (v : ℕ). word_as (v - bit)) (or_clear word (bit_of k) (bit_clear bits k h)) ∙ ap word_as back ∙ set-get_or bits (word_of k) 0
