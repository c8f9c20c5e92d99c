-- The cases of the check over numbers, as the code comes to them: a bit below 32 or not, each end of an error, clean or not.
use mathlib.Core.Path.{◌≡◌, refl, sym, ap, ◌∙◌}
use mathlib.Core.Bool.{Bool, true, false, cond, ◌&&◌}
use Rattle.std.specs.Prelude.{Option, Some, None}
use Prim.Native.Nat.{ℕ, ◌-◌, ◌*◌, ◌%◌, ◌^◌, ◌≤◌, ◌<◌}
use native.Mathlib.Omega.{arith}
use native.Mathlib.Nat.{one-mul}
use lib.Dec.{lit<, eqb, ltb}
use lib.Pow.{shl_exact}
use lib.Bits.{bit_xor}
use borrow.Author.Tests.{ltb-true, ltb-false, lt-ltb, le-ltb, eq-eqb, ne_eqb}
use Rattle.base_hec.specs.declared.Checked.{Checked}
use Rattle.base_hec.specs.declared.Checked.TheVariants.{Clean, Mended, Dropped}
use Rattle.base_hec.specs.Check.{check_of}
use Rattle.base_hec.specs.WrongBit.{wrong_bit, named}
use Rattle.base_hec.specs.Word.{mended_word, erred_word, checked_word}
use Rattle.base_hec.proofs.TableRule.{not_clean}

-- one bit, in w of them
pub one_bit : (w k : ℕ) → k < w → (1 * 2 ^ k) % 2 ^ w ≡ 2 ^ k
one_bit w k h = shl_exact {a = 1} 1 k w (lit< tt) (omega arith) ∙ one-mul (2 ^ k)

module _ (bit head fifth x : ℕ) where
  -- the bit mended in the first four octets, or in the fifth
  abbrev by_place : Bool → Checked
  by_place b =
      cond b (Mended (bit_xor head (2 ^ (31 - bit))) fifth) (Mended head (bit_xor fifth (2 ^ (39 - bit))))

  pub mended_first : bit < 32 → x ≡ 2 ^ (31 - bit) → Mended (bit_xor head x) fifth ≡ mended_word bit head fifth
  unfolding mended_word
  mended_first h e =
      ap (λ (y : ℕ). Mended (bit_xor head y) fifth) e
      ∙ sym (ap by_place (lt-ltb bit 32 h))

  pub mended_last : 32 ≤ bit → x ≡ 2 ^ (39 - bit) → Mended head (bit_xor fifth x) ≡ mended_word bit head fifth
  unfolding mended_word
  mended_last h e =
      ap (λ (y : ℕ). Mended head (bit_xor fifth y)) e
      ∙ sym (ap by_place (le-ltb bit 32 h))

pub named_is : (b : ℕ) → b < 40 → Some b ≡ named b
named_is b h = rw (lt-ltb b 40 h) refl

pub named_not : (b : ℕ) → 40 ≤ b → None ≡ named b
named_not b h = rw (le-ltb b 40 h) refl

-- a bit that is named is one of forty, and no other number is
pub named_some : (b bit : ℕ) → Some bit ≡ named b → (b ≡ bit) × (bit < 40)
named_some b bit e = go (ltb b 40) refl e
  where
    go : (t : Bool) → ltb b 40 ≡ t → Some bit ≡ cond t (Some b) None → (b ≡ bit) × (bit < 40)
    go true p q = let s : b ≡ bit = cc in (s, omega (arith, s, ltb-true b 40 p))
    go false p q = absurd (search arith)

pub named_none : (b : ℕ) → None ≡ named b → 40 ≤ b
named_none b e = go (ltb b 40) refl e
  where
    go : (t : Bool) → ltb b 40 ≡ t → ◌≡◌ {A = Option ℕ} None (cond t (Some b) None) → 40 ≤ b
    go true p q = absurd (search arith)
    go false p q = ltb-false b 40 p

module _ (mode head fifth bit : ℕ) where
  erred_by : (a b : Bool) → eqb mode 0 ≡ a → ltb bit 40 ≡ b
      → erred_word mode head fifth bit ≡ cond (a && b) (mended_word bit head fifth) Dropped
  unfolding erred_word
  erred_by a b p q = cc

  pub erred_mended : mode ≡ 0 → bit < 40 → mended_word bit head fifth ≡ erred_word mode head fifth bit
  erred_mended m h = sym (erred_by true true (eq-eqb mode 0 m) (lt-ltb bit 40 h))

  pub erred_several : 40 ≤ bit → Dropped ≡ erred_word mode head fifth bit
  erred_several h = sym (erred_by (eqb mode 0) false refl (le-ltb bit 40 h) ∙ go (eqb mode 0))
    where
      go : (a : Bool) → cond (a && false) (mended_word bit head fifth) Dropped ≡ Dropped
      go true = refl
      go false = refl

  pub erred_detection : (mode ≡ 0 → ⊥) → Dropped ≡ erred_word mode head fifth bit
  erred_detection n = sym (erred_by false (ltb bit 40) (ne_eqb mode 0 n) refl)

module _ (mode head fifth k : ℕ) (right : k ≡ check_of head) where
  checked_by : (s : ℕ) (b : Bool) → bit_xor k fifth ≡ s → eqb (wrong_bit s) 40 ≡ b
      → checked_word mode head fifth ≡ cond b Clean (erred_word mode head fifth (wrong_bit s))
  unfolding checked_word
  checked_by s b p q =
      ap (λ (x : ℕ). cond (eqb (wrong_bit x) 40) Clean (erred_word mode head fifth (wrong_bit x)))
      (ap (λ (x : ℕ). bit_xor x fifth) (sym right) ∙ p)
      ∙ ap (λ (x : Bool). cond x Clean (erred_word mode head fifth (wrong_bit s))) q

  pub checked_clean : bit_xor k fifth ≡ 0 → Clean ≡ checked_word mode head fifth
  unfolding wrong_bit
  checked_clean e = sym (checked_by 0 true e refl)

  -- of a header with an error
  pub checked_erred : (bit_xor k fifth ≡ 0 → ⊥)
      → erred_word mode head fifth (wrong_bit (bit_xor k fifth)) ≡ checked_word mode head fifth
  checked_erred n = sym (checked_by (bit_xor k fifth) false refl (not_clean (bit_xor k fifth) n))
