-- The check over numbers is the check of a lent cell: the code's answer says what is let through, octet for octet.
use mathlib.Core.Path.{◌≡◌, refl, sym, ap, ◌∙◌}
use mathlib.Core.Bool.{Bool, true, false, cond, ◌&&◌}
use mathlib.Core.List.{List, [], ◌∷◌, ◌++◌}
use Prim.Native.Nat.{ℕ, ◌-◌, ◌^◌, ◌≤◌, ◌<◌}
use native.Mathlib.Omega.{arith}
use lib.Dec.{ltb, eqb}
use lib.ListN.{length, get_or, drop}
use lib.Bits.{bit_xor}
use borrow.Author.Tests.{ltb-true, ltb-false}
use Rattle.base_hec.specs.declared.Checked.{Checked}
use Rattle.base_hec.specs.declared.Checked.TheVariants.{Clean, Mended, Dropped}
use Rattle.base_hec.specs.Check.{head_of, hec_of, syndrome_of}
use Rattle.base_hec.specs.WrongBit.{wrong_bit, flipped}
use Rattle.base_hec.specs.Modes.{Octets, passes, drops, checked}
use Rattle.base_hec.specs.Word.{mended_word, erred_word, checked_word, octets_of, arriving_of}
use Rattle.base_hec.proofs.Flip.{length_flipped, payload_flipped, octets_flipped, head_flipped, fifth_stays, head_stays, fifth_flipped}

five : (a b c d e a' b' c' d' e' : ℕ) (t : List ℕ) → a ≡ a' → b ≡ b' → c ≡ c' → d ≡ d' → e ≡ e'
    → a ∷ b ∷ c ∷ d ∷ e ∷ t ≡ a' ∷ b' ∷ c' ∷ d' ∷ e' ∷ t
five a b c d e a' b' c' d' e' t p q r s u = cc

-- five octets, and what stands behind them, from their numbers
pub unpacked : (l : List ℕ) → 5 ≤ length l → Octets l → octets_of (head_of l) (get_or l 4 0) ++ drop 5 l ≡ l
unfolding octets_of head_of
unpacked [] long octets = absurd (omega arith)
unpacked (a ∷ []) long octets = absurd (omega arith)
unpacked (a ∷ b ∷ []) long octets = absurd (omega arith)
unpacked (a ∷ b ∷ c ∷ []) long octets = absurd (omega arith)
unpacked (a ∷ b ∷ c ∷ d ∷ []) long octets = absurd (omega arith)
unpacked (a ∷ b ∷ c ∷ d ∷ e ∷ t) long octets =
    let ha : a < 256 = octets 0 in
    let hb : b < 256 = octets 1 in
    let hc : c < 256 = octets 2 in
    let hd : d < 256 = octets 3 in
    five _ _ _ _ _ a b c d e t (omega arith) (omega arith) (omega arith) (omega arith) refl

module _ (l : List ℕ) (long : 5 ≤ length l) (octets : Octets l) where
  -- a bit changed in the numbers is that bit changed in the octets
  rebuilt : (i h f : ℕ) → i < 40 → head_of (flipped i l) ≡ h → get_or (flipped i l) 4 0 ≡ f → flipped i l ≡ octets_of h f ++ drop 5 l
  rebuilt i h f below p q =
      sym (unpacked (flipped i l) (rw (length_flipped i l) long) (octets_flipped i l below long octets))
      ∙ ap (λ (x : ℕ). octets_of x (get_or (flipped i l) 4 0) ++ drop 5 (flipped i l)) p
      ∙ ap (λ (x : ℕ). octets_of h x ++ drop 5 (flipped i l)) q
      ∙ ap (λ (x : List ℕ). octets_of h f ++ x) (payload_flipped i l below)

  mended_cell : (i : ℕ) → i < 40 → passes (flipped i l) 1 ≡ arriving_of (mended_word i (head_of l) (get_or l 4 0)) l
  unfolding mended_word
  mended_cell i below = go (ltb i 32) refl
    where
      go : (b : Bool) → ltb i 32 ≡ b
          → passes (flipped i l) 1
          ≡ arriving_of
          (cond b (Mended (bit_xor (head_of l) (2 ^ (31 - i))) (get_or l 4 0))
          (Mended (head_of l) (bit_xor (get_or l 4 0) (2 ^ (39 - i)))))
          l
      go true e =
          let h : i < 32 = ltb-true i 32 e in
          ap (λ (x : List ℕ). passes x 1)
          (rebuilt i _ _ below (head_flipped i l below long octets h) (fifth_stays i l below long octets h))
      go false e =
          let h : 32 ≤ i = ltb-false i 32 e in
          ap (λ (x : List ℕ). passes x 1)
          (rebuilt i _ _ below (head_stays i l below long octets h) (fifth_flipped i l below long octets h))

  erred_cell : (mode i : ℕ)
      → cond (eqb mode 0 && ltb i 40) (passes (flipped i l) 1) (drops 1) ≡ arriving_of (erred_word mode (head_of l) (get_or l 4 0) i) l
  unfolding erred_word
  erred_cell mode i = go (eqb mode 0) (ltb i 40) refl
    where
      go : (a b : Bool) → ltb i 40 ≡ b
          → cond (a && b) (passes (flipped i l) 1) (drops 1)
          ≡ arriving_of (cond (a && b) (mended_word i (head_of l) (get_or l 4 0)) Dropped) l
      go true true e = mended_cell i (ltb-true i 40 e)
      go true false e = refl
      go false b e = refl

  -- What `base_hec::check` answers of a lent cell's numbers is what the definition lets through.
  pub checked_cell : (mode : ℕ) → checked mode l ≡ arriving_of (checked_word mode (head_of l) (get_or l 4 0)) l
  unfolding checked checked_word syndrome_of hec_of
  checked_cell mode = go (eqb (wrong_bit (syndrome_of l)) 40)
    where
      go : (b : Bool)
          → cond b (passes l 0)
          (cond (eqb mode 0 && ltb (wrong_bit (syndrome_of l)) 40) (passes (flipped (wrong_bit (syndrome_of l)) l) 1) (drops 1))
          ≡ arriving_of
          (cond b Clean
          (erred_word mode (head_of l) (get_or l 4 0) (wrong_bit (syndrome_of l))))
          l
      go true = refl
      go false = erred_cell mode (wrong_bit (syndrome_of l))

  -- the same as a caller meets it: h is the first four octets as read, r the answer
  pub answered : (mode h : ℕ) (r : Checked) → h ≡ head_of l → r ≡ checked_word mode h (get_or l 4 0)
      → (r ≡ checked_word mode (head_of l) (get_or l 4 0)) × (arriving_of r l ≡ checked mode l)
  answered mode h r p q =
      let e : r ≡ checked_word mode (head_of l) (get_or l 4 0) = q ∙ ap (λ (x : ℕ). checked_word mode x (get_or l 4 0)) p in
      (e, ap (λ (x : Checked). arriving_of x l) e ∙ sym (checked_cell mode))
