-- A bit of the header changed is x^(39-i) added to the header's number; the payload, the length and the other octets
-- stay, and changed twice it is as before.
use mathlib.Core.Path.{◌≡◌, sym, ap, ap₂, ◌∙◌}
use mathlib.Core.Bool.{Bool, true, false, cond}
use mathlib.Core.List.{List}
use Prim.Native.Nat.{ℕ, ◌+◌, ◌-◌, ◌*◌, ◌/◌, ◌%◌, ◌^◌, ◌≤◌, ◌<◌}
use native.Mathlib.Omega.{arith}
use native.Mathlib.Nat.{div-eq_of_lt, mod-eq_of_lt, mul-mod_left}
use native.Mathlib.Decide.{ℕ_discrete}
use lib.Dec.{lit<, eqb, eqb→eq}
use lib.Pow.{pow_mono, pow-lt, pow-add, high, low, shl-shr}
use lib.ListN.{length, get_or, set, drop, replicate, length-set}
use lib.Seq.{get_or-set_same, get_or-set_other, set-get_or, set-set, drop-set-lt}
use lib.Bits.{bit_xor, xor_zero_r, xor_lt, xor_block, xor_shr, xor_mod}
use borrow.Author.Tests.{eq-eqb, ne_eqb}
use Rattle.base_hec.specs.Check.{head_of}
use Rattle.base_hec.specs.WrongBit.{flipped}
use Rattle.base_hec.specs.Modes.{Octets}
use Rattle.base_hec.proofs.Table.{at}
use Rattle.base_hec.proofs.Xor.{xor_twice}

-- a header of five octets as one number of forty digits
unfoldable pub number_of : List ℕ → ℕ
number_of l = head_of l * 2 ^ 8 + get_or l 4 0

-- five octets in a row
pack : ℕ → ℕ → ℕ → ℕ → ℕ → ℕ
pack a b c d e = (((a * 256 + b) * 256 + c) * 256 + d) * 256 + e

pack_ap : (a b c d e a' b' c' d' e' : ℕ) → a ≡ a' → b ≡ b' → c ≡ c' → d ≡ d' → e ≡ e' → pack a b c d e ≡ pack a' b' c' d' e'
pack_ap a b c d e a' b' c' d' e' p q r s t = cc

number_pack : (l : List ℕ) → number_of l ≡ pack (get_or l 0 0) (get_or l 1 0) (get_or l 2 0) (get_or l 3 0) (get_or l 4 0)
unfolding number_of head_of pack
number_pack l = omega arith

two : (a b a' b' : ℕ) → b < 256 → b' < 256 → bit_xor a a' * 256 + bit_xor b b' ≡ bit_xor (a * 256 + b) (a' * 256 + b')
two a b a' b' h h' = sym (xor_block 8 a a' b b' h h')

pack_xor : (a b c d e a' b' c' d' e' : ℕ) → b < 256 → c < 256 → d < 256 → e < 256 → b' < 256 → c' < 256 → d' < 256 → e' < 256
    → pack (bit_xor a a') (bit_xor b b') (bit_xor c c') (bit_xor d d') (bit_xor e e') ≡ bit_xor (pack a b c d e) (pack a' b' c' d' e')
unfolding pack
pack_xor a b c d e a' b' c' d' e' hb hc hd he hb' hc' hd' he' =
    ap (λ (x : ℕ). ((x * 256 + bit_xor c c') * 256 + bit_xor d d') * 256 + bit_xor e e') (two a b a' b' hb hb')
    ∙ ap (λ (x : ℕ). (x * 256 + bit_xor d d') * 256 + bit_xor e e') (two (a * 256 + b) c (a' * 256 + b') c' hc hc')
    ∙ ap (λ (x : ℕ). x * 256 + bit_xor e e') (two ((a * 256 + b) * 256 + c) d ((a' * 256 + b') * 256 + c') d' hd hd')
    ∙ two (((a * 256 + b) * 256 + c) * 256 + d) e (((a' * 256 + b') * 256 + c') * 256 + d') e' he he'

-- what changing bit i adds to octet k
added : ℕ → ℕ → ℕ
added i k = cond (eqb k (i / 8)) (2 ^ (7 - i % 8)) 0

added_lt : (i k : ℕ) → added i k < 256
unfolding added
added_lt i k = go (eqb k (i / 8))
  where
    go : (b : Bool) → cond b (2 ^ (7 - i % 8)) 0 < 256
    go true = omega (arith, pow_mono {i = 7 - i % 8} {j = 7} (omega arith))
    go false = lit< tt

weighs : ℕ → ℕ → Bool
weighs i x = eqb (pack (added i 0) (added i 1) (added i 2) (added i 3) (added i 4)) (2 ^ (39 - i))

weight : (i : ℕ) → i < 40 → pack (added i 0) (added i 1) (added i 2) (added i 3) (added i 4) ≡ 2 ^ (39 - i)
unfolding weighs pack added
weight i h =
    eqb→eq (pack (added i 0) (added i 1) (added i 2) (added i 3) (added i 4)) (2 ^ (39 - i)) (at weighs (replicate 40 0) tt i h)

flipped_at : (i k : ℕ) (l : List ℕ) → i / 8 < length l → get_or (flipped i l) k 0 ≡ bit_xor (get_or l k 0) (added i k)
unfolding flipped added
flipped_at i k l h = go (ℕ_discrete k (i / 8))
  where
    go : Dec (k ≡ i / 8)
        → get_or (set l (i / 8) (bit_xor (get_or l (i / 8) 0) (2 ^ (7 - i % 8)))) k 0
        ≡ bit_xor (get_or l k 0) (cond (eqb k (i / 8)) (2 ^ (7 - i % 8)) 0)
    go (yes e) =
        ap (λ (x : ℕ). get_or (set l (i / 8) (bit_xor (get_or l (i / 8) 0) (2 ^ (7 - i % 8)))) x 0) e
        ∙ get_or-set_same l (i / 8) (bit_xor (get_or l (i / 8) 0) (2 ^ (7 - i % 8))) 0 h
        ∙ sym (ap₂ bit_xor (ap (λ (x : ℕ). get_or l x 0) e) (ap (λ (b : Bool). cond b (2 ^ (7 - i % 8)) 0) (eq-eqb k (i / 8) e)))
    go (no n) =
        get_or-set_other l (i / 8) k (bit_xor (get_or l (i / 8) 0) (2 ^ (7 - i % 8))) 0 n
        ∙ sym (ap (λ (b : Bool). bit_xor (get_or l k 0) (cond b (2 ^ (7 - i % 8)) 0)) (ne_eqb k (i / 8) n) ∙ xor_zero_r (get_or l k 0))

pub length_flipped : (i : ℕ) (l : List ℕ) → length (flipped i l) ≡ length l
unfolding flipped
length_flipped i l = length-set l (i / 8) (bit_xor (get_or l (i / 8) 0) (2 ^ (7 - i % 8)))

pub payload_flipped : (i : ℕ) (l : List ℕ) → i < 40 → drop 5 (flipped i l) ≡ drop 5 l
unfolding flipped
payload_flipped i l h = drop-set-lt 5 l (i / 8) (bit_xor (get_or l (i / 8) 0) (2 ^ (7 - i % 8))) (omega arith)

pub flipped_twice : (i : ℕ) (l : List ℕ) → i / 8 < length l → flipped i (flipped i l) ≡ l
unfolding flipped
flipped_twice i l h =
    let p : ℕ = 2 ^ (7 - i % 8) in
    let o : ℕ = get_or l (i / 8) 0 in
    set-set l (i / 8) (bit_xor o p) (bit_xor (get_or (set l (i / 8) (bit_xor o p)) (i / 8) 0) p)
    ∙ ap (λ (x : ℕ). set l (i / 8) (bit_xor x p)) (get_or-set_same l (i / 8) (bit_xor o p) 0 h)
    ∙ ap (set l (i / 8)) (xor_twice o p)
    ∙ set-get_or l (i / 8) 0

module _ (i : ℕ) (l : List ℕ) (below : i < 40) (long : 5 ≤ length l) (octets : Octets l) where
  pub octets_flipped : Octets (flipped i l)
  octets_flipped k = rw (flipped_at i k l (omega arith)) (xor_lt 8 (get_or l k 0) (added i k) (octets k) (added_lt i k))

  pub number_flipped : number_of (flipped i l) ≡ bit_xor (number_of l) (2 ^ (39 - i))
  number_flipped =
      let h : i / 8 < length l = omega arith in
      number_pack (flipped i l)
      ∙ pack_ap _ _ _ _ _ _ _ _ _ _
      (flipped_at i 0 l h) (flipped_at i 1 l h) (flipped_at i 2 l h) (flipped_at i 3 l h) (flipped_at i 4 l h)
      ∙ pack_xor (get_or l 0 0) (get_or l 1 0) (get_or l 2 0) (get_or l 3 0) (get_or l 4 0)
      (added i 0) (added i 1) (added i 2) (added i 3) (added i 4)
      (octets 1) (octets 2) (octets 3) (octets 4) (added_lt i 1) (added_lt i 2) (added_lt i 3) (added_lt i 4)
      ∙ ap₂ bit_xor (sym (number_pack l)) (weight i below)

  head_part : head_of (flipped i l) ≡ bit_xor (head_of l) (2 ^ (39 - i) / 2 ^ 8)
  unfolding number_of
  head_part =
      sym (high (head_of (flipped i l)) 8 {lo = get_or (flipped i l) 4 0} (octets_flipped 4))
      ∙ ap (λ (n : ℕ). n / 2 ^ 8) number_flipped
      ∙ xor_shr (number_of l) (2 ^ (39 - i)) 8
      ∙ ap (λ (x : ℕ). bit_xor x (2 ^ (39 - i) / 2 ^ 8)) (high (head_of l) 8 {lo = get_or l 4 0} (octets 4))

  fifth_part : get_or (flipped i l) 4 0 ≡ bit_xor (get_or l 4 0) (2 ^ (39 - i) % 2 ^ 8)
  unfolding number_of
  fifth_part =
      sym (low (head_of (flipped i l)) 8 {lo = get_or (flipped i l) 4 0} (octets_flipped 4))
      ∙ ap (λ (n : ℕ). n % 2 ^ 8) number_flipped
      ∙ xor_mod (number_of l) (2 ^ (39 - i)) 8
      ∙ ap (λ (x : ℕ). bit_xor x (2 ^ (39 - i) % 2 ^ 8)) (low (head_of l) 8 {lo = get_or l 4 0} (octets 4))

  -- bits 0 to 31 are the first four octets'
  module _ (first : i < 32) where
    over : 2 ^ (39 - i) ≡ 2 ^ (31 - i) * 2 ^ 8
    over = ap (λ (k : ℕ). 2 ^ k) {x = 39 - i} {y = 31 - i + 8} (omega arith) ∙ pow-add 2 (31 - i) 8

    pub head_flipped : head_of (flipped i l) ≡ bit_xor (head_of l) (2 ^ (31 - i))
    head_flipped = head_part ∙ ap (bit_xor (head_of l)) (ap (λ (x : ℕ). x / 2 ^ 8) over ∙ shl-shr (2 ^ (31 - i)) 8)

    pub fifth_stays : get_or (flipped i l) 4 0 ≡ get_or l 4 0
    fifth_stays =
        fifth_part
        ∙ ap (bit_xor (get_or l 4 0)) (ap (λ (x : ℕ). x % 2 ^ 8) over ∙ mul-mod_left (2 ^ (31 - i)) (2 ^ 8))
        ∙ xor_zero_r (get_or l 4 0)

  -- bits 32 to 39 are the fifth's
  module _ (last : 32 ≤ i) where
    under : 2 ^ (39 - i) < 2 ^ 8
    under = pow-lt {i = 39 - i} {j = 8} (omega arith)

    pub head_stays : head_of (flipped i l) ≡ head_of l
    head_stays = head_part ∙ ap (bit_xor (head_of l)) (div-eq_of_lt under) ∙ xor_zero_r (head_of l)

    pub fifth_flipped : get_or (flipped i l) 4 0 ≡ bit_xor (get_or l 4 0) (2 ^ (39 - i))
    fifth_flipped = fifth_part ∙ ap (bit_xor (get_or l 4 0)) (mod-eq_of_lt under)
