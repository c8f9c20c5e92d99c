-- The words fit exactly where the word that N cuts has no bit at N or above, no word after it has a bit, and the words that N reaches
-- have as many ones as the number says: so `fits` counts no other word.
use Prim.Native.Nat.{ℕ, zero, suc, ◌+◌, ◌-◌, ◌*◌, ◌/◌, ◌%◌, ◌^◌, ◌≤◌, ◌<◌}
use mathlib.Core.Logic.{◌≢◌}
use mathlib.Core.Path.{◌≡◌, refl, sym, ◌∙◌, ap, subst}
use mathlib.Core.Bool.{Bool, true, false}
use mathlib.Core.List.{List}
use native.Mathlib.Nat.{div-lt_iff_lt-mul, div-eq_of_lt}
use native.Mathlib.Decide.{dec_lt, ℕ_discrete}
use native.Mathlib.Omega.{arith}
use borrow.Author.Tests.{eq-eqb, ne_eqb}
use lib.Count.{ones, ones-le}
use lib.ListN.{length, get_or}
use lib.Pow.{pow_pos}
use Rattle.std.proofs.Common.{All, take, drop, slice_range, sum_by}
use Rattle.std.proofs.lemmas.List.{get_or-take, get_or-drop, length-take, length-take-le, length-drop}
use Rattle.std.proofs.lemmas.List.Elements.{All-get_or, All-from_get_or}
use Rattle.std.proofs.lemmas.List.Sums.{sum_by-le, sum_by_more}
use Rattle.meaning.specs.Plain.{◌=?◌}
use Rattle.meaning.specs.Numbers.{most_n, free_words, bit_words, word_bits}
use Rattle.meaning.specs.Bits.{ones_below, bits_in, spaces_fit}
use Rattle.meaning.proofs.LowLaws.{ones_none}
use Rattle.meaning.proofs.BitsLaws.{fit_word, fit_ones, fits_from}

-- word k and those after it have no bit
abbrev pub Nothing : ℕ → List ℕ → Type 0
Nothing k bits = (w : ℕ) → k ≤ w → w < free_words → get_or bits w 0 ≡ 0

ones_next : (k : ℕ) (bits : List ℕ) → ones_below (k + 1) bits ≡ ones_below k bits + ones (get_or bits k 0)
unfolding ones_below
ones_next k bits = let e : k + 1 ≡ suc k = omega arith in ap (λ (i : ℕ). ones_below i bits) e

-- words that are 0 have none
ones_rest : (k j : ℕ) (bits : List ℕ) → ((w : ℕ) → k ≤ w → w < k + j → get_or bits w 0 ≡ 0) → ones_below (k + j) bits ≡ ones_below k bits
unfolding ones_below
ones_rest k zero bits f = let e : k + 0 ≡ k = omega arith in ap (λ (i : ℕ). ones_below i bits) e
ones_rest k (suc j) bits f =
    let e : k + suc j ≡ suc (k + j) = omega arith in
    let r = ones_rest k j bits (λ w p q. f w p (omega arith)) in
    let z : ones (get_or bits (k + j) 0) ≡ 0 = ap ones (f (k + j) (omega arith) (omega arith)) ∙ ones_none in
    ap (λ (i : ℕ). ones_below i bits) e ∙ (let s : ones_below (k + j) bits + ones (get_or bits (k + j) 0) ≡ ones_below k bits = omega (arith, r, z) in s)

module _ (N free : ℕ) (bits : List ℕ) (whole : ℕ) (is : N / 64 ≡ whole) where
  -- a bit at N or above
  pub cut_high : whole < free_words → get_or bits whole 0 / 2 ^ (N % 64) ≢ 0 → spaces_fit N free bits ≡ false
  cut_high low d = go (spaces_fit N free bits) refl
    where
      go : (b : Bool) → spaces_fit N free bits ≡ b → spaces_fit N free bits ≡ false
      go false e = e
      go true e =
          let b : bits_in N whole ≡ N % 64 = omega arith in
          let l : get_or bits whole 0 < 2 ^ (N % 64) = subst (λ (i : ℕ). get_or bits whole 0 < 2 ^ i) b (fit_word N free bits e whole low) in
          absurd (d (div-eq_of_lt l))

  rest_none : spaces_fit N free bits ≡ true → Nothing (whole + 1) bits
  rest_none e w p q =
      let b : bits_in N w ≡ 0 = omega arith in
      let l : get_or bits w 0 < 2 ^ 0 = subst (λ (i : ℕ). get_or bits w 0 < 2 ^ i) b (fit_word N free bits e w q) in
      omega (arith, l)

  -- a bit in a word that N does not reach
  pub rest_high : ¬ Nothing (whole + 1) bits → spaces_fit N free bits ≡ false
  rest_high d = go (spaces_fit N free bits) refl
    where
      go : (b : Bool) → spaces_fit N free bits ≡ b → spaces_fit N free bits ≡ false
      go false e = e
      go true e = absurd (d (rest_none e))

  module _ (words : (w : ℕ) → get_or bits w 0 < 2 ^ word_bits) where
    low_word : N ≤ most_n → (w : ℕ) → w < whole → get_or bits w 0 < 2 ^ bits_in N w
    low_word m w p =
        let b : word_bits ≡ bits_in N w = omega arith in
        subst (λ (i : ℕ). get_or bits w 0 < 2 ^ i) b (words w)

    by_ones : (n : ℕ) → ((w : ℕ) → w < free_words → get_or bits w 0 < 2 ^ bits_in N w) → ones_below free_words bits ≡ n → spaces_fit N free bits ≡ (n =? free)
    by_ones n f o = go (ℕ_discrete n free)
      where
        go : Dec (n ≡ free) → spaces_fit N free bits ≡ (n =? free)
        go (yes e) = fits_from N free bits f (o ∙ e) ∙ sym (eq-eqb n free e)
        go (no d) = other (spaces_fit N free bits) refl ∙ sym (ne_eqb n free d)
          where
            other : (b : Bool) → spaces_fit N free bits ≡ b → spaces_fit N free bits ≡ false
            other false e = e
            other true e = absurd (d (sym o ∙ fit_ones N free bits e))

    -- N reaches all words
    pub fits_all : N ≤ most_n → whole ≡ free_words → spaces_fit N free bits ≡ (ones_below whole bits =? free)
    fits_all m e = by_ones (ones_below whole bits) (λ w p. low_word m w (omega arith)) (ap (λ (i : ℕ). ones_below i bits) (sym e))

    -- N cuts a word
    pub fits_cut : N ≤ most_n → whole < free_words → get_or bits whole 0 / 2 ^ (N % 64) ≡ 0 → Nothing (whole + 1) bits
        → spaces_fit N free bits ≡ (ones_below whole bits + ones (get_or bits whole 0) =? free)
    fits_cut m l c r = by_ones (ones_below whole bits + ones (get_or bits whole 0)) each sum
      where
        own : get_or bits whole 0 < 2 ^ bits_in N whole
        own =
            let b : N % 64 ≡ bits_in N whole = omega arith in
            let g : get_or bits whole 0 / 2 ^ (N % 64) < 1 = omega (arith, c) in
            let h : get_or bits whole 0 < 1 * 2 ^ (N % 64) = (div-lt_iff_lt-mul (pow_pos (N % 64))).0 g in
            let k : get_or bits whole 0 < 2 ^ (N % 64) = omega (arith, h) in
            subst (λ (i : ℕ). get_or bits whole 0 < 2 ^ i) b k

        each : (w : ℕ) → w < free_words → get_or bits w 0 < 2 ^ bits_in N w
        each w p = go (dec_lt w whole) (ℕ_discrete whole w)
          where
            go : Dec (w < whole) → Dec (whole ≡ w) → get_or bits w 0 < 2 ^ bits_in N w
            go (yes q) other = low_word m w q
            go (no q) (yes e) = subst (λ (i : ℕ). get_or bits i 0 < 2 ^ bits_in N i) e own
            go (no q) (no d) = let z = r w (omega arith) p in omega (arith, z, pow_pos (bits_in N w))

        sum : ones_below free_words bits ≡ ones_below whole bits + ones (get_or bits whole 0)
        sum =
            let e : whole + 1 + (free_words - (whole + 1)) ≡ free_words = omega arith in
            ap (λ (i : ℕ). ones_below i bits) (sym e)
            ∙ ones_rest (whole + 1) (free_words - (whole + 1)) bits (λ w p q. r w p (omega arith)) ∙ ones_next whole bits

-- ── the same of the words as they are lent on: those from word k on, and the first k ──
module _ (bits : List ℕ) (long : length bits ≡ bit_words) where
  nth : (k i : ℕ) → i < free_words - k → get_or (slice_range bits k free_words) i 0 ≡ get_or bits (k + i) 0
  nth k i p = get_or-take (free_words - k) (drop k bits) i 0 p ∙ get_or-drop k bits i 0

  pub nothing_in : (k : ℕ) → All (λ w. w ≡ 0) (slice_range bits k free_words) → Nothing k bits
  nothing_in k f w p q =
      let back : k + (w - k) ≡ w = omega arith in
      let in_slice : w - k < length (slice_range bits k free_words) = simp (length-take, length-drop) (omega arith) in
      ap (λ (i : ℕ). get_or bits i 0) (sym back) ∙ sym (nth k (w - k) (omega arith))
      ∙ All-get_or (λ (v : ℕ). v ≡ 0) (slice_range bits k free_words) (w - k) 0 in_slice f

  pub all_in : (k : ℕ) → Nothing k bits → All (λ w. w ≡ 0) (slice_range bits k free_words)
  all_in k f =
      All-from_get_or (λ (v : ℕ). v ≡ 0) (slice_range bits k free_words) 0
      (λ i l. let low : i < free_words - k = omega (arith, length-take (free_words - k) (drop k bits), l) in nth k i low ∙ f (k + i) (omega arith) (omega arith))

  pub ones_first : (k : ℕ) → k ≤ free_words → sum_by ones (take k bits) ≡ ones_below k bits
  unfolding ones_below
  ones_first zero h = refl
  ones_first (suc k) h =
      let e : suc k ≡ k + 1 = omega arith in
      ap (λ (i : ℕ). sum_by ones (take i bits)) e ∙ sum_by_more ones bits k 0 (omega arith) ∙ ap (λ (n : ℕ). n + ones (get_or bits k 0)) (ones_first k (omega arith))

  pub ones_few : ((w : ℕ) → get_or bits w 0 < 2 ^ word_bits) → (k : ℕ) → k ≤ free_words → sum_by ones (take k bits) ≤ most_n
  ones_few words k h =
      let few : (i : ℕ) → i < length (take k bits) → ones (get_or (take k bits) i 0) ≤ 64 =
      λ i l. let low : i < k = omega (arith, length-take k bits, l) in
      subst (λ (v : ℕ). ones v ≤ 64) (sym (get_or-take k bits i 0 low)) (ones-le 64 (get_or bits i 0) (words i)) in
      omega (arith, sum_by-le ones 64 (take k bits) (All-from_get_or (λ (v : ℕ). ones v ≤ 64) (take k bits) 0 few), length-take-le k bits (omega arith))
