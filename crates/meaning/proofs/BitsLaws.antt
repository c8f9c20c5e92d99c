-- The sixteen words of free spaces (document 02 (vii)): where they fit, the lowest free space is free and below N, and so is every free space;
-- taking or giving a space changes that space alone, and the number is again the ones in the words; at setup spaces 0 to N-1 are free.
use Prim.Native.Nat.{ℕ, zero, suc, ◌+◌, ◌-◌, ◌*◌, ◌/◌, ◌%◌, ◌^◌, ◌≤◌, ◌<◌, min}
use mathlib.Core.Path.{◌≡◌, refl, sym, ◌∙◌, ap, subst}
use mathlib.Core.Logic.{◌≢◌}
use mathlib.Core.Bool.{Bool, true, false, ◌&&◌, true≢false}
use mathlib.Core.List.{List}
use native.Mathlib.Nat.{lt_of_lt_of_le, zero-div}
use native.Mathlib.Decide.{dec_lt, ℕ_discrete}
use native.Mathlib.Omega.{arith}
use borrow.Author.Tests.{eq-eqb, ne_eqb, eqb-true, ltb-true, lt-ltb, le-ltb}
use lib.Count.{ones, ones-le, ones-ones, count_trailing_zeros}
use lib.ListN.{length, get_or, set}
use lib.Pow.{pow_mono, ones_lt}
use lib.Seq.{get_or-set_same, get_or-set_other}
use Rattle.meaning.specs.Plain.{◌<?◌, ◌=?◌}
use Rattle.meaning.specs.Numbers.{most_n, free_words, bit_words, word_bits}
use Rattle.meaning.specs.Bits.{word_of, bit_of, is_set, is_free_space, with_bit, without_bit, ones_below, bits_in, none_above, spaces_fit, lowest_from, lowest_free, taken, given, full_word, full_from, all_free}
use Rattle.meaning.proofs.LowLaws.{sets_ones, sets_low, clears_ones, bit_low, full_set, lowest_set, lowest_low, none_lower, ones_none}
use Rattle.meaning.proofs.SetLaws.{bit_set, bit_clear, set_bit, clear_bit, without_length, without_own, without_other, with_length, with_own, with_other}

both : (a b : Bool) → a && b ≡ true → (a ≡ true) × (b ≡ true)
both true b e = (refl, e)
both false b e = absurd (true≢false (sym e))

-- ── a space and its bit ──
module _ (bits : List ℕ) (x : ℕ) where
  pub free_set : is_free_space bits x ≡ true → is_set bits x ≡ true
  unfolding is_free_space
  free_set e = (both (x <? most_n) (is_set bits x) e).1

  pub free_space : is_free_space bits x ≡ true → x < most_n
  unfolding is_free_space
  free_space e = ltb-true x most_n (both (x <? most_n) (is_set bits x) e).0

  pub set_free : x < most_n → is_set bits x ≡ true → is_free_space bits x ≡ true
  unfolding is_free_space
  set_free l e = rw (lt-ltb x most_n l, e)

  pub clear_free : is_set bits x ≡ false → is_free_space bits x ≡ false
  unfolding is_free_space
  clear_free e = go (x <? most_n)
    where
      go : (b : Bool) → b && is_set bits x ≡ false
      go true = e
      go false = refl

  pub held_clear : x < most_n → is_free_space bits x ≡ false → is_set bits x ≡ false
  unfolding is_free_space
  held_clear l e = sym (ap (λ (b : Bool). b && is_set bits x) (lt-ltb x most_n l)) ∙ e

-- the bit of a space in two lists of words
pub same_free : (bits after : List ℕ) (x : ℕ) → is_set after x ≡ is_set bits x → is_free_space after x ≡ is_free_space bits x
unfolding is_free_space
same_free bits after x e = ap (λ (b : Bool). x <? most_n && b) e

-- its word is one of those of the spaces
pub free_in : (bits : List ℕ) (x : ℕ) → is_free_space bits x ≡ true → word_of x < free_words
free_in bits x e = let l = free_space bits x e in omega (arith, l)

-- ── what words that fit say, and what is needed for it ──
word_in : (N k : ℕ) (bits : List ℕ) (w : ℕ) → none_above N k bits ≡ true → w < k → get_or bits w 0 < 2 ^ bits_in N w
unfolding none_above
word_in N zero bits w e p = absurd (omega arith)
word_in N (suc k) bits w e p =
    let b = both (none_above N k bits) (get_or bits k 0 <? 2 ^ bits_in N k) e in
    go (word_in N k bits w b.0) (ltb-true (get_or bits k 0) (2 ^ bits_in N k) b.1) (dec_lt w k)
  where
    go : (w < k → get_or bits w 0 < 2 ^ bits_in N w) → get_or bits k 0 < 2 ^ bits_in N k → Dec (w < k) → get_or bits w 0 < 2 ^ bits_in N w
    go rest last (yes q) = rest q
    go rest last (no q) = let s : k ≡ w = omega arith in subst (λ (i : ℕ). get_or bits i 0 < 2 ^ bits_in N i) s last

none_from : (N k : ℕ) (bits : List ℕ) → ((w : ℕ) → w < k → get_or bits w 0 < 2 ^ bits_in N w) → none_above N k bits ≡ true
unfolding none_above
none_from N zero bits f = refl
none_from N (suc k) bits f =
    rw (none_from N k bits (λ w p. f w (omega arith)), lt-ltb (get_or bits k 0) (2 ^ bits_in N k) (f k (omega arith)))

module _ (N free : ℕ) (bits : List ℕ) where
  pub fit_word : spaces_fit N free bits ≡ true → (w : ℕ) → w < free_words → get_or bits w 0 < 2 ^ bits_in N w
  unfolding spaces_fit
  fit_word e w p = word_in N free_words bits w (both (none_above N free_words bits) (ones_below free_words bits =? free) e).0 p

  pub fit_ones : spaces_fit N free bits ≡ true → ones_below free_words bits ≡ free
  unfolding spaces_fit
  fit_ones e = eqb-true (ones_below free_words bits) free (both (none_above N free_words bits) (ones_below free_words bits =? free) e).1

  pub fits_from : ((w : ℕ) → w < free_words → get_or bits w 0 < 2 ^ bits_in N w) → ones_below free_words bits ≡ free → spaces_fit N free bits ≡ true
  unfolding spaces_fit
  fits_from f e = rw (none_from N free_words bits f, eq-eqb (ones_below free_words bits) free e)

  -- each word has 64 bits
  pub word_low : spaces_fit N free bits ≡ true → (w : ℕ) → w < free_words → get_or bits w 0 < 2 ^ word_bits
  word_low e w p =
      let l : bits_in N w ≤ word_bits = omega arith in
      lt_of_lt_of_le (fit_word e w p) (pow_mono l)

  -- ── a free space is below N ──
  pub free_low : spaces_fit N free bits ≡ true → (x : ℕ) → is_free_space bits x ≡ true → x < N
  free_low e x f =
      let b : bit_of x < bits_in N (word_of x) =
      bit_low (get_or bits (word_of x) 0) (bit_of x) (bits_in N (word_of x)) (fit_word e (word_of x) (free_in bits x f)) (bit_set bits x (free_set bits x f)) in
      omega (arith, b)

  pub high_not_free : spaces_fit N free bits ≡ true → (x : ℕ) → N ≤ x → is_free_space bits x ≡ false
  high_not_free e x h = go (is_free_space bits x) refl
    where
      go : (b : Bool) → is_free_space bits x ≡ b → is_free_space bits x ≡ false
      go true f = absurd (let l = free_low e x f in omega (arith, l))
      go false f = f

-- ── how many are free ──
ones_most : (N k : ℕ) (bits : List ℕ) → ((w : ℕ) → w < k → get_or bits w 0 < 2 ^ bits_in N w) → ones_below k bits ≤ min (word_bits * k) N
unfolding ones_below
ones_most N zero bits f = omega arith
ones_most N (suc k) bits f =
    let r = ones_most N k bits (λ w p. f w (omega arith)) in
    let l : ones (get_or bits k 0) ≤ bits_in N k = ones-le (bits_in N k) (get_or bits k 0) (f k (omega arith)) in
    omega (arith, r, l)

pub free_most : (N free : ℕ) (bits : List ℕ) → spaces_fit N free bits ≡ true → free ≤ N
free_most N free bits e =
    let m = ones_most N free_words bits (fit_word N free bits e) in
    let o = fit_ones N free bits e in
    omega (arith, m, o)

-- some word is not 0 where a bit is set
some_word : (k : ℕ) (bits : List ℕ) → ones_below k bits ≢ 0 → (i : ℕ) × (i < k) × (get_or bits i 0 ≢ 0)
unfolding ones_below
some_word zero bits h = absurd (h refl)
some_word (suc k) bits h = go (some_word k bits) (ℕ_discrete (get_or bits k 0) 0)
  where
    go : (ones_below k bits ≢ 0 → (i : ℕ) × (i < k) × (get_or bits i 0 ≢ 0)) → Dec (get_or bits k 0 ≡ 0)
        → (i : ℕ) × (i < suc k) × (get_or bits i 0 ≢ 0)
    go rest (yes e) =
        let o : ones (get_or bits k 0) ≡ 0 = ap ones e ∙ ones_none in
        let r = rest (λ z. h (omega (arith, z, o))) in
        (r.0, omega (arith, r.1), r.2)
    go rest (no d) = (k, omega arith, d)

-- ── the lowest free space ──
module _ (bits : List ℕ) (k w : ℕ) where
  -- it is the first bit that is set in the k words from w on
  record Found (x : ℕ) : Type 0 where
    below : x < word_bits * (w + k)
    free : is_set bits x ≡ true
    first : (y : ℕ) → word_bits * w ≤ y → y < x → is_set bits y ≡ false

at_word : (bits : List ℕ) (w x : ℕ) → x / word_bits ≡ w → get_or bits (word_of x) 0 / 2 ^ bit_of x % 2 ≡ get_or bits w 0 / 2 ^ bit_of x % 2
at_word bits w x e = ap (λ (i : ℕ). get_or bits i 0 / 2 ^ bit_of x % 2) e

found_here : (bits : List ℕ) (k w : ℕ) → get_or bits w 0 ≢ 0 → get_or bits w 0 < 2 ^ word_bits
    → Found bits (suc k) w (word_bits * w + count_trailing_zeros word_bits (get_or bits w 0))
found_here bits k w d l = go (count_trailing_zeros word_bits (get_or bits w 0)) refl
  where
    go : (t : ℕ) → count_trailing_zeros word_bits (get_or bits w 0) ≡ t → Found bits (suc k) w (word_bits * w + t)
    go t e =
        let low : t < word_bits = subst (λ (i : ℕ). i < word_bits) e (lowest_low word_bits (get_or bits w 0) d l) in
        let own : get_or bits w 0 / 2 ^ t % 2 ≡ 1 = subst (λ (i : ℕ). get_or bits w 0 / 2 ^ i % 2 ≡ 1) e (lowest_set word_bits (get_or bits w 0) d l) in
        let b : bit_of (word_bits * w + t) ≡ t = omega arith in
        record {
          below = omega arith;
          free = set_bit bits (word_bits * w + t)
              (at_word bits w (word_bits * w + t) (omega arith) ∙ ap (λ (i : ℕ). get_or bits w 0 / 2 ^ i % 2) b ∙ own);
          first = λ y p q. clear_bit bits y
              (at_word bits w y (omega arith)
              ∙ none_lower word_bits (get_or bits w 0) (bit_of y) (subst (λ (i : ℕ). bit_of y < i) (sym e) (omega arith)));
        }

found_later : (bits : List ℕ) (k w x : ℕ) → get_or bits w 0 ≡ 0 → Found bits k (w + 1) x → Found bits (suc k) w x
found_later bits k w x e f =
    record { below = omega (arith, f.below); free = f.free; first = λ y p q. go y p q (dec_lt y (word_bits * (w + 1))) }
  where
    go : (y : ℕ) → word_bits * w ≤ y → y < x → Dec (y < word_bits * (w + 1)) → is_set bits y ≡ false
    go y p q (yes l) =
        let i : y / word_bits ≡ w = omega arith in
        let z : get_or bits w 0 / 2 ^ bit_of y ≡ 0 = ap (λ (v : ℕ). v / 2 ^ bit_of y) e ∙ zero-div (2 ^ bit_of y) in
        clear_bit bits y (at_word bits w y i ∙ ap (λ (v : ℕ). v % 2) z)
    go y p q (no l) = f.first y (omega arith) q

find : (bits : List ℕ) (k w : ℕ) → ((i : ℕ) → i < w + k → get_or bits i 0 < 2 ^ word_bits)
    → (i : ℕ) → w ≤ i → i < w + k → get_or bits i 0 ≢ 0 → Found bits k w (lowest_from k w bits)
unfolding lowest_from
find bits zero w words i p q d = absurd (omega arith)
find bits (suc k) w words i p q d =
    go
    (λ e.
    let other : w ≢ i = λ s. d (ap (λ (j : ℕ). get_or bits j 0) (sym s) ∙ e) in
    find bits k (w + 1) (λ j l. words j (omega arith)) i (omega arith) (omega arith) d)
    (ℕ_discrete (get_or bits w 0) 0)
  where
    go : (get_or bits w 0 ≡ 0 → Found bits k (w + 1) (lowest_from k (w + 1) bits)) → Dec (get_or bits w 0 ≡ 0) → Found bits (suc k) w (lowest_from (suc k) w bits)
    go rest (yes e) = rw (eq-eqb (get_or bits w 0) 0 e) (found_later bits k w (lowest_from k (w + 1) bits) e (rest e))
    go rest (no e) = rw (ne_eqb (get_or bits w 0) 0 e) (found_here bits k w e (words w (omega arith)))

module _ (N free : ℕ) (bits : List ℕ) (fits : spaces_fit N free bits ≡ true) (some : free ≢ 0) where
  lowest_found : Found bits free_words 0 (lowest_free bits)
  unfolding lowest_free
  lowest_found =
      let o = fit_ones N free bits fits in
      let s = some_word free_words bits (λ z. some (sym o ∙ z)) in
      find bits free_words 0 (λ i p. word_low N free bits fits i (omega arith)) s.0 (omega arith) (omega (arith, s.1)) s.2

  pub lowest_in : lowest_free bits < most_n
  lowest_in = lowest_found.below

  pub lowest_free_lem : is_free_space bits (lowest_free bits) ≡ true
  lowest_free_lem = set_free bits (lowest_free bits) lowest_in lowest_found.free

  pub lowest_first : (y : ℕ) → y < lowest_free bits → is_free_space bits y ≡ false
  lowest_first y p = clear_free bits y (lowest_found.first y (omega arith) p)

  pub lowest_below : lowest_free bits < N
  lowest_below =
      let i = lowest_found.below in
      let b : bit_of (lowest_free bits) < bits_in N (word_of (lowest_free bits)) =
      bit_low (get_or bits (word_of (lowest_free bits)) 0) (bit_of (lowest_free bits)) (bits_in N (word_of (lowest_free bits)))
      (fit_word N free bits fits (word_of (lowest_free bits)) (omega (arith, i))) (bit_set bits (lowest_free bits) lowest_found.free) in
      omega (arith, b)

-- ── one word changed ──
ones_before : (k : ℕ) (bits : List ℕ) (w v : ℕ) → k ≤ w → ones_below k (set bits w v) ≡ ones_below k bits
unfolding ones_below
ones_before zero bits w v p = refl
ones_before (suc k) bits w v p =
    let other : k ≢ w = λ e. omega (arith, e, p) in
    rw (ones_before k bits w v (omega arith), get_or-set_other bits w k v 0 other)

ones_after : (k : ℕ) (bits : List ℕ) (w v : ℕ) → w < k → w < length bits
    → ones_below k (set bits w v) + ones (get_or bits w 0) ≡ ones_below k bits + ones v
unfolding ones_below
ones_after zero bits w v p l = absurd (omega arith)
ones_after (suc k) bits w v p l = go (λ q. ones_after k bits w v q l) (ℕ_discrete k w)
  where
    go : (w < k → ones_below k (set bits w v) + ones (get_or bits w 0) ≡ ones_below k bits + ones v) → Dec (k ≡ w)
        → ones_below k (set bits w v) + ones (get_or (set bits w v) k 0) + ones (get_or bits w 0) ≡ ones_below k bits + ones (get_or bits k 0) + ones v
    go rest (yes e) =
        let b = ones_before k bits w v (omega arith) in
        let s : ones (get_or (set bits w v) k 0) ≡ ones v = ap (λ (i : ℕ). ones (get_or (set bits w v) i 0)) e ∙ ap ones (get_or-set_same bits w v 0 l) in
        let t : ones (get_or bits k 0) ≡ ones (get_or bits w 0) = ap (λ (i : ℕ). ones (get_or bits i 0)) e in
        omega (arith, b, s, t)
    go rest (no d) =
        let r = rest (omega arith) in
        let s : ones (get_or (set bits w v) k 0) ≡ ones (get_or bits k 0) = ap ones (get_or-set_other bits w k v 0 d) in
        omega (arith, r, s)

word_after : (N : ℕ) (bits : List ℕ) (w v i : ℕ) → w < length bits → v < 2 ^ bits_in N w → get_or bits i 0 < 2 ^ bits_in N i
    → get_or (set bits w v) i 0 < 2 ^ bits_in N i
word_after N bits w v i l h o = go (ℕ_discrete i w)
  where
    go : Dec (i ≡ w) → get_or (set bits w v) i 0 < 2 ^ bits_in N i
    go (yes e) =
        subst (λ (j : ℕ). get_or (set bits w v) j 0 < 2 ^ bits_in N j) (sym e)
        (subst (λ (u : ℕ). u < 2 ^ bits_in N w) (sym (get_or-set_same bits w v 0 l)) h)
    go (no d) = subst (λ (u : ℕ). u < 2 ^ bits_in N i) (sym (get_or-set_other bits w i v 0 d)) o

fit_after : (N free after : ℕ) (bits : List ℕ) (w v : ℕ) → length bits ≡ bit_words → w < free_words → spaces_fit N free bits ≡ true
    → v < 2 ^ bits_in N w → after + ones (get_or bits w 0) ≡ free + ones v → spaces_fit N after (set bits w v) ≡ true
fit_after N free after bits w v n p e h s =
    let l : w < length bits = omega arith in
    let o = ones_after free_words bits w v p l in
    let f = fit_ones N free bits e in
    fits_from N after (set bits w v) (λ i q. word_after N bits w v i l h (fit_word N free bits e i q)) (omega (arith, o, f, s))

-- ── a space is taken ──
pub taken_length : (bits : List ℕ) (x : ℕ) → length (taken bits x) ≡ length bits
taken_length bits x = without_length bits x

module _ (bits : List ℕ) (x : ℕ) (f : is_free_space bits x ≡ true) where
  pub taken_own : is_free_space (taken bits x) x ≡ false
  taken_own = clear_free (taken bits x) x (without_own bits x (free_set bits x f))

  pub taken_other : (y : ℕ) → y ≢ x → is_free_space (taken bits x) y ≡ is_free_space bits y
  taken_other y d = same_free bits (taken bits x) y (without_other bits x (free_set bits x f) y d)

  clears_one : ones (get_or bits (word_of x) 0 - 2 ^ bit_of x) + 1 ≡ ones (get_or bits (word_of x) 0)
  clears_one = let c = clears_ones (get_or bits (word_of x) 0) (bit_of x) (bit_set bits x (free_set bits x f)) in omega (arith, c)

  pub some_free : (N free : ℕ) → length bits ≡ bit_words → spaces_fit N free bits ≡ true → free ≢ 0
  some_free N free n e z =
      let i = free_in bits x f in
      let o = ones_after free_words bits (word_of x) (get_or bits (word_of x) 0 - 2 ^ bit_of x) i (omega arith) in
      let s = fit_ones N free bits e in
      omega (arith, o, clears_one, s, z)

  pub taken_fits : (N free : ℕ) → length bits ≡ bit_words → spaces_fit N free bits ≡ true → spaces_fit N (free - 1) (taken bits x) ≡ true
  unfolding without_bit
  taken_fits N free n e =
      let i = free_in bits x f in
      let h = fit_word N free bits e (word_of x) i in
      let s = some_free N free n e in
      fit_after N free (free - 1) bits (word_of x) (get_or bits (word_of x) 0 - 2 ^ bit_of x) n i e (omega (arith, h)) (omega (arith, clears_one, s))

-- ── a space is given back ──
pub given_length : (bits : List ℕ) (x : ℕ) → length (given bits x) ≡ length bits
given_length bits x = with_length bits x

module _ (bits : List ℕ) (x : ℕ) (small : x < most_n) (n : length bits ≡ bit_words) (f : is_free_space bits x ≡ false) where
  word_there : word_of x < length bits
  word_there = omega arith

  pub given_own : is_free_space (given bits x) x ≡ true
  given_own = set_free (given bits x) x small (with_own bits x (held_clear bits x small f) word_there)

  pub given_other : (y : ℕ) → y ≢ x → is_free_space (given bits x) y ≡ is_free_space bits y
  given_other y d = same_free bits (given bits x) y (with_other bits x (held_clear bits x small f) word_there y d)

  pub given_fits : (N free : ℕ) → x < N → spaces_fit N free bits ≡ true → spaces_fit N (free + 1) (given bits x) ≡ true
  unfolding with_bit
  given_fits N free l e =
      let clear = bit_clear bits x (held_clear bits x small f) in
      let c = sets_ones (get_or bits (word_of x) 0) (bit_of x) clear in
      let p : word_of x < free_words = omega arith in
      let b : bit_of x < bits_in N (word_of x) = omega arith in
      let h = sets_low (get_or bits (word_of x) 0) (bit_of x) (bits_in N (word_of x)) clear b (fit_word N free bits e (word_of x) p) in
      fit_after N free (free + 1) bits (word_of x) (get_or bits (word_of x) 0 + 2 ^ bit_of x) n p e h (omega (arith, c))

-- ── at setup ──
full_length : (N k w : ℕ) → length (full_from N k w) ≡ k
unfolding full_from
full_length N zero w = refl
full_length N (suc k) w = ap suc (full_length N k (w + 1))

full_word_lem : (N k w i : ℕ) → i < k → get_or (full_from N k w) i 0 ≡ full_word N (w + i)
unfolding full_from
full_word_lem N zero w i p = absurd (omega arith)
full_word_lem N (suc k) w zero p = let e : w ≡ w + 0 = omega arith in ap (full_word N) e
full_word_lem N (suc k) w (suc i) p = let e : w + 1 + i ≡ w + suc i = omega arith in full_word_lem N k (w + 1) i (omega arith) ∙ ap (full_word N) e

pub full_is : (N w : ℕ) → w < bit_words → get_or (all_free N) w 0 ≡ full_word N w
full_is N w p = let e : 0 + w ≡ w = omega arith in full_word_lem N bit_words 0 w p ∙ ap (full_word N) e

pub all_length : (N : ℕ) → length (all_free N) ≡ bit_words
all_length N = full_length N bit_words 0

full_ones : (N k : ℕ) → k ≤ free_words → ones_below k (all_free N) ≡ min (word_bits * k) N
unfolding ones_below
full_ones N zero p = omega arith
full_ones N (suc k) p =
    let r = full_ones N k (omega arith) in
    let o : ones (get_or (all_free N) k 0) ≡ bits_in N k = ap ones (full_is N k (omega arith)) ∙ ones-ones (bits_in N k) in
    omega (arith, r, o)

pub all_fit : (N : ℕ) → N ≤ most_n → spaces_fit N N (all_free N) ≡ true
all_fit N h =
    let o = full_ones N free_words (omega arith) in
    fits_from N N (all_free N)
    (λ w p. subst (λ (u : ℕ). u < 2 ^ bits_in N w) (sym (full_is N w (omega arith))) (ones_lt (bits_in N w)))
    (omega (arith, o))

pub all_free_lem : (N x : ℕ) → N ≤ most_n → is_free_space (all_free N) x ≡ (x <? N)
all_free_lem N x h = go (dec_lt x N)
  where
    go : Dec (x < N) → is_free_space (all_free N) x ≡ (x <? N)
    go (yes p) =
        let b : bit_of x < bits_in N (word_of x) = omega arith in
        set_free (all_free N) x (omega arith)
        (set_bit (all_free N) x
        (ap (λ (u : ℕ). u / 2 ^ bit_of x % 2) (full_is N (word_of x) (omega arith)) ∙ full_set (bits_in N (word_of x)) (bit_of x) b))
        ∙ sym (lt-ltb x N p)
    go (no p) = high_not_free N N (all_free N) (all_fit N h) x (omega arith) ∙ sym (le-ltb x N (omega arith))
