-- One bit of the lent words, of a space or of an entry: what it says of its word; set or cleared, it changes itself alone, and the
-- words keep their number.
use Prim.Native.Nat.{ℕ, ◌+◌, ◌-◌, ◌/◌, ◌%◌, ◌^◌, ◌<◌}
use mathlib.Core.Path.{◌≡◌, sym, ◌∙◌, ap}
use mathlib.Core.Logic.{◌≢◌}
use mathlib.Core.Bool.{true, false}
use mathlib.Core.List.{List}
use native.Mathlib.Nat.{zero-div}
use native.Mathlib.Decide.{dec_lt, ℕ_discrete}
use native.Mathlib.Omega.{arith}
use borrow.Author.Tests.{eq-eqb, ne_eqb, eqb-true, eqb-false}
use lib.ListN.{length, get_or, set, length-set, get_or-eq_default}
use lib.Seq.{get_or-set_same, get_or-set_other}
use Rattle.meaning.specs.Plain.{◌=?◌}
use Rattle.meaning.specs.Bits.{word_of, bit_of, is_set, with_bit, without_bit}
use Rattle.meaning.proofs.LowLaws.{sets_own, sets_other, clears_own, clears_other}

module _ (bits : List ℕ) (k : ℕ) where
  pub bit_set : is_set bits k ≡ true → get_or bits (word_of k) 0 / 2 ^ bit_of k % 2 ≡ 1
  unfolding is_set
  bit_set e = eqb-true (get_or bits (word_of k) 0 / 2 ^ bit_of k % 2) 1 e

  pub bit_clear : is_set bits k ≡ false → get_or bits (word_of k) 0 / 2 ^ bit_of k % 2 ≡ 0
  unfolding is_set
  bit_clear e = let d = eqb-false (get_or bits (word_of k) 0 / 2 ^ bit_of k % 2) 1 e in omega (arith, d)

  pub set_bit : get_or bits (word_of k) 0 / 2 ^ bit_of k % 2 ≡ 1 → is_set bits k ≡ true
  unfolding is_set
  set_bit e = eq-eqb (get_or bits (word_of k) 0 / 2 ^ bit_of k % 2) 1 e

  pub clear_bit : get_or bits (word_of k) 0 / 2 ^ bit_of k % 2 ≡ 0 → is_set bits k ≡ false
  unfolding is_set
  clear_bit e = ne_eqb (get_or bits (word_of k) 0 / 2 ^ bit_of k % 2) 1 (λ f. omega (arith, e, f))

-- a bit in two lists of words
pub same_bit : (bits after : List ℕ) (k : ℕ)
    → get_or after (word_of k) 0 / 2 ^ bit_of k % 2 ≡ get_or bits (word_of k) 0 / 2 ^ bit_of k % 2 → is_set after k ≡ is_set bits k
unfolding is_set
same_bit bits after k e = ap (λ (b : ℕ). b =? 1) e

-- a bit past the last word is not set
pub set_in : (bits : List ℕ) (k : ℕ) → is_set bits k ≡ true → word_of k < length bits
set_in bits k e = go (dec_lt (word_of k) (length bits))
  where
    go : Dec (word_of k < length bits) → word_of k < length bits
    go (yes p) = p
    go (no p) =
        let d : get_or bits (word_of k) 0 ≡ 0 = get_or-eq_default bits 0 (omega arith) in
        let z : get_or bits (word_of k) 0 / 2 ^ bit_of k ≡ 0 = ap (λ (w : ℕ). w / 2 ^ bit_of k) d ∙ zero-div (2 ^ bit_of k) in
        absurd (omega (arith, z, bit_set bits k e))

-- a bit that is not changed
bit_kept : (bits : List ℕ) (k j v : ℕ) → word_of k < length bits → j ≢ k
    → ((i : ℕ) → i ≢ bit_of k → v / 2 ^ i % 2 ≡ get_or bits (word_of k) 0 / 2 ^ i % 2) → is_set (set bits (word_of k) v) j ≡ is_set bits j
bit_kept bits k j v l d f = same_bit bits (set bits (word_of k) v) j (go (ℕ_discrete (word_of j) (word_of k)))
  where
    go : Dec (word_of j ≡ word_of k) → get_or (set bits (word_of k) v) (word_of j) 0 / 2 ^ bit_of j % 2 ≡ get_or bits (word_of j) 0 / 2 ^ bit_of j % 2
    go (yes e) =
        let other : bit_of j ≢ bit_of k = λ s. d (omega arith) in
        ap (λ (i : ℕ). get_or (set bits (word_of k) v) i 0 / 2 ^ bit_of j % 2) e
        ∙ ap (λ (u : ℕ). u / 2 ^ bit_of j % 2) (get_or-set_same bits (word_of k) v 0 l)
        ∙ f (bit_of j) other
        ∙ ap (λ (i : ℕ). get_or bits i 0 / 2 ^ bit_of j % 2) (sym e)
    go (no e) = ap (λ (u : ℕ). u / 2 ^ bit_of j % 2) (get_or-set_other bits (word_of k) (word_of j) v 0 e)

-- ── a bit is cleared ──
pub without_length : (bits : List ℕ) (k : ℕ) → length (without_bit bits k) ≡ length bits
unfolding without_bit
without_length bits k = length-set bits (word_of k) (get_or bits (word_of k) 0 - 2 ^ bit_of k)

module _ (bits : List ℕ) (k : ℕ) (f : is_set bits k ≡ true) where
  pub without_own : is_set (without_bit bits k) k ≡ false
  unfolding without_bit
  without_own =
      clear_bit (without_bit bits k) k
      (ap (λ (u : ℕ). u / 2 ^ bit_of k % 2) (get_or-set_same bits (word_of k) (get_or bits (word_of k) 0 - 2 ^ bit_of k) 0 (set_in bits k f))
      ∙ clears_own (get_or bits (word_of k) 0) (bit_of k) (bit_set bits k f))

  pub without_other : (j : ℕ) → j ≢ k → is_set (without_bit bits k) j ≡ is_set bits j
  unfolding without_bit
  without_other j d =
      bit_kept bits k j (get_or bits (word_of k) 0 - 2 ^ bit_of k) (set_in bits k f) d
      (λ i e. clears_other (get_or bits (word_of k) 0) (bit_of k) i (bit_set bits k f) e)

-- ── a bit is set ──
pub with_length : (bits : List ℕ) (k : ℕ) → length (with_bit bits k) ≡ length bits
unfolding with_bit
with_length bits k = length-set bits (word_of k) (get_or bits (word_of k) 0 + 2 ^ bit_of k)

module _ (bits : List ℕ) (k : ℕ) (f : is_set bits k ≡ false) (i : word_of k < length bits) where
  pub with_own : is_set (with_bit bits k) k ≡ true
  unfolding with_bit
  with_own =
      set_bit (with_bit bits k) k
      (ap (λ (u : ℕ). u / 2 ^ bit_of k % 2) (get_or-set_same bits (word_of k) (get_or bits (word_of k) 0 + 2 ^ bit_of k) 0 i)
      ∙ sets_own (get_or bits (word_of k) 0) (bit_of k) (bit_clear bits k f))

  pub with_other : (j : ℕ) → j ≢ k → is_set (with_bit bits k) j ≡ is_set bits j
  unfolding with_bit
  with_other j d =
      bit_kept bits k j (get_or bits (word_of k) 0 + 2 ^ bit_of k) i d
      (λ o e. sets_other (get_or bits (word_of k) 0) (bit_of k) o (bit_clear bits k f) e)

-- ── a bit beside a word ──
pub without_word : (bits : List ℕ) (k w : ℕ) → w ≢ word_of k → get_or (without_bit bits k) w 0 ≡ get_or bits w 0
unfolding without_bit
without_word bits k w d = get_or-set_other bits (word_of k) w (get_or bits (word_of k) 0 - 2 ^ bit_of k) 0 d

pub with_word : (bits : List ℕ) (k w : ℕ) → w ≢ word_of k → get_or (with_bit bits k) w 0 ≡ get_or bits w 0
unfolding with_bit
with_word bits k w d = get_or-set_other bits (word_of k) w (get_or bits (word_of k) 0 + 2 ^ bit_of k) 0 d
