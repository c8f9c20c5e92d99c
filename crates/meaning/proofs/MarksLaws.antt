-- The bits of the entries (document 02 (ix)): a mark set or cleared changes that of its entry alone, and nothing of the spaces; a space
-- taken or given back changes no mark; at setup no entry is marked.
use Prim.Native.Nat.{ℕ, zero, suc, ◌+◌, ◌-◌, ◌/◌, ◌%◌, ◌^◌, ◌≤◌, ◌<◌}
use mathlib.Core.Path.{◌≡◌, refl, sym, ◌∙◌, ap}
use mathlib.Core.Logic.{◌≢◌}
use mathlib.Core.Bool.{Bool, true, false}
use mathlib.Core.List.{List}
use native.Mathlib.Nat.{zero-div}
use native.Mathlib.Decide.{dec_lt}
use native.Mathlib.Omega.{arith}
use borrow.Author.Tests.{le-ltb}
use lib.ListN.{length, get_or}
use Rattle.meaning.specs.Plain.{when◌then◌else◌}
use Rattle.meaning.specs.Numbers.{most_n, free_words, bit_words}
use Rattle.meaning.specs.Bits.{word_of, bit_of, is_set, is_free_space, entry_bit, is_marked, ones_below, bits_in, none_above, spaces_fit, lowest_from, lowest_free, with_bit, without_bit, taken, given, marked, unmarked, all_free}
use Rattle.meaning.proofs.SetLaws.{clear_bit, same_bit, without_length, without_own, without_other, without_word, with_length, with_own, with_other, with_word}
use Rattle.meaning.proofs.BitsLaws.{free_set, free_space, held_clear, same_free, full_is}

-- ── the words of the spaces alone say which are free ──
ones_same : (k : ℕ) (bits after : List ℕ) → ((w : ℕ) → w < k → get_or after w 0 ≡ get_or bits w 0) → ones_below k after ≡ ones_below k bits
unfolding ones_below
ones_same zero bits after f = refl
ones_same (suc k) bits after f = rw (ones_same k bits after (λ w p. f w (omega arith)), f k (omega arith))

none_same : (N k : ℕ) (bits after : List ℕ) → ((w : ℕ) → w < k → get_or after w 0 ≡ get_or bits w 0) → none_above N k after ≡ none_above N k bits
unfolding none_above
none_same N zero bits after f = refl
none_same N (suc k) bits after f = rw (none_same N k bits after (λ w p. f w (omega arith)), f k (omega arith))

lowest_same : (k v : ℕ) (bits after : List ℕ) → ((w : ℕ) → w < v + k → get_or after w 0 ≡ get_or bits w 0) → lowest_from k v after ≡ lowest_from k v bits
unfolding lowest_from
lowest_same zero v bits after f = refl
lowest_same (suc k) v bits after f = rw (lowest_same k (v + 1) bits after (λ w p. f w (omega arith)), f v (omega arith))

high_free : (bits : List ℕ) (x : ℕ) → most_n ≤ x → is_free_space bits x ≡ false
unfolding is_free_space
high_free bits x h = rw (le-ltb x most_n h)

module _ (bits after : List ℕ) (same : (w : ℕ) → w < free_words → get_or after w 0 ≡ get_or bits w 0) where
  pub same_fit : (N free : ℕ) → spaces_fit N free after ≡ spaces_fit N free bits
  unfolding spaces_fit
  same_fit N free = rw (none_same N free_words bits after same, ones_same free_words bits after same)

  pub same_spaces : (x : ℕ) → is_free_space after x ≡ is_free_space bits x
  same_spaces x = go (dec_lt x most_n)
    where
      go : Dec (x < most_n) → is_free_space after x ≡ is_free_space bits x
      go (yes l) =
          same_free bits after x (same_bit bits after x (ap (λ (u : ℕ). u / 2 ^ bit_of x % 2) (same (word_of x) (omega arith))))
      go (no l) = high_free after x (omega arith) ∙ sym (high_free bits x (omega arith))

  pub same_lowest : lowest_free after ≡ lowest_free bits
  unfolding lowest_free
  same_lowest = lowest_same free_words 0 bits after (λ w p. same w (omega arith))

-- ── a mark is set ──
module _ (bits : List ℕ) (e : ℕ) where
  by_mark : (P : List ℕ → Type 0) → (is_marked bits e ≡ true → P bits) → (is_marked bits e ≡ false → P (with_bit bits (entry_bit e))) → P (marked bits e)
  unfolding marked
  by_mark P f g = go (is_marked bits e) f g
    where
      go : (b : Bool) → (b ≡ true → P bits) → (b ≡ false → P (with_bit bits (entry_bit e))) → P (when b then bits else with_bit bits (entry_bit e))
      go true f g = f refl
      go false f g = g refl

  by_unmark : (P : List ℕ → Type 0) → (is_marked bits e ≡ true → P (without_bit bits (entry_bit e))) → (is_marked bits e ≡ false → P bits) → P (unmarked bits e)
  unfolding unmarked
  by_unmark P f g = go (is_marked bits e) f g
    where
      go : (b : Bool) → (b ≡ true → P (without_bit bits (entry_bit e))) → (b ≡ false → P bits) → P (when b then without_bit bits (entry_bit e) else bits)
      go true f g = f refl
      go false f g = g refl

  mark_set : (b : Bool) → is_marked bits e ≡ b → is_set bits (entry_bit e) ≡ b
  unfolding is_marked
  mark_set b h = h

  pub marked_length : length (marked bits e) ≡ length bits
  marked_length = by_mark (λ l. length l ≡ length bits) (λ h. refl) (λ h. with_length bits (entry_bit e))

  pub unmarked_length : length (unmarked bits e) ≡ length bits
  unmarked_length = by_unmark (λ l. length l ≡ length bits) (λ h. without_length bits (entry_bit e)) (λ h. refl)

  pub marked_word : (w : ℕ) → w < free_words → get_or (marked bits e) w 0 ≡ get_or bits w 0
  marked_word w p =
      by_mark (λ l. get_or l w 0 ≡ get_or bits w 0) (λ h. refl) (λ h. with_word bits (entry_bit e) w (λ q. omega (arith, q)))

  pub unmarked_word : (w : ℕ) → w < free_words → get_or (unmarked bits e) w 0 ≡ get_or bits w 0
  unmarked_word w p =
      by_unmark (λ l. get_or l w 0 ≡ get_or bits w 0) (λ h. without_word bits (entry_bit e) w (λ q. omega (arith, q))) (λ h. refl)

  -- the spaces stay as they are
  pub marked_free : (x : ℕ) → is_free_space (marked bits e) x ≡ is_free_space bits x
  marked_free = same_spaces bits (marked bits e) marked_word

  pub unmarked_free : (x : ℕ) → is_free_space (unmarked bits e) x ≡ is_free_space bits x
  unmarked_free = same_spaces bits (unmarked bits e) unmarked_word

  pub marked_fits : (N free : ℕ) → spaces_fit N free (marked bits e) ≡ spaces_fit N free bits
  marked_fits = same_fit bits (marked bits e) marked_word

  pub unmarked_fits : (N free : ℕ) → spaces_fit N free (unmarked bits e) ≡ spaces_fit N free bits
  unmarked_fits = same_fit bits (unmarked bits e) unmarked_word

  -- its own mark, and another's
  pub marked_own : length bits ≡ bit_words → e < most_n → is_marked (marked bits e) e ≡ true
  unfolding is_marked
  marked_own n l = by_mark (λ m. is_marked m e ≡ true) (λ h. h) (λ h. with_own bits (entry_bit e) (mark_set false h) (omega arith))

  pub marked_other : length bits ≡ bit_words → e < most_n → (f : ℕ) → f ≢ e → is_marked (marked bits e) f ≡ is_marked bits f
  unfolding is_marked
  marked_other n l f d =
      by_mark (λ m. is_marked m f ≡ is_marked bits f) (λ h. refl)
      (λ h. with_other bits (entry_bit e) (mark_set false h) (omega arith) (entry_bit f) (λ q. d (omega arith)))

  pub unmarked_own : is_marked (unmarked bits e) e ≡ false
  unfolding is_marked
  unmarked_own = by_unmark (λ m. is_marked m e ≡ false) (λ h. without_own bits (entry_bit e) (mark_set true h)) (λ h. h)

  pub unmarked_other : (f : ℕ) → f ≢ e → is_marked (unmarked bits e) f ≡ is_marked bits f
  unfolding is_marked
  unmarked_other f d =
      by_unmark (λ m. is_marked m f ≡ is_marked bits f)
      (λ h. without_other bits (entry_bit e) (mark_set true h) (entry_bit f) (λ q. d (omega arith))) (λ h. refl)

-- ── a space taken or given back ──
pub taken_mark : (bits : List ℕ) (x : ℕ) → is_free_space bits x ≡ true → (e : ℕ) → is_marked (taken bits x) e ≡ is_marked bits e
unfolding is_marked
taken_mark bits x f e =
    let l = free_space bits x f in
    without_other bits x (free_set bits x f) (entry_bit e) (λ q. omega (arith, q, l))

pub given_mark : (bits : List ℕ) (x : ℕ) → x < most_n → length bits ≡ bit_words → is_free_space bits x ≡ false
    → (e : ℕ) → is_marked (given bits x) e ≡ is_marked bits e
unfolding is_marked
given_mark bits x l n f e = with_other bits x (held_clear bits x l f) (omega arith) (entry_bit e) (λ q. omega (arith, q, l))

-- ── at setup ──
pub no_marks : (N e : ℕ) → N ≤ most_n → e < most_n → is_marked (all_free N) e ≡ false
unfolding is_marked
no_marks N e h l =
    let w : word_of (entry_bit e) < bit_words = omega arith in
    let b : bits_in N (word_of (entry_bit e)) ≡ 0 = omega arith in
    let z : get_or (all_free N) (word_of (entry_bit e)) 0 ≡ 0 = full_is N (word_of (entry_bit e)) w ∙ ap (λ (j : ℕ). 2 ^ j - 1) b in
    clear_bit (all_free N) (entry_bit e)
    (ap (λ (u : ℕ). u / 2 ^ bit_of (entry_bit e) % 2) z ∙ ap (λ (u : ℕ). u % 2) (zero-div (2 ^ bit_of (entry_bit e))))
