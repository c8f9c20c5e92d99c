-- A word of marks, shifted so that its first bit is an entry's: where it is 0, none of its entries is marked; else its trailing zeros lead to
-- the first one that is.
use Prim.Native.Nat.{ℕ, ◌+◌, ◌-◌, ◌*◌, ◌/◌, ◌%◌, ◌^◌, ◌≤◌, ◌<◌}
use mathlib.Core.Path.{◌≡◌, sym, ◌∙◌, ap}
use mathlib.Core.Logic.{◌≢◌}
use mathlib.Core.Bool.{true, false}
use mathlib.Core.List.{List}
use native.Mathlib.Nat.{zero-div}
use native.Mathlib.Decide.{dec_lt}
use native.Mathlib.Omega.{arith}
use borrow.Author.Tests.{lt-ltb, le-ltb}
use lib.Count.{count_trailing_zeros}
use lib.ListN.{get_or}
use lib.Pow.{shr-shr, shr_le}
use Rattle.std.proofs.Common.{MatchOption, length, drop, slice_range}
use Rattle.std.proofs.lemmas.List.{length-take, get_or-take, get_or-drop}
use Rattle.std.specs.Bool.{then_some}
use Rattle.meaning.specs.Plain.{◌<?◌}
use Rattle.meaning.specs.Bits.{word_of, bit_of, is_marked, entry_bit}
use Rattle.meaning.proofs.LowLaws.{lowest_set, none_lower, bit_low}
use Rattle.meaning.proofs.SetLaws.{set_bit, clear_bit}
use Rattle.mem_marks.specs.First.{NoMark, First}

marked_bit : (bits : List ℕ) (e : ℕ) → get_or bits (word_of (entry_bit e)) 0 / 2 ^ bit_of (entry_bit e) % 2 ≡ 1 → is_marked bits e ≡ true
unfolding is_marked
marked_bit bits e = set_bit bits (entry_bit e)

clear_mark : (bits : List ℕ) (e : ℕ) → get_or bits (word_of (entry_bit e)) 0 / 2 ^ bit_of (entry_bit e) % 2 ≡ 0 → is_marked bits e ≡ false
unfolding is_marked
clear_mark bits e = clear_bit bits (entry_bit e)

-- word w, shifted by j: its bits are the entries from base on
module _ (bits : List ℕ) (w j base v : ℕ) (at : 64 * w + j ≡ 1024 + base) (low : j < 64) (is : v ≡ get_or bits w 0 / 2 ^ j) where
  entry_bit_lem : (e : ℕ) → base ≤ e → e < base + (64 - j)
      → get_or bits (word_of (entry_bit e)) 0 / 2 ^ bit_of (entry_bit e) % 2 ≡ v / 2 ^ (e - base) % 2
  entry_bit_lem e p q =
      let word : word_of (entry_bit e) ≡ w = omega arith in
      let bit : bit_of (entry_bit e) ≡ j + (e - base) = omega arith in
      ap (λ (i : ℕ). get_or bits i 0 / 2 ^ bit_of (entry_bit e) % 2) word ∙ ap (λ (i : ℕ). get_or bits w 0 / 2 ^ i % 2) bit
      ∙ ap (λ (x : ℕ). x % 2) (sym (shr-shr (get_or bits w 0) j (e - base))) ∙ ap (λ (x : ℕ). x / 2 ^ (e - base) % 2) (sym is)

  -- the word is 0
  pub none_in : v ≡ 0 → NoMark bits base (base + (64 - j))
  none_in z e p q =
      let d : v / 2 ^ (e - base) ≡ 0 = ap (λ (x : ℕ). x / 2 ^ (e - base)) z ∙ zero-div (2 ^ (e - base)) in
      clear_mark bits e (entry_bit_lem e p q ∙ ap (λ (x : ℕ). x % 2) d)

  -- it is not
  module _ (fits : get_or bits w 0 < 2 ^ 64) (some : v ≢ 0) where
    v_low : v < 2 ^ 64
    v_low = omega (arith, is, shr_le (get_or bits w 0) j, fits)

    abbrev t : ℕ
    t = count_trailing_zeros 64 v

    t_set : v / 2 ^ t % 2 ≡ 1
    t_set = lowest_set 64 v some v_low

    t_low : j + t < 64
    t_low =
        bit_low (get_or bits w 0) (j + t) 64 fits
        (ap (λ (x : ℕ). x % 2) (sym (shr-shr (get_or bits w 0) j t)) ∙ ap (λ (x : ℕ). x / 2 ^ t % 2) (sym is) ∙ t_set)

    pub first_marked : is_marked bits (base + t) ≡ true
    first_marked =
        let l = t_low in
        let back : base + t - base ≡ t = omega arith in
        marked_bit bits (base + t) (entry_bit_lem (base + t) (omega arith) (omega (arith, l)) ∙ ap (λ (x : ℕ). v / 2 ^ x % 2) back ∙ t_set)

    pub none_before : NoMark bits base (base + t)
    none_before e p q =
        let l = t_low in
        clear_mark bits e (entry_bit_lem e p (omega (arith, l)) ∙ none_lower 64 v (e - base) (omega arith))

    -- of a stretch that begins at `from`, with no mark before base
    module _ (from to : ℕ) (f : from ≤ base) (g : NoMark bits from base) where
      none : NoMark bits from (base + t)
      none e p q = go (dec_lt e base)
        where
          go : Dec (e < base) → is_marked bits e ≡ false
          go (yes d) = g e p d
          go (no d) = none_before e (omega arith) q

      -- its mark, if it is below `to`
      pub first_is : MatchOption (then_some (base + t <? to) (base + t)) (NoMark bits from to) (First bits from to)
      first_is = go (dec_lt (base + t) to)
        where
          go : Dec (base + t < to) → MatchOption (then_some (base + t <? to) (base + t)) (NoMark bits from to) (First bits from to)
          go (yes l) = rw (lt-ltb (base + t) to l) (record { within = (omega arith, l); own = first_marked; none = none })
          go (no l) = rw (le-ltb (base + t) to (omega arith)) (λ e p q. none e p (omega arith))

-- a stretch that goes on
pub more_none : (bits : List ℕ) (from mid to : ℕ) → NoMark bits from mid → NoMark bits mid to → NoMark bits from to
more_none bits from mid to f g e p q = go (dec_lt e mid)
  where
    go : Dec (e < mid) → is_marked bits e ≡ false
    go (yes d) = f e p d
    go (no d) = g e (omega arith) q

pub less_none : (bits : List ℕ) (from to mid : ℕ) → to ≤ mid → NoMark bits from mid → NoMark bits from to
less_none bits from to mid h f e p q = f e p (omega arith)

-- whole words that are 0
pub words_none : (bits : List ℕ) (i r : ℕ) → 16 ≤ i → ((w : ℕ) → i ≤ w → w < r → get_or bits w 0 ≡ 0) → NoMark bits (64 * i - 1024) (64 * r - 1024)
words_none bits i r h f e p q =
    clear_mark bits e
    (ap (λ (x : ℕ). x / 2 ^ bit_of (entry_bit e) % 2) (f (word_of (entry_bit e)) (omega arith) (omega arith))
    ∙ ap (λ (x : ℕ). x % 2) (zero-div (2 ^ bit_of (entry_bit e))))

-- the first r words of those from a on below b
pub slice_none : (bits : List ℕ) (a b r : ℕ) → r ≤ length (slice_range bits a b) → ((w : ℕ) → w < r → get_or (slice_range bits a b) w 0 ≡ 0)
    → (w : ℕ) → a ≤ w → w < a + r → get_or bits w 0 ≡ 0
slice_none bits a b r l f w p q =
    let low : w - a < b - a = omega (arith, length-take (b - a) (drop a bits), l) in
    let back : a + (w - a) ≡ w = omega arith in
    ap (λ (i : ℕ). get_or bits i 0) (sym back) ∙ sym (get_or-take (b - a) (drop a bits) (w - a) 0 low ∙ get_or-drop a bits (w - a) 0) ∙ f (w - a) (omega arith)
