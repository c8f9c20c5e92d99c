-- The words of bits filled from the front so that spaces 0 to N-1 are free: how far a loop has come, and what it leaves.
use Prim.Native.Nat.{ℕ, ◌≤◌, ◌<◌}
use mathlib.Core.Path.{◌≡◌, sym, ◌∙◌}
use mathlib.Core.List.{List}
use native.Mathlib.Omega.{arith}
use lib.ListN.{length, get_or}
use lib.Seq.{ext_get_or}
use Rattle.meaning.specs.Numbers.{bit_words}
use Rattle.meaning.specs.Bits.{full_word, all_free}
use Rattle.meaning.proofs.BitsLaws.{full_is, all_length}

-- ── the first w words are those of `all_free` ──
pub record Full (N : ℕ) (entry l : List ℕ) (w : ℕ) : Type 0 where
  pub is : (k : ℕ) → k < w → get_or l k 0 ≡ full_word N k
  pub same : length l ≡ length entry
  pub low : w ≤ bit_words

module _ (N : ℕ) (entry : List ℕ) (long : length entry ≡ bit_words) where
  pub full_all : (l : List ℕ) (w : ℕ) → Full N entry l w → bit_words ≤ w → l ≡ all_free N
  full_all l w f h =
      ext_get_or 0 l (all_free N) (f.same ∙ long ∙ sym (all_length N))
      (λ k g.
      let i : k < bit_words = omega (arith, g, f.same, long) in
      f.is k (omega (arith, i, h)) ∙ sym (full_is N k i))
