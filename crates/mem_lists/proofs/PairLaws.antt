-- A head and a tail, tested by the head first: below N, 65,535, or neither.
use Prim.Native.Nat.{ℕ, ◌≤◌, ◌<◌}
use mathlib.Core.Path.{◌≡◌, refl, sym, ◌∙◌}
use mathlib.Core.Logic.{◌≢◌}
use mathlib.Core.Bool.{Bool, true, false, ◌||◌}
use native.Mathlib.Omega.{arith}
use borrow.Author.Tests.{lt-ltb, le-ltb, eq-eqb, ne_eqb}
use Rattle.meaning.specs.Plain.{◌<?◌, ◌=?◌}
use Rattle.meaning.specs.Numbers.{empty}
use Rattle.meaning.specs.Lists.{ends_fit}
use Rattle.meaning.proofs.ListsLaws.{fit_marked}
use Rattle.mem_lists.specs.Spaces.{ends_of}

or_false : (b : Bool) → b ≡ (b || false)
or_false true = refl
or_false false = refl

pub pair_below : (N head tail : ℕ) → N ≤ 1024 → head < N → (tail <? N) ≡ ends_fit N (ends_of head tail)
unfolding ends_fit
pair_below N head tail few h = simp (lt-ltb head N h, ne_eqb head empty (λ e. omega arith)) (or_false (tail <? N))

pub pair_empty : (N head tail : ℕ) → N ≤ head → head ≡ empty → (tail =? empty) ≡ ends_fit N (ends_of head tail)
unfolding ends_fit
pair_empty N head tail h e = simp (le-ltb head N h, eq-eqb head empty e)

pub pair_neither : (N head tail : ℕ) → N ≤ head → head ≢ empty → false ≡ ends_fit N (ends_of head tail)
unfolding ends_fit
pair_neither N head tail h ne = simp (le-ltb head N h, ne_eqb head empty ne)

-- ---- one number after the other, the head against 65,535 first
module _ (N head tail : ℕ) where
  pub head_high : head ≢ 65535 → N ≤ head → ends_fit N (ends_of head tail) ≡ false
  head_high some h = sym (pair_neither N head tail h some)

  pub tail_high : N ≤ 1024 → head < N → N ≤ tail → ends_fit N (ends_of head tail) ≡ false
  tail_high few low h = sym (pair_below N head tail few low) ∙ le-ltb tail N h

  pub both_low : head < N → tail < N → ends_fit N (ends_of head tail) ≡ true
  both_low p q = fit_marked N head tail p q

  pub tail_left : N ≤ 1024 → head ≡ 65535 → tail ≢ 65535 → ends_fit N (ends_of head tail) ≡ false
  tail_left few e ne = sym (pair_empty N head tail (omega arith) e) ∙ ne_eqb tail 65535 ne

  pub both_empty : N ≤ 1024 → head ≡ 65535 → tail ≡ 65535 → ends_fit N (ends_of head tail) ≡ true
  both_empty few e q = sym (pair_empty N head tail (omega arith) e) ∙ eq-eqb tail 65535 q
