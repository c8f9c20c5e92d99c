-- The lowest free space of the words from i on: it stands in word i if that is not 0, and otherwise in those after it.
use Prim.Native.Nat.{ℕ, suc, ◌+◌, ◌-◌, ◌*◌, ◌≤◌, ◌<◌}
use mathlib.Core.Path.{◌≡◌, ◌∙◌, ap}
use mathlib.Core.Logic.{◌≢◌}
use mathlib.Core.List.{List}
use native.Mathlib.Omega.{arith}
use borrow.Author.Tests.{eq-eqb, ne_eqb}
use lib.Count.{count_trailing_zeros}
use lib.ListN.{get_or}
use Rattle.meaning.specs.Bits.{lowest_from}

here : (k i : ℕ) (bits : List ℕ) → get_or bits i 0 ≢ 0 → lowest_from (suc k) i bits ≡ 64 * i + count_trailing_zeros 64 (get_or bits i 0)
unfolding lowest_from
here k i bits d = rw (ne_eqb (get_or bits i 0) 0 d)

after : (k i : ℕ) (bits : List ℕ) → get_or bits i 0 ≡ 0 → lowest_from (suc k) i bits ≡ lowest_from k (i + 1) bits
unfolding lowest_from
after k i bits e = rw (eq-eqb (get_or bits i 0) 0 e)

module _ (bits : List ℕ) (i : ℕ) where
  pub from_here_lem : i < 16 → get_or bits i 0 ≢ 0 → lowest_from (16 - i) i bits ≡ 64 * i + count_trailing_zeros 64 (get_or bits i 0)
  from_here_lem p d =
      let e : 16 - i ≡ suc (15 - i) = omega arith in
      ap (λ (k : ℕ). lowest_from k i bits) e ∙ here (15 - i) i bits d

  pub from_next : i < 16 → get_or bits i 0 ≡ 0 → lowest_from (16 - i) i bits ≡ lowest_from (16 - (i + 1)) (i + 1) bits
  from_next p z =
      let e : 16 - i ≡ suc (15 - i) = omega arith in
      let f : 15 - i ≡ 16 - (i + 1) = omega arith in
      ap (λ (k : ℕ). lowest_from k i bits) e ∙ after (15 - i) i bits z ∙ ap (λ (k : ℕ). lowest_from k (i + 1) bits) f

  pub from_none : i ≤ 16 → 16 ≤ i → lowest_from (16 - i) i bits ≡ 1024
  unfolding lowest_from
  from_none p q = let e : i ≡ 16 = omega arith in ap (λ (k : ℕ). lowest_from (16 - k) k bits) e
