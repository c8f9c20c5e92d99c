-- A free space counted as 1: a space that is taken is free no more, one that is given back is free again, and no other changes; the
-- mark of an entry changes none. So the free spaces are counted as the spaces of lists are.
use Prim.Native.Nat.{ℕ, ◌+◌, ◌<◌}
use mathlib.Core.Path.{◌≡◌, refl, ap, ◌∙◌}
use mathlib.Core.Bool.{Bool, true, false}
use mathlib.Core.List.{List}
use native.Mathlib.Decide.{ℕ_discrete}
use native.Mathlib.Omega.{arith}
use lib.ListN.{length}
use Rattle.meaning.specs.Numbers.{most_n, bit_words}
use Rattle.meaning.specs.Bits.{is_free_space, taken, given, marked, unmarked}
use Rattle.meaning.proofs.BitsLaws.{taken_own, taken_other, given_own, given_other}
use Rattle.meaning.proofs.MarksLaws.{marked_free, unmarked_free}
use Rattle.theory_chains.specs.Strung.{is}
use Rattle.theory_chains.proofs.CountLaws.{is_no, is_yes}
use Rattle.theory_memory.specs.Held.{free_at}

module _ (bits : List ℕ) (k : ℕ) where
  pub free_yes : is_free_space bits k ≡ true → free_at bits k ≡ 1
  unfolding free_at
  free_yes e = rw e

  pub free_no : is_free_space bits k ≡ false → free_at bits k ≡ 0
  unfolding free_at
  free_no e = rw e

  pub not_free : free_at bits k ≡ 0 → is_free_space bits k ≡ false
  not_free e = go (is_free_space bits k) refl
    where
      go : (b : Bool) → is_free_space bits k ≡ b → is_free_space bits k ≡ false
      go true f = absurd (omega (arith, free_yes f))
      go false f = f

pub is_free : (bits : List ℕ) (k : ℕ) → 0 < free_at bits k → is_free_space bits k ≡ true
is_free bits k h = go (is_free_space bits k) refl
  where
    go : (b : Bool) → is_free_space bits k ≡ b → is_free_space bits k ≡ true
    go true f = f
    go false f = absurd (omega (arith, free_no bits k f))

same_free : (bits after : List ℕ) (k : ℕ) → is_free_space after k ≡ is_free_space bits k → free_at after k ≡ free_at bits k
unfolding free_at
same_free bits after k e = rw e

module _ (bits : List ℕ) (x k : ℕ) where
  pub taken_at : is_free_space bits x ≡ true → free_at (taken bits x) k + is k x ≡ free_at bits k
  taken_at f = go (ℕ_discrete k x)
    where
      go : Dec (k ≡ x) → free_at (taken bits x) k + is k x ≡ free_at bits k
      go (yes e) =
          let own : is_free_space (taken bits x) k ≡ false = ap (is_free_space (taken bits x)) e ∙ taken_own bits x f in
          let was : is_free_space bits k ≡ true = ap (is_free_space bits) e ∙ f in
          omega (arith, free_no (taken bits x) k own, free_yes bits k was, is_yes k x e)
      go (no e) = omega (arith, same_free bits (taken bits x) k (taken_other bits x f k e), is_no k x e)

  pub given_at : x < most_n → length bits ≡ bit_words → is_free_space bits x ≡ false → free_at (given bits x) k ≡ free_at bits k + is k x
  given_at l n f = go (ℕ_discrete k x)
    where
      go : Dec (k ≡ x) → free_at (given bits x) k ≡ free_at bits k + is k x
      go (yes e) =
          let own : is_free_space (given bits x) k ≡ true = ap (is_free_space (given bits x)) e ∙ given_own bits x l n f in
          let was : is_free_space bits k ≡ false = ap (is_free_space bits) e ∙ f in
          omega (arith, free_yes (given bits x) k own, free_no bits k was, is_yes k x e)
      go (no e) = omega (arith, same_free bits (given bits x) k (given_other bits x l n f k e), is_no k x e)

-- a mark set or cleared
pub marked_at : (bits : List ℕ) (e k : ℕ) → free_at (marked bits e) k ≡ free_at bits k
marked_at bits e k = same_free bits (marked bits e) k (marked_free bits e k)

pub unmarked_at : (bits : List ℕ) (e k : ℕ) → free_at (unmarked bits e) k ≡ free_at bits k
unmarked_at bits e k = same_free bits (unmarked bits e) k (unmarked_free bits e k)
