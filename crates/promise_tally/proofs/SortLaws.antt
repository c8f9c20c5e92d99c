-- Sorted before they are cut at 63, or after: two lists with the same numbers have as many of every kind, so cut they have the same numbers
-- too, and a sorted list stays sorted.
use Prim.Native.Nat.{ℕ, zero, suc, ◌+◌, ◌≤◌}
use mathlib.Core.Path.{◌≡◌, refl, sym, ap, ◌∙◌}
use mathlib.Core.Bool.{Bool}
use mathlib.Core.List.{List, [], ◌∷◌}
use native.Mathlib.Decide.{ℕ_discrete}
use native.Mathlib.Omega.{arith}
use borrow.Author.Tests.{eq-eqb, ne_eqb}
use lib.ListN.{length, get_or}
use Rattle.meaning.specs.Plain.{when◌then◌else◌, ◌=?◌}
use Rattle.call_tally.specs.Tally.{bin_of}
use Rattle.call_tally.specs.Delays.{cut, how_many, is_it, Ascending, SameNumbers}
use Rattle.call_tally.proofs.Counting.{one_if, cut_same}

-- the list without its first x
remove : ℕ → List ℕ → List ℕ
remove x [] = []
remove x (y ∷ l) = when y =? x then l else (y ∷ remove x l)

removed : (p : ℕ → Bool) (x : ℕ) (l : List ℕ) → 1 ≤ how_many (is_it x) l → how_many p l ≡ one_if (p x) + how_many p (remove x l)
unfolding how_many remove
removed p x [] h = absurd (omega (arith, h))
removed p x (y ∷ l) h = go (ℕ_discrete y x) (removed p x l)
  where
    go : Dec (y ≡ x) → (1 ≤ how_many (is_it x) l → how_many p l ≡ one_if (p x) + how_many p (remove x l))
        → one_if (p y) + how_many p l ≡ one_if (p x) + how_many p (when y =? x then l else (y ∷ remove x l))
    go (yes e) r = rw (eq-eqb y x e) (ap (λ (n : ℕ). one_if (p n) + how_many p l) e)
    go (no n) r = rw (ne_eqb y x n) (omega (arith, r (omega (arith, h, ap one_if (ne_eqb y x n)))))

same_count : (l k : List ℕ) → SameNumbers l k → (p : ℕ → Bool) → how_many p l ≡ how_many p k
unfolding how_many
same_count [] [] s p = refl
same_count [] (y ∷ k) s p = absurd (omega (arith, s y, ap one_if (eq-eqb y y refl)))
same_count (x ∷ l) k s p =
    omega (arith, removed p x k there, same_count l (remove x k) (λ y. omega (arith, s y, removed (is_it y) x k there)) p)
  where
    there : 1 ≤ how_many (is_it x) k
    there = omega (arith, s x, ap one_if (eq-eqb x x refl))

pub cut_numbers : (l k : List ℕ) → SameNumbers l k → SameNumbers (cut l) (cut k)
cut_numbers l k s x =
    cut_same (is_it x) (λ d. bin_of d =? x) (λ d. refl) l
    ∙ same_count l k s (λ d. bin_of d =? x)
    ∙ sym (cut_same (is_it x) (λ d. bin_of d =? x) (λ d. refl) k)

pub cut_at : (l : List ℕ) (i : ℕ) → get_or (cut l) i 0 ≡ bin_of (get_or l i 0)
unfolding cut
cut_at [] i = refl
cut_at (d ∷ l) zero = refl
cut_at (d ∷ l) (suc i) = cut_at l i

cut_length : (l : List ℕ) → length (cut l) ≡ length l
unfolding cut
cut_length [] = refl
cut_length (d ∷ l) = ap suc (cut_length l)

pub cut_ascending : (l : List ℕ) → Ascending l → Ascending (cut l)
cut_ascending l up i j h low = omega (arith, cut_at l i, cut_at l j, up i j h (omega (arith, low, cut_length l)))
