-- Where a text was put into a list, octet by octet: before it and behind it stands what stood there, in it the text.
-- By induction on the text.
use Prim.Native.Nat.{ℕ, zero, suc, ◌+◌, ◌≤◌, ◌<◌}
use mathlib.Core.Path.{◌≡◌, refl, ap, ◌∙◌}
use mathlib.Core.List.{List, [], ◌∷◌}
use lib.ListN.{length, get_or, set, length-set}
use lib.Seq.{get_or-set_same, get_or-set_other}
use native.Mathlib.Omega.{arith}
use Rattle.list_lines.specs.Put.{puts}

pub puts_length : (l : List ℕ) (i : ℕ) (xs : List ℕ) → length (puts l i xs) ≡ length l
puts_length l i [] = refl
puts_length l i (x ∷ xs) = puts_length (set l i x) (i + 1) xs ∙ length-set l i x

pub puts_before : (l : List ℕ) (i : ℕ) (xs : List ℕ) (k : ℕ) → k < i → get_or (puts l i xs) k 0 ≡ get_or l k 0
puts_before l i [] k h = refl
puts_before l i (x ∷ xs) k h = puts_before (set l i x) (i + 1) xs k (omega arith) ∙ get_or-set_other l i k x 0 (λ e. omega arith)

pub puts_behind : (l : List ℕ) (i : ℕ) (xs : List ℕ) (k : ℕ) → i + length xs ≤ k → get_or (puts l i xs) k 0 ≡ get_or l k 0
puts_behind l i [] k h = refl
puts_behind l i (x ∷ xs) k h = puts_behind (set l i x) (i + 1) xs k (omega arith) ∙ get_or-set_other l i k x 0 (λ e. omega arith)

-- octet k of the text stands at place j, k octets behind where it was put
pub puts_in : (l : List ℕ) (i : ℕ) (xs : List ℕ) (k j : ℕ) → j ≡ i + k → i + length xs ≤ length l → k < length xs
    → get_or (puts l i xs) j 0 ≡ get_or xs k 0
puts_in l i [] k j e h m = absurd (omega arith)
puts_in l i (x ∷ xs) zero j e h m =
    ap (λ (n : ℕ). get_or (puts (set l i x) (i + 1) xs) n 0) (omega arith)
    ∙ puts_before (set l i x) (i + 1) xs i (omega arith)
    ∙ get_or-set_same l i x 0 (omega arith)
puts_in l i (x ∷ xs) (suc k) j e h m =
    puts_in (set l i x) (i + 1) xs k j (omega arith) (omega (arith, length-set l i x)) (omega arith)
