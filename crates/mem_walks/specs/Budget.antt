-- A budget says how often each number may still be taken: a walk over lists of spaces takes one off for each space that
-- it meets, and one for each cell of a queue. The audit's promise names no budget.
--
--   spent b x       == the budget after one x is taken; what is 0 stays 0
--   spend_all b xs   == after all of xs, one after the other
--   Covers b xs     == at each of these takings there is one left
--   Gone b          == nothing is left
--   sum b           == all that is left: it falls with each taking
use Rattle.std.specs.Prelude.{ℕ, ◌+◌, ◌-◌, ◌<◌, ◌≡◌, List, [], ◌∷◌, get_or, set}

unfoldable pub spent : List ℕ → ℕ → List ℕ
spent b x = set b x (get_or b x 0 - 1)

abbrev pub spend_all : List ℕ → List ℕ → List ℕ
spend_all b [] = b
spend_all b (x ∷ xs) = spend_all (spent b x) xs

abbrev pub Covers : List ℕ → List ℕ → Type 0
Covers b [] = Unit {0}
Covers b (x ∷ xs) = (0 < get_or b x 0) × Covers (spent b x) xs

abbrev pub Gone : List ℕ → Type 0
Gone b = (k : ℕ) → get_or b k 0 ≡ 0

abbrev pub sum : List ℕ → ℕ
sum [] = 0
sum (x ∷ xs) = x + sum xs
