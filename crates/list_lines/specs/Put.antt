-- Where a text stands in a lent buffer: what every function that writes a line promises.
use Rattle.std.specs.Prelude.{ℕ, ◌+◌, ◌≡◌, List, [], ◌∷◌, length, set}

-- l with text from place i on, one octet after the other; every other octet is kept
abbrev pub puts : List ℕ → ℕ → List ℕ → List ℕ
puts l i [] = l
puts l i (x ∷ xs) = puts (set l i x) (i + 1) xs

-- text was put at place i of l: the buffer is l' now, and r is the place behind the text
pub record Put (l : List ℕ) (i : ℕ) (text l' : List ℕ) (r : ℕ) : Type 0 where
  pub list : l' ≡ puts l i text
  pub next : r ≡ i + length text
