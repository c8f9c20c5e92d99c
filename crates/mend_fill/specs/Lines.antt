-- Document 02 (xii): "lists, on a second output, each skipped stretch by first octet and length": the lines `FIRST LENGTH`.
use Rattle.std.specs.Prelude.{ℕ, List, [], ◌∷◌, ◌++◌}
use Rattle.list_lines.specs.Text.{decimal, line}
use Rattle.mend_step.specs.Salvage.{Piece, keeps, skips}

-- a number of 64 bits has at most twenty digits
unfoldable pub numeral : ℕ → List ℕ
numeral n = decimal 20 n

unfoldable pub stretch_line : ℕ → ℕ → List ℕ
stretch_line first long = line (numeral first ∷ numeral long ∷ [])

abbrev pub lines_of : List Piece → List ℕ
lines_of [] = []
lines_of (keeps p l ∷ xs) = lines_of xs
lines_of (skips p l ∷ xs) = stretch_line p l ++ lines_of xs
