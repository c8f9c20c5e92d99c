-- What `clurimoon_line` promises: where the part of the line cell lies, in numbers. Document 01: "First, a cell memory
-- whose length isn't 53 × N .. : an empty part of the idle cell. Otherwise, number below N: that space; 65,535: the
-- whole idle cell." As numbers that is {1, 0, 0}, {0, 53 × number, 53} and {1, 0, 53}.
use Rattle.std.specs.Prelude.{ℕ, ◌≡◌, List, length}
use Rattle.meaning.specs.Line.{line_part}
use Rattle.call_line.specs.declared.Place.{Place}
use Rattle.call_line.specs.Placed.{place_of}

abbrev pub place_promise : List ℕ → List ℕ → ℕ → Place → Type 0
place_promise cells idle number p = p ≡ place_of (line_part (length cells) (length idle) number)
