-- What a slot of a burst hands out. "Since a space that was given back may be taken again within the burst, each slot's
-- departing cell is copied into its own 53 octets of departures."
use Rattle.std.specs.Prelude.{ℕ, ◌+◌, ◌*◌, ◌/◌, ◌<◌, ◌≡◌, ◌≢◌, true, List, length, take, drop, set}
use Rattle.meaning.specs.declared.Answer.{Answer}
use Rattle.meaning.specs.Numbers.{octets, cell_start, empty}
use Rattle.meaning.specs.State.{write_cell}
use Rattle.meaning.specs.Line.{line_cell, cells_allowed}

-- the 53 octets of departures that are slot i's own
unfoldable pub own_octets : List ℕ → ℕ → List ℕ
own_octets departures i = take octets (drop (cell_start i) departures)

-- The line cell of slot i, with the slot's own octets as the idle cell: "where nothing departs these keep their values"
unfoldable pub shown_into : List ℕ → ℕ → List ℕ → ℕ → List ℕ
shown_into departures i cells space = write_cell departures i (line_cell cells (own_octets departures i) space)

-- "answers six numbers a slot", in the answer's order
abbrev pub answer_long : ℕ
answer_long = 6

unfoldable pub write_answer : List ℕ → ℕ → Answer → List ℕ
write_answer answers i a =
    let l1 = set answers (answer_long * i) a.number in
    let l2 = set l1 (answer_long * i + 1) a.verdict in
    let l3 = set l2 (answer_long * i + 2) a.vci in
    let l4 = set l3 (answer_long * i + 3) a.d in
    let l5 = set l4 (answer_long * i + 4) a.space in
    set l5 (answer_long * i + 5) a.departing

-- a cell memory for an allowed N, and a departing space: below N, or 65,535
pub record Shows (cells : List ℕ) (space : ℕ) : Type 0 where
  pub allowed : cells_allowed (length cells) ≡ true
  pub low : space ≢ empty → space < length cells / octets
