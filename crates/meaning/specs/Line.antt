-- Document 01: "What goes out is shown as a part of the cell memory or, where nothing departs, of the idle cell that
-- the caller lends; nothing is copied."
use Rattle.std.specs.Prelude.{ℕ, ◌/◌, ◌%◌, Bool, not, ◌&&◌, ◌||◌, List, length, take, drop}
use Rattle.meaning.specs.Plain.{when◌then◌else◌, ◌<?◌, ◌≤?◌, ◌=?◌}
use Rattle.meaning.specs.Numbers.{most_n, octets, cell_start, empty}

pub data Slice : Type 0 where
  cell_memory idle_cell : Slice

-- a part of a lent slice: which slice, its first octet there, and how many octets
pub record Part : Type 0 where
  pub slice : Slice
  pub start : ℕ
  pub long : ℕ

-- "a cell memory whose length isn't 53 × N for an allowed N"
unfoldable pub cells_allowed : ℕ → Bool
cells_allowed long = long % octets =? 0 && 1 ≤? long / octets && long / octets ≤? most_n

-- "First, a cell memory whose length isn't 53 × N for an allowed N, an idle cell not 53 long, or a number neither
-- below N nor 65,535: an empty part of the idle cell. Otherwise, number below N: that space; 65,535: the whole
-- idle cell."
unfoldable pub line_part : ℕ → ℕ → ℕ → Part
line_part cells_long idle_long number =
    let N = cells_long / octets in
    when not (cells_allowed cells_long && idle_long =? octets && (number <? N || number =? empty))
    then record { slice = idle_cell; start = 0; long = 0 }
    else when number <? N then record { slice = cell_memory; start = cell_start number; long = octets }
    else record { slice = idle_cell; start = 0; long = octets }

abbrev pub slice_of : List ℕ → List ℕ → Slice → List ℕ
slice_of cells idle cell_memory = cells
slice_of cells idle idle_cell = idle

-- the octets of a part
unfoldable pub octets_of : List ℕ → List ℕ → Part → List ℕ
octets_of cells idle p = take p.long (drop p.start (slice_of cells idle p.slice))

-- the cell on the line, where a slot has named its departing space
unfoldable pub line_cell : List ℕ → List ℕ → ℕ → List ℕ
line_cell cells idle number = octets_of cells idle (line_part (length cells) (length idle) number)
