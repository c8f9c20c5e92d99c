-- The laws of the delay summary alone, to be read. They say nothing of the policer.
--
--   D1 StaysFit     == a call that answers 0 gives a tally back whose bins add up to its number, at most 2^32
--   D2 BinsCount    == from the empty tally on each bin is the recount of the delays, and the number is how many there were
--   D3 NoMore       == a tally of 2^32 cells comes back as it was
--   D4 OrderIs      == the percentile by counting: so many delays are at most the bin, and fewer are below it
--   D5 SortedIs     == the percentile by sorting: the delays, cut at 63 and sorted, have it in that place
--   D6 LowestIs     == the percentile in document 02's words, of any tally that isn't refused
use Rattle.std.specs.Prelude.{◌≡◌, ℕ, ◌+◌, ◌-◌, ◌*◌, ◌<◌, ◌≤◌, List, length, take, slice_index, slice_index_or}
use Rattle.meaning.specs.declared.Record.{Record}
use Rattle.call_tally.specs.declared.Tally.{Tally}
use Rattle.call_tally.specs.Tally.{bins_in, last_bin, most_cells, sum, tally_one, tally_slot, percentile_of}
use Rattle.call_tally.specs.Delays.{no_cells, tally_all, cut, how_many, is_it, below, at_most, at_least, Ascending, SameNumbers, rank}

-- "the bins add up to the number of cells sent"
abbrev pub AddsUp : Tally → Type 0
AddsUp t = (sum t.bins ≡ t.cells) × (t.cells ≤ most_cells) × (length t.bins ≡ bins_in)

abbrev pub StaysFit : Type 0
StaysFit = (t : Tally) (r : Record) (arrived : List ℕ) (c x o : ℕ)
    → length t.bins ≡ bins_in → (tally_slot t r arrived c x o).number ≡ 0
    → AddsUp (tally_slot t r arrived c x o).tally

-- t is the tally of the delays ds
pub record Counted (ds : List ℕ) (t : Tally) : Type 0 where
  pub cells_are : t.cells ≡ length ds
  pub bins_are : (b : ℕ) → b < last_bin → slice_index t.bins b ≡ how_many (is_it b) ds
  -- "bin 63 holds all from 63 up"
  pub last_is : slice_index_or t.bins last_bin 0 ≡ how_many (at_least last_bin) ds
  pub adds_up : AddsUp t

abbrev pub BinsCount : Type 0
BinsCount = (ds : List ℕ) → length ds ≤ most_cells → Counted ds (tally_all no_cells ds)

abbrev pub NoMore : Type 0
NoMore = (t : Tally) (d : ℕ) → t.cells ≡ most_cells → tally_one t d ≡ t

-- The percentile over delays. The rank is share × n / 1,000 rounded up: a share of 500 asks for the median, of 1,000 for the longest.
-- b by counting: at least rank of the n delays, cut at 63, are at most b, and fewer are below b
abbrev pub ByCount : List ℕ → ℕ → ℕ → Type 0
ByCount ds share b =
    (rank share (length ds) ≤ how_many (at_most b) (cut ds)) × (how_many (below b) (cut ds) < rank share (length ds))

abbrev pub OrderIs : Type 0
OrderIs = (ds : List ℕ) (share : ℕ) → 1 ≤ length ds → length ds ≤ most_cells → 1 ≤ share → share ≤ 1000
    → ((percentile_of (tally_all no_cells ds) share).number ≡ 0) × ByCount ds share (percentile_of (tally_all no_cells ds) share).bin

-- b by sorting: it stands in place rank of the sorted delays, counted from 1
abbrev pub SortedIs : Type 0
SortedIs = (ds sorted : List ℕ) (share : ℕ) → 1 ≤ length ds → length ds ≤ most_cells → 1 ≤ share → share ≤ 1000
    → Ascending sorted → SameNumbers sorted (cut ds)
    → (percentile_of (tally_all no_cells ds) share).bin ≡ slice_index sorted (rank share (length ds) - 1)

-- "the lowest bin at which 1,000 times the running sum is at least the asked share times the cells sent"
abbrev pub LowestAt : Tally → ℕ → ℕ → Type 0
LowestAt t share b =
    (b < bins_in) × (share * t.cells ≤ 1000 * sum (take (b + 1) t.bins))
    × ((a : ℕ) → a < b → 1000 * sum (take (a + 1) t.bins) < share * t.cells)

abbrev pub LowestIs : Type 0
LowestIs = (t : Tally) (share : ℕ) → length t.bins ≡ bins_in → (percentile_of t share).number ≡ 0
    → LowestAt t share (percentile_of t share).bin
