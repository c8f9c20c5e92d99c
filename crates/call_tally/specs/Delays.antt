-- Delays tallied one after the other, and what can be counted by hand in a list of them.
--
--   no_cells            == the empty tally
--   tally_all t ds      == the tally t after cells that waited ds
--   cut ds             == the delays, those above 63 as 63: the bin of each
--   how_many p l        == how many numbers of l meet the test p
--   at_most b, below b, is_it b, at_least b  == tests of a number
--   Ascending l        == l is sorted
--   SameNumbers l k    == each number is in l as often as in k
--   rank share n       == share × n / 1,000, rounded up: the how-manieth of n sorted delays the percentile is, counted from 1
use Rattle.std.specs.Prelude.{◌≡◌, ℕ, ◌+◌, ◌*◌, ◌/◌, ◌<◌, ◌≤◌, Bool, List, [], ◌∷◌, length, replicate, slice_index}
use Rattle.meaning.specs.Plain.{when◌then◌else◌, ◌<?◌, ◌≤?◌, ◌=?◌}
use Rattle.call_tally.specs.declared.Tally.{Tally}
use Rattle.call_tally.specs.Tally.{tally_of, bins_in, bin_of, tally_one}

unfoldable pub no_cells : Tally
no_cells = tally_of (replicate bins_in 0) 0

unfoldable pub tally_all : Tally → List ℕ → Tally
tally_all t [] = t
tally_all t (d ∷ ds) = tally_all (tally_one t d) ds

unfoldable pub cut : List ℕ → List ℕ
cut [] = []
cut (d ∷ ds) = bin_of d ∷ cut ds

unfoldable pub how_many : (ℕ → Bool) → List ℕ → ℕ
how_many p [] = 0
how_many p (x ∷ xs) = (when p x then 1 else 0) + how_many p xs

abbrev pub is_it : ℕ → ℕ → Bool
is_it b x = x =? b

abbrev pub below : ℕ → ℕ → Bool
below b x = x <? b

abbrev pub at_most : ℕ → ℕ → Bool
at_most b x = x ≤? b

abbrev pub at_least : ℕ → ℕ → Bool
at_least b x = b ≤? x

abbrev pub Ascending : List ℕ → Type 0
Ascending l = (i j : ℕ) → i ≤ j → j < length l → slice_index l i ≤ slice_index l j

abbrev pub SameNumbers : List ℕ → List ℕ → Type 0
SameNumbers l k = (x : ℕ) → how_many (is_it x) l ≡ how_many (is_it x) k

abbrev pub rank : ℕ → ℕ → ℕ
rank share n = (share * n + 999) / 1000
