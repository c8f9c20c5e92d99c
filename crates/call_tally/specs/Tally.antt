-- Document 02, request (x): the delay summary of one connection, and its percentiles.
--
--   Tally                == 64 bins, and the number of cells beside them
--   Tallied, Bin         == what the two calls give back: a refusal number, and the tally or a bin
--   sum bins             == the bins added up
--   tally_fits bins n     == n is a number that a tally can have, and the sum of its bins; else refusal 3
--   bin_of d              == the bin of a delay of d slots
--   tally_one t d         == the tally t after one more cell, which waited d slots
--   standing             == the refusal that a tally has before any slot, or 0
--   tally_slot            == the call after a slot
--   lowest need s bins   == the lowest bin at which 1,000 times the running sum reaches need, s being the sum before the first
--   percentile_of         == the call that reports a percentile
-- z is V, c the named connection, x the departing space, o the departing VCI.
use Rattle.std.specs.Prelude.{ℕ, suc, ◌+◌, ◌*◌, ◌^◌, min, Bool, not, ◌&&◌, ◌||◌, List, [], ◌∷◌, length, slice_index, slice_set, Result, Ok, Err}
use Rattle.meaning.specs.Plain.{when◌then◌else◌, ◌<?◌, ◌≤?◌, ◌=?◌}
use Rattle.meaning.specs.Numbers.{empty, ranges_hold, connections_in, unused}
use Rattle.meaning.specs.Bucket.{elapsed}
use Rattle.meaning.specs.declared.Record.{Record}
use Rattle.leaf_refusal.specs.declared.Refusal.{Refusal}
use Rattle.leaf_refusal.specs.Refusals.{number_of}
use Rattle.call_tally.specs.declared.Tally.{Tally}
use Rattle.call_tally.specs.declared.Tallied.{Tallied}
use Rattle.call_tally.specs.declared.Bin.{Bin}

abbrev pub tally_of : List ℕ → ℕ → Tally
tally_of bins cells = record { bins = bins; cells = cells }

abbrev pub tallied_of : ℕ → Tally → Tallied
tallied_of number t = record { number = number; tally = t }

abbrev pub report_of : ℕ → ℕ → Bin
report_of number bin = record { number = number; bin = bin }

-- the same as the code has it
abbrev pub report_in : Result ℕ Refusal → Bin
report_in (Ok bin) = report_of 0 bin
report_in (Err why) = report_of (number_of why) 0

-- "64 bins beside the number of cells, where bin 63 holds all from 63 up"
abbrev pub bins_in : ℕ
bins_in = 64

abbrev pub last_bin : ℕ
last_bin = 63

abbrev pub bin_of : ℕ → ℕ
bin_of d = min d last_bin

-- "A tally of 2^32 cells takes no more." Kept shut, since antt would count it out.
unfoldable pub most_cells : ℕ
most_cells = 2 ^ 32

unfoldable pub sum : List ℕ → ℕ
sum [] = 0
sum (b ∷ bs) = b + sum bs

-- "3, a tally whose number is above 2^32 or not the sum of its bins". A sum of ℕ never wraps, so a bin above 2^32 is 3.
unfoldable pub tally_fits : List ℕ → ℕ → Bool
tally_fits bins cells = cells ≤? most_cells && sum bins =? cells

-- 4: a VC 1 to V-1, or a path V+1 to V+255
unfoldable pub is_connection : ℕ → ℕ → Bool
is_connection z c = not (unused z c) && c <? connections_in z

-- 3 too, where the named connection's cell left: its space has an arrival slot
unfoldable pub space_fits : ℕ → ℕ → ℕ → ℕ → Bool
space_fits N c x o = not (o =? c) || x <? N

-- 1, 2, 4 and 3, in this order; 0 where none is given
unfoldable pub tally_refusal : List ℕ → ℕ → Record → ℕ → ℕ → ℕ → ℕ → ℕ
tally_refusal bins cells r arrived c x o =
    when not (ranges_hold r.n r.v) then 1
    else when not (arrived =? r.n) then 2
    else when not (is_connection r.v c) then 4
    else when not (space_fits r.n c x o && tally_fits bins cells) then 3
    else 0

-- the same of a tally as it stands, as in a slot in which nothing leaves
abbrev pub standing : List ℕ → ℕ → Record → ℕ → ℕ → ℕ
standing bins cells r arrived c = tally_refusal bins cells r arrived c empty 0

-- one cell more in a bin
abbrev pub one_more : List ℕ → ℕ → List ℕ
one_more bins k = slice_set bins k (slice_index bins k + 1)

unfoldable pub tally_one : Tally → ℕ → Tally
tally_one t d = when t.cells =? most_cells then t else tally_of (one_more t.bins (bin_of d)) (t.cells + 1)

-- "For a named VC tally the slots between arrival and departure": t less the arrival slot, on the clock that wraps. Another
-- connection's departure, or none, changes nothing; in a refusal the tally is as it came.
unfoldable pub tally_slot : Tally → Record → List ℕ → ℕ → ℕ → ℕ → Tallied
tally_slot t r arrived c x o =
    let number = tally_refusal t.bins t.cells r (length arrived) c x o in
    when not (number =? 0) then tallied_of number t
    else when not (o =? c) then tallied_of 0 t
    else tallied_of 0 (tally_one t (elapsed r.t (slice_index arrived x)))

-- "the lowest bin at which 1,000 times the running sum is at least the asked share times the cells sent"
unfoldable pub lowest : ℕ → ℕ → List ℕ → ℕ
lowest need s [] = 0
lowest need s (b ∷ bs) = when need ≤? 1000 * (s + b) then 0 else suc (lowest need (s + b) bs)

-- "15, share outside 1 to 1,000, or no cell sent"
unfoldable pub share_fits : ℕ → ℕ → Bool
share_fits share cells = 1 ≤? share && share ≤? 1000 && 1 ≤? cells

unfoldable pub percentile_of : Tally → ℕ → Bin
percentile_of t share =
    when not (tally_fits t.bins t.cells) then report_of 3 0
    else when not (share_fits share t.cells) then report_of 15 0
    else report_of 0 (lowest (share * t.cells) 0 t.bins)
