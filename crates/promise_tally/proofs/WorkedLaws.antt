-- The worked summary computes to what it names.
use mathlib.Core.Path.{refl}
use Rattle.meaning_runs.specs.Computed.{by_computation}
use Rattle.call_tally.specs.Tally.{most_cells, sum, tally_fits, is_connection, space_fits, tally_refusal, tally_one, tally_slot, lowest, share_fits, percentile_of}
use Rattle.call_tally.specs.Delays.{no_cells}
use Rattle.promise_tally.specs.Summary.{delays_of, tallied, tallying}
use Rattle.promise_tally.specs.Worked.{SummaryWorked}

pub summary_worked : SummaryWorked
unfolding by_computation most_cells sum tally_fits is_connection space_fits tally_refusal tally_one tally_slot lowest share_fits percentile_of no_cells delays_of tallied tallying
summary_worked = record { delays = refl; bins = refl; cells = refl; median = refl; nine_of_ten = refl }
