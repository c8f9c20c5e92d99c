-- A worked summary: document 01's eight slots, of VC 40. Its cells are accepted in slots 0, 1, 2 and 4 and leave in slots 0, 2, 6 and 7, so
-- their delays are 0, 1, 4 and 3, and sorted 0, 1, 3, 4. The median is the second, 1; nine of ten wait at most the fourth, 4.
use Rattle.std.specs.Prelude.{◌≡◌, [], ◌∷◌, take}
use Rattle.meaning.specs.Calls.{plain}
use Rattle.meaning_runs.specs.Run.{fresh_run}
use Rattle.meaning_runs.specs.Eight.{eight_calls}
use Rattle.call_tally.specs.Tally.{report_of, percentile_of}
use Rattle.promise_tally.specs.Summary.{listing, delays_in, Summary, summary_of}

abbrev pub eight_summed : Summary
eight_summed = summary_of 40 (fresh_run 5 64 plain).state eight_calls

pub record SummaryWorked : Type 0 where
  pub delays : delays_in 40 (listing (fresh_run 5 64 plain).state eight_calls) ≡ 0 ∷ 1 ∷ 4 ∷ 3 ∷ []
  pub bins : take 6 eight_summed.tally.bins ≡ 1 ∷ 1 ∷ 0 ∷ 1 ∷ 1 ∷ 0 ∷ []
  pub cells : eight_summed.tally.cells ≡ 4
  pub median : percentile_of eight_summed.tally 500 ≡ report_of 0 1
  pub nine_of_ten : percentile_of eight_summed.tally 900 ≡ report_of 0 4
