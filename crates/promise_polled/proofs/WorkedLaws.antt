-- The promises on bursts speak of some: one of eight slots stands for document 01's eight calls, and one with a size of 7
-- ends with 9 after the slot before it. By computation.
use mathlib.Core.Path.{◌≡◌, refl}
use mathlib.Core.List.{[], ◌∷◌}
use lib.ListN.{replicate}
use Rattle.meaning_runs.specs.Eight.{cell_for, eight_calls}
use Rattle.call_burst.specs.Burst.{size_fits}
use Rattle.promise_polled.specs.Polled.{lent_to, up_to, all_fit, lent_well, cells_served, ends_with, as_calls, all_calls}
use Rattle.promise_polled.specs.Worked.{eight_polls, odd_arrivals, odd_sizes}

pub eight_polled : all_calls eight_polls ≡ eight_calls
unfolding all_calls as_calls cells_served lent_well lent_to up_to size_fits
eight_polled = refl

pub stops_at_nine : ends_with odd_arrivals odd_sizes (replicate 159 9) (replicate 18 9) ≡ 9
unfolding ends_with lent_well all_fit size_fits
stops_at_nine = refl

pub after_one : cells_served odd_arrivals odd_sizes (replicate 159 9) (replicate 18 9) ≡ cell_for 40 ∷ []
unfolding cells_served lent_well lent_to up_to size_fits
after_one = refl
