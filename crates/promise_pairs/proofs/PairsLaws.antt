-- The pairs, by computation. Assumes nothing.
use mathlib.Core.Path.{refl}
use mathlib.Core.Bool.{Bool, true, false}
use Rattle.meaning.specs.Next.{first_in, next_mark, wait_for}
use Rattle.meaning_runs.specs.Computed.{by_computation}
use Rattle.call_tally.specs.Tally.{most_cells, sum, tally_fits, is_connection, space_fits, tally_refusal, tally_one, tally_slot}
use Rattle.call_tally.specs.Delays.{no_cells}
use Rattle.promise_tally.specs.Summary.{tallied, tallying}
use Rattle.promise_operators.specs.Operators.{asked}
use Rattle.promise_pairs.specs.Pairs.{DeparturesDiffer, SummariesDiffer, SpacesDiffer, ClosesDiffer, NextDiffers, ModeShared}

pub departures_differ : (raw : Bool) → DeparturesDiffer raw
unfolding by_computation asked
departures_differ true = record { asks_same = refl; shared = refl; alone = refl }
departures_differ false = record { asks_same = refl; shared = refl; alone = refl }

pub summaries_differ : (raw : Bool) → SummariesDiffer raw
unfolding by_computation asked most_cells sum tally_fits is_connection space_fits tally_refusal tally_one tally_slot no_cells tallied tallying
summaries_differ true = record { asks_same = refl; shared = refl; alone = refl }
summaries_differ false = record { asks_same = refl; shared = refl; alone = refl }

pub spaces_differ : (raw : Bool) → SpacesDiffer raw
unfolding by_computation asked
spaces_differ true = record { asks_same = refl; shared = refl; alone = refl }
spaces_differ false = record { asks_same = refl; shared = refl; alone = refl }

pub closes_differ : (raw : Bool) → ClosesDiffer raw
unfolding by_computation asked
closes_differ true = record { asks_same = refl; shared = refl; alone = refl; shared_later = refl; shared_then = refl; alone_then = refl }
closes_differ false = record { asks_same = refl; shared = refl; alone = refl; shared_later = refl; shared_then = refl; alone_then = refl }

pub next_differs : (raw : Bool) → NextDiffers raw
unfolding by_computation asked first_in next_mark wait_for
next_differs true = record { asks_same = refl; shared = refl; alone = refl }
next_differs false = record { asks_same = refl; shared = refl; alone = refl }

pub mode_shared : ModeShared
unfolding by_computation
mode_shared = record { shared = refl; alone = refl }
