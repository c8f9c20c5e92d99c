-- The laws of a burst that tallies, to be read.
--
--   AsBurst     == unless the tally is refused, the policer, the departures, the answers, the number and `done` are those of a burst
--   StillFits   == the tally's bins add up to its number afterwards, at most 2^32
use Rattle.std.specs.Prelude.{ℕ, ◌≡◌, List, length}
use Rattle.meaning.specs.State.{State}
use Rattle.call_burst.specs.Burst.{burst}
use Rattle.call_tally.specs.declared.Tally.{Tally}
use Rattle.call_tally.specs.Tally.{bins_in, standing}
use Rattle.call_tally.specs.Laws.{AddsUp}
use Rattle.call_tallied.specs.Tallied.{burst_tallied}

abbrev pub AsBurst : Type 0
AsBurst = (t : Tally) (c : ℕ) (s : State) (arrivals sizes departures answers : List ℕ)
    → standing t.bins t.cells s.ctl (length s.arrived) c ≡ 0
    → (burst_tallied t c s arrivals sizes departures answers).stretch ≡ burst s arrivals sizes departures answers

abbrev pub StillFits : Type 0
StillFits = (t : Tally) (c : ℕ) (s : State) (arrivals sizes departures answers : List ℕ)
    → length t.bins ≡ bins_in
    → standing t.bins t.cells s.ctl (length s.arrived) c ≡ 0
    → AddsUp (burst_tallied t c s arrivals sizes departures answers).tally
