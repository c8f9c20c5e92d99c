-- With the close that document 01 had, a connection closed and reopened at once sends twice its peak, and the claim across a
-- reopening is false; with the close of request (ii) the same calls keep to the peak. By computation.
use Prim.Native.Nat.{◌≤◌}
use mathlib.Core.Path.{◌≡◌, refl}
use mathlib.Core.List.{[], ◌∷◌}
use mathlib.Core.Option.{some}
use native.Mathlib.Omega.{arith}
use lib.ListN.{length}
use Rattle.meaning_runs.specs.Run.{opened, calls, fresh_run, served}
use Rattle.meaning.specs.Calls.{plain}
use Rattle.meaning.specs.Words.{without_second}
use Rattle.meaning_runs.specs.Leak.{opening_with, new_opening}
use Rattle.meaning_runs.specs.Seen.{departures_of}
use Rattle.meaning_runs.specs.Computed.{by_computation}
use Rattle.promises.specs.Debt.{Across}
use Rattle.promises.specs.Wiped.{close_wiping, call_wiping, calls_wiping, before_close, reopened_at_once, closed_every_five}

-- F/L is 10: 20 slots have room for 2 cells, and 4 leave
pub twice_its_peak : (served (calls_wiping (fresh_run 5 2 plain) closed_every_five).events ≡ 20)
    × (length (departures_of 1 (calls_wiping (fresh_run 5 2 plain) closed_every_five).events) ≡ 4)
unfolding by_computation close_wiping call_wiping calls_wiping
twice_its_peak = (refl, refl)

pub at_its_peak : (served (calls (fresh_run 5 2 plain) closed_every_five).events ≡ 20)
    × (length (departures_of 1 (calls (fresh_run 5 2 plain) closed_every_five).events) ≡ 2)
unfolding by_computation
at_its_peak = (refl, refl)

-- the cell of slot 0 is due at 0, so the next at 10 at the earliest; it would be due in slot 1
claimed : Across (calls_wiping (fresh_run 5 2 plain) reopened_at_once).events → 10 ≤ 1
unfolding by_computation close_wiping call_wiping calls_wiping
claimed a =
    a 1 1 (opening_with 0 10 10 (some 0) without_second (some 0)) (new_opening 0 10 10 without_second) 0 (opened 1 1 0 10 10 without_second 0 ∷ [])
    (calls_wiping (fresh_run 5 2 plain) before_close).events refl refl refl refl

pub claim_was_false : Across (calls_wiping (fresh_run 5 2 plain) reopened_at_once).events → ⊥
claim_was_false a = omega (arith, claimed a)
