-- The run of specs/Worked: two slots and five slots hold as many cells as the bound allows, and the tagged cells leave with CLP 1.
-- So no smaller number holds, and cells are tagged. By computation.
use Prim.Native.Nat.{ℕ}
use mathlib.Core.Path.{◌≡◌, refl}
use mathlib.Core.List.{List, [], ◌∷◌, map}
use lib.ListN.{take}
use Rattle.meaning.specs.Header.{clp_in}
use Rattle.meaning_runs.specs.Run.{Event, opened, closed, ran}
use Rattle.meaning_runs.specs.Seen.{departures_of}
use Rattle.meaning_runs.specs.Computed.{by_computation}
use Rattle.promise_bound.specs.Bound.{OneOpening}
use Rattle.promise_sustained.specs.Sustained.{passes, untagged, in_slots, most}
use Rattle.promise_sustained.specs.Worked.{four, five_events}

abbrev verdicts : List Event → List ℕ
verdicts [] = []
verdicts (opened who vci m F C x number ∷ h) = verdicts h
verdicts (closed who vci number ∷ h) = verdicts h
verdicts (ran cell a out ∷ h) = a.verdict ∷ verdicts h

-- the newest first
pub verdicts_are : verdicts five_events ≡ 1 ∷ 5 ∷ 5 ∷ 1 ∷ 1 ∷ []
unfolding by_computation
verdicts_are = refl

pub opening : OneOpening 1 0 1 1 five_events
unfolding by_computation
opening = record { operator = 1; second = four; before = []; during = take 5 five_events; later = []; is = refl; lasts = tt }

pub met : (in_slots 0 2 (untagged opening) ≡ most four 2) × (in_slots 0 5 (untagged opening) ≡ most four 5)
unfolding by_computation opening passes
met = (refl, refl)

-- in the order in which they left
pub tagged_leave : map (λ d. clp_in d.octets) (departures_of 1 five_events) ≡ 0 ∷ 0 ∷ 1 ∷ 1 ∷ 0 ∷ []
unfolding by_computation
tagged_leave = refl
