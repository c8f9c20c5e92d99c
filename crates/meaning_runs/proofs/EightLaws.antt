-- What the definitions of a run say of the eight slots of document 01: due times over the accepted cells alone, and
-- departures. By computation.
use Prim.Native.Nat.{ℕ}
use mathlib.Core.Path.{◌≡◌, refl}
use mathlib.Core.List.{List, [], ◌∷◌, map}
use Rattle.meaning_runs.specs.Seen.{Cell, Departure, cells_in, departures_in}
use Rattle.meaning_runs.specs.Eight.{eight_events}
use Rattle.meaning_runs.specs.Computed.{by_computation}

-- VCI, arrival slot, D, due time in quarters of a slot, due slot
abbrev told : Cell → List ℕ
told c = c.vci ∷ c.arrival ∷ c.D ∷ c.time ∷ c.due ∷ []

-- slot, VCI
abbrev left : Departure → List ℕ
left d = d.slot ∷ d.vci ∷ []

eight_cells : map told (cells_in eight_events)
    ≡ (40 ∷ 0 ∷ 0 ∷ 0 ∷ 0 ∷ [])
    ∷ (40 ∷ 1 ∷ 1 ∷ 10 ∷ 2 ∷ [])
    ∷ (40 ∷ 2 ∷ 3 ∷ 20 ∷ 5 ∷ [])
    ∷ (40 ∷ 4 ∷ 3 ∷ 30 ∷ 7 ∷ [])
    ∷ (41 ∷ 5 ∷ 0 ∷ 20 ∷ 5 ∷ [])
    ∷ []
unfolding by_computation
eight_cells = refl

eight_departures : map left (departures_in eight_events)
    ≡ (0 ∷ 40 ∷ []) ∷ (2 ∷ 40 ∷ []) ∷ (5 ∷ 41 ∷ []) ∷ (6 ∷ 40 ∷ []) ∷ (7 ∷ 40 ∷ []) ∷ []
unfolding by_computation
eight_departures = refl
