-- The six slots of a raw policer: verdicts, VCIs and modes, and the octets of each accepted cell and departure, which are
-- the mended ones. By computation.
use Prim.Native.Nat.{ℕ}
use mathlib.Core.Path.{◌≡◌, refl}
use mathlib.Core.List.{List, [], ◌∷◌, map}
use Rattle.meaning_runs.specs.Run.{Event, opened, closed, ran}
use Rattle.meaning_runs.specs.Seen.{Cell, Departure, cells_in, departures_in}
use Rattle.meaning_runs.specs.RawSix.{raw_cell, raw_cells, raw_fresh, modes_after, raw_events}
use Rattle.meaning_runs.specs.Computed.{by_computation}

-- verdict, VCI, D and departing VCI of each slot, the newest first
abbrev answered : List Event → List (List ℕ)
answered [] = []
answered (opened who vci m F C x number ∷ h) = answered h
answered (closed who vci number ∷ h) = answered h
answered (ran cell a out ∷ h) = (a.verdict ∷ a.vci ∷ a.d ∷ a.departing ∷ []) ∷ answered h

raw_answers : answered raw_events
    ≡ (1 ∷ 40 ∷ 0 ∷ 40 ∷ [])
    ∷ (1 ∷ 40 ∷ 0 ∷ 40 ∷ [])
    ∷ (0 ∷ 0 ∷ 0 ∷ 0 ∷ [])
    ∷ (4 ∷ 0 ∷ 0 ∷ 0 ∷ [])
    ∷ (1 ∷ 40 ∷ 0 ∷ 40 ∷ [])
    ∷ (1 ∷ 40 ∷ 0 ∷ 40 ∷ [])
    ∷ []
unfolding by_computation
raw_answers = refl

raw_modes : modes_after raw_fresh raw_cells ≡ 0 ∷ 1 ∷ 1 ∷ 1 ∷ 0 ∷ 1 ∷ []
unfolding by_computation
raw_modes = refl

abbrev arrival : Cell → ℕ
arrival c = c.arrival

-- accepted in slots 0, 1, 4 and 5; the mended octets are noted, and leave
raw_arrivals : map arrival (cells_in raw_events) ≡ 0 ∷ 1 ∷ 4 ∷ 5 ∷ []
unfolding by_computation
raw_arrivals = refl

abbrev mended : List (List ℕ)
mended = raw_cell 128 246 ∷ raw_cell 128 246 ∷ raw_cell 128 246 ∷ raw_cell 128 246 ∷ []

abbrev noted_octets : Cell → List ℕ
noted_octets c = c.octets

raw_noted : map noted_octets (cells_in raw_events) ≡ mended
unfolding by_computation
raw_noted = refl

abbrev shown_octets : Departure → List ℕ
shown_octets d = d.octets

raw_shown : map shown_octets (departures_in raw_events) ≡ mended
unfolding by_computation
raw_shown = refl
