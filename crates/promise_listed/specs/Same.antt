-- Document 02 (vii): "for every sequence of calls from a fresh state all verdicts, D, departing VCIs and departing octets equal those of
-- the old form; only which space a cell occupies may differ".
--
--   AsBefore       == from a fresh state, whatever is called, refused calls among it: the bits say what the Free List said
--   SpacesDiffer   == and the space does differ. A cell comes and goes, then another: by its bit space 0 is the lowest again, while the
--                     Free List has it behind space 1
use Rattle.std.specs.Prelude.{ℕ, ◌≡◌, List, [], ◌∷◌, replicate}
use Rattle.meaning.specs.Calls.{plain}
use Rattle.meaning_runs.specs.Run.{Call, on_open, on_slot, Event, opened, closed, ran, calls, fresh_run}
use Rattle.meaning_listed.specs.Runs.{calls_listed, SameAsListed}
use Rattle.promise_listed.specs.Heads.{fresh_old}

abbrev pub AsBefore : Type 0
AsBefore = SameAsListed

-- the departing spaces of the slots, the newest first
abbrev pub spaces : List Event → List ℕ
spaces [] = []
spaces (opened who c m F C x number ∷ h) = spaces h
spaces (closed who c number ∷ h) = spaces h
spaces (ran cell a out ∷ h) = a.space ∷ spaces h

-- a cell of VCI 1
abbrev pub cell_of1 : List ℕ
cell_of1 = 0 ∷ 0 ∷ 0 ∷ 16 ∷ replicate 49 0

abbrev pub twice : List Call
twice = on_open 1 2 4 4 ∷ on_slot cell_of1 ∷ on_slot cell_of1 ∷ []

abbrev pub SpacesDiffer : Type 0
SpacesDiffer =
    (spaces (calls (fresh_run 2 2 plain) twice).events ≡ 0 ∷ 0 ∷ [])
    × (spaces (calls_listed (fresh_old 2 2 plain) twice).events ≡ 1 ∷ 0 ∷ [])
