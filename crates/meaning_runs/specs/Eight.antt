-- Document 01's eight slots as a run: "GM 5 64; VO 40 with m 2, F 10, C 26; VO 41 with m 2, F 4, C 4; cells of VC 40 in
-- slots 0 to 4; of VC 41 in slot 5; SL 2".
use Rattle.std.specs.Prelude.{ℕ, ◌*◌, ◌/◌, ◌%◌, List, [], ◌∷◌, replicate}
use Rattle.meaning.specs.Calls.{plain}
use Rattle.meaning_runs.specs.Run.{Call, on_open, on_slot, Event, calls, fresh_run}

-- a cell of a VC, its 48 octets of payload all 7
abbrev pub cell_for : ℕ → List ℕ
cell_for vci = 0 ∷ vci / 4096 ∷ vci / 16 % 256 ∷ vci % 16 * 16 ∷ 0 ∷ replicate 48 7

abbrev pub eight_calls : List Call
eight_calls =
    on_open 40 2 10 26
    ∷ on_open 41 2 4 4
    ∷ on_slot (cell_for 40)
    ∷ on_slot (cell_for 40)
    ∷ on_slot (cell_for 40)
    ∷ on_slot (cell_for 40)
    ∷ on_slot (cell_for 40)
    ∷ on_slot (cell_for 41)
    ∷ on_slot []
    ∷ on_slot []
    ∷ []

abbrev pub eight_events : List Event
eight_events = (calls (fresh_run 5 64 plain) eight_calls).events
