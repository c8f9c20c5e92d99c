-- A raw policer in six slots, for document 02 (i): "GR 5 64; VO 40 with m 0, F 1, C 4"; the header of VC 40 clean; with a
-- wrong bit, mended; with the same wrong bit again, dropped; no cell, which keeps the mode; clean, which leads back; with a
-- wrong bit in octet 5, mended.
use Rattle.std.specs.Prelude.{ℕ, true, List, [], ◌∷◌, map, replicate}
use Rattle.meaning.specs.Calls.{UNI, options_of}
use Rattle.meaning_runs.specs.Run.{on_open, on_slot, Event, Run, call, calls, fresh_run}

-- the header of VC 40, where octet 4 and octet 5 are as said; 246 is the octet 5 that belongs to 0, 0, 2, 128
abbrev pub raw_cell : ℕ → ℕ → List ℕ
raw_cell four five = 0 ∷ 0 ∷ 2 ∷ four ∷ five ∷ replicate 48 7

abbrev pub raw_cells : List (List ℕ)
raw_cells = raw_cell 128 246 ∷ raw_cell 129 246 ∷ raw_cell 129 246 ∷ [] ∷ raw_cell 128 246 ∷ raw_cell 128 247 ∷ []

abbrev pub raw_fresh : Run
raw_fresh = call (fresh_run 5 64 (options_of true UNI)) (on_open 40 0 1 4)

-- the mode that each slot leaves, first slot first
abbrev pub modes_after : Run → List (List ℕ) → List ℕ
modes_after r [] = []
modes_after r (cell ∷ cells) = let r' = call r (on_slot cell) in r'.state.ctl.mode ∷ modes_after r' cells

abbrev pub raw_events : List Event
raw_events = (calls raw_fresh (map on_slot raw_cells)).events
