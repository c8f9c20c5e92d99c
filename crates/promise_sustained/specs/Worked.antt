-- A run in which as many cells pass untagged as may, and others are tagged: N 2, V 2, VC 1 with m 0, F 1, C 1 and a second bucket
-- with m 0, F 4, C 8 and the flag set; a CLP 0 cell of it in each of the slots 0 to 4. Those of the slots 0, 1 and 4 pass.
use Rattle.std.specs.Prelude.{List, ◌∷◌, replicate}
use Rattle.meaning.specs.Header.{by_vci}
use Rattle.meaning.specs.Calls.{plain}
use Rattle.meaning.specs.Words.{Second, second_of}
use Rattle.meaning_runs.specs.Run.{Call, on_open_with, on_slot, Event, calls, fresh_run}
use Rattle.meaning_runs.specs.Eight.{cell_for}

abbrev pub four : Second
four = second_of 0 4 8 1

abbrev pub five_cells : List Call
five_cells = on_open_with 1 (by_vci 1) 0 1 1 four ∷ replicate 5 (on_slot (cell_for 1))

abbrev pub five_events : List Event
five_events = (calls (fresh_run 2 2 plain) five_cells).events
