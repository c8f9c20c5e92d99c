-- Document 01, "Both sides of each edge": every starred case, as one table. Each row gives N and V, then the calls with
-- the number of every open and close, and all six numbers of every answer: number, verdict, VCI, D, departing space,
-- departing VCI. Spaces follow from document 02 (vii): "take the lowest free space".
use Rattle.std.specs.Prelude.{◌^◌, List, [], ◌∷◌}
use Rattle.meaning.specs.Numbers.{empty}
use Rattle.meaning.specs.Work.{answer_of}
use Rattle.promise_starred.specs.Row.{opens, closes, cell, absent_cell, pause, arrives, Row, run, leak}

-- "*The eight slots above."
unfoldable pub eight_slots : Row
eight_slots =
    run 5 64
    (opens 40 2 10 26 0
    ∷ opens 41 2 4 4 0
    ∷ cell 40 (answer_of 0 1 40 0 0 40)
    ∷ cell 40 (answer_of 0 1 40 1 empty 0)
    ∷ cell 40 (answer_of 0 1 40 3 0 40)
    ∷ cell 40 (answer_of 0 2 40 0 empty 0)
    ∷ cell 40 (answer_of 0 1 40 3 empty 0)
    ∷ cell 41 (answer_of 0 1 41 0 2 41)
    ∷ absent_cell (answer_of 0 0 0 0 1 40)
    ∷ absent_cell (answer_of 0 0 0 0 0 40)
    ∷ [])

-- "*N 1, F = C = L = 1, cells in slots 0 to 3: all accepted, D 0, each leaves at once."
unfoldable pub one_space : Row
one_space =
    run 1 2
    (opens 1 0 1 1 0
    ∷ cell 1 (answer_of 0 1 1 0 0 1)
    ∷ cell 1 (answer_of 0 1 1 0 0 1)
    ∷ cell 1 (answer_of 0 1 1 0 0 1)
    ∷ cell 1 (answer_of 0 1 1 0 0 1)
    ∷ [])

-- "*m 2, F 10, N 5: C 29 opens, *C 30 is 6; with C equal to F, *F 4 opens, *F 3 is 6"
unfoldable pub openings : Row
openings =
    run 5 5
    (opens 1 2 10 29 0
    ∷ opens 2 2 10 30 6
    ∷ opens 3 2 4 4 0
    ∷ opens 4 2 3 3 6
    ∷ [])

-- "*m 2, F 10, cells in slots 0 and 1: C 16 accepts the second with D 1"
unfoldable pub second16 : Row
second16 =
    run 5 2
    (opens 1 2 10 16 0
    ∷ cell 1 (answer_of 0 1 1 0 0 1)
    ∷ cell 1 (answer_of 0 1 1 1 empty 0)
    ∷ absent_cell (answer_of 0 0 0 0 0 1)
    ∷ [])

-- "*C 15 finds it excess."
unfoldable pub second15 : Row
second15 =
    run 5 2
    (opens 1 2 10 15 0
    ∷ cell 1 (answer_of 0 1 1 0 0 1)
    ∷ cell 1 (answer_of 0 2 1 0 empty 0)
    ∷ pause 5
    ∷ [])

-- "*m 0, F 2, C 3, N 2: cells in slots 0 and 2^32 are both accepted with D 0 (proved of the exact leak rule; not run)."
unfoldable pub far_apart : Row
far_apart =
    leak 2 0 2 3
    (arrives 0 1 0
    ∷ arrives (2 ^ 32) 1 0
    ∷ [])

-- "*003 Table I: m 0, F 125, C 125, cells every 120 slots from 0: ten verdicts, yes and no in turn."
unfoldable pub table_i : Row
table_i =
    run 1 2
    (opens 1 0 125 125 0
    ∷ cell 1 (answer_of 0 1 1 0 0 1) ∷ pause 119 ∷ cell 1 (answer_of 0 2 1 0 empty 0) ∷ pause 119
    ∷ cell 1 (answer_of 0 1 1 0 0 1) ∷ pause 119 ∷ cell 1 (answer_of 0 2 1 0 empty 0) ∷ pause 119
    ∷ cell 1 (answer_of 0 1 1 0 0 1) ∷ pause 119 ∷ cell 1 (answer_of 0 2 1 0 empty 0) ∷ pause 119
    ∷ cell 1 (answer_of 0 1 1 0 0 1) ∷ pause 119 ∷ cell 1 (answer_of 0 2 1 0 empty 0) ∷ pause 119
    ∷ cell 1 (answer_of 0 1 1 0 0 1) ∷ pause 119 ∷ cell 1 (answer_of 0 2 1 0 empty 0) ∷ [])

-- "*Table II: C 136, N 12: numbers 4 and 8 excess, D of the others 0, 5, 10, 0, 5, 10, 0, 5."
unfoldable pub table_ii : Row
table_ii =
    run 12 2
    (opens 1 0 125 136 0
    ∷ cell 1 (answer_of 0 1 1 0 0 1)
    ∷ pause 119
    ∷ cell 1 (answer_of 0 1 1 5 empty 0)
    ∷ pause 4
    ∷ absent_cell (answer_of 0 0 0 0 0 1)
    ∷ pause 114
    ∷ cell 1 (answer_of 0 1 1 10 empty 0)
    ∷ pause 9
    ∷ absent_cell (answer_of 0 0 0 0 0 1)
    ∷ pause 109
    ∷ cell 1 (answer_of 0 2 1 0 empty 0)
    ∷ pause 119
    ∷ cell 1 (answer_of 0 1 1 0 0 1)
    ∷ pause 119
    ∷ cell 1 (answer_of 0 1 1 5 empty 0)
    ∷ pause 4
    ∷ absent_cell (answer_of 0 0 0 0 0 1)
    ∷ pause 114
    ∷ cell 1 (answer_of 0 1 1 10 empty 0)
    ∷ pause 9
    ∷ absent_cell (answer_of 0 0 0 0 0 1)
    ∷ pause 109
    ∷ cell 1 (answer_of 0 2 1 0 empty 0)
    ∷ pause 119
    ∷ cell 1 (answer_of 0 1 1 0 0 1) ∷ pause 119 ∷ cell 1 (answer_of 0 1 1 5 empty 0)
    ∷ pause 4
    ∷ absent_cell (answer_of 0 0 0 0 0 1)
    ∷ [])

-- "*Close with a cell waiting is 8, after its departure 0", moved by document 02 (ii) "to the slot where both are": the
-- second cell leaves in slot 2, the debt of 16 parts is paid in slot 5.
unfoldable pub close_waiting : Row
close_waiting =
    run 5 2
    (opens 1 2 10 16 0
    ∷ cell 1 (answer_of 0 1 1 0 0 1)
    ∷ cell 1 (answer_of 0 1 1 1 empty 0) ∷ closes 1 8
    ∷ absent_cell (answer_of 0 0 0 0 0 1) ∷ closes 1 8
    ∷ pause 1 ∷ closes 1 8 ∷ pause 1 ∷ closes 1 8 ∷ pause 1 ∷ closes 1 0
    ∷ [])

unfoldable pub starred_table : List Row
starred_table =
    eight_slots ∷ one_space ∷ openings ∷ second16 ∷ second15 ∷ far_apart ∷ table_i ∷ table_ii ∷ close_waiting ∷ []
