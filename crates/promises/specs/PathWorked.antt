-- Paths in a worked run, at the NNI: N 5, V 64. Path 3 is opened with m 0, F 2, C 6, so its number is 67. Cells of VPI 3 with VCI 0,
-- 7 and 40 come in slots 0 to 2; then one with VPI 300, which names nothing; one of path 4, which is closed; VC 67, which is
-- outside V; and an empty slot. Path 256 and VC 67 can't be opened, and path 3 is closed at the end.
use Rattle.std.specs.Prelude.{ℕ, ◌+◌, ◌*◌, ◌/◌, ◌%◌, false, List, [], ◌∷◌, ◌++◌, replicate}
use Rattle.meaning.specs.declared.Answer.{Answer}
use Rattle.meaning.specs.Numbers.{empty, nothing, accepted, unknown}
use Rattle.meaning.specs.Header.{by_vci, by_vpi}
use Rattle.meaning.specs.Words.{without_second}
use Rattle.meaning.specs.Calls.{NNI, options_of}
use Rattle.meaning.specs.Work.{answer_of}
use Rattle.meaning_runs.specs.Run.{Call, on_open_with, on_close, on_slot, Event, opened, closed, ran, calls, fresh_run}

-- a cell at the NNI, "no GFC, a VPI of twelve bits", its 48 octets of payload all 7
abbrev pub nni_cell : ℕ → ℕ → List ℕ
nni_cell vpi vci = vpi / 16 ∷ (vpi % 16 * 16 + vci / 4096) ∷ vci / 16 % 256 ∷ vci % 16 * 16 ∷ 0 ∷ replicate 48 7

abbrev pub path_calls : List Call
path_calls =
    on_open_with 1 (by_vpi 3) 0 2 6 without_second
    ∷ on_slot (nni_cell 3 0)
    ∷ on_slot (nni_cell 3 7)
    ∷ on_slot (nni_cell 3 40)
    ∷ on_slot (nni_cell 300 40)
    ∷ on_slot (nni_cell 4 9)
    ∷ on_slot (nni_cell 0 67)
    ∷ on_open_with 1 (by_vpi 256) 0 2 6 without_second
    ∷ on_open_with 1 (by_vci 67) 0 2 6 without_second
    ∷ on_close 1 (by_vpi 3)
    ∷ on_slot []
    ∷ on_close 1 (by_vpi 3)
    ∷ []

abbrev pub path_events : List Event
path_events = (calls (fresh_run 5 64 (options_of false NNI)) path_calls).events

-- the answers of the slots, first slot first
abbrev pub answers_in : List Event → List Answer
answers_in [] = []
answers_in (opened who c m F C x number ∷ h) = answers_in h
answers_in (closed who c number ∷ h) = answers_in h
answers_in (ran cell a out ∷ h) = answers_in h ++ (a ∷ [])

-- the numbers of opens and closes, with the number of the connection, the first first
abbrev pub refusals_in : List Event → List (ℕ × ℕ)
refusals_in [] = []
refusals_in (opened who c m F C x number ∷ h) = refusals_in h ++ ((c, number) ∷ [])
refusals_in (closed who c number ∷ h) = refusals_in h ++ ((c, number) ∷ [])
refusals_in (ran cell a out ∷ h) = refusals_in h

-- verdict, VCI and D of the cell that came; the space and the VCI that departs
abbrev pub path_answers : List Answer
path_answers =
    answer_of 0 accepted 67 0 0 67
    ∷ answer_of 0 accepted 67 1 empty 0
    ∷ answer_of 0 accepted 67 2 0 67
    ∷ answer_of 0 unknown 40 0 empty 0
    ∷ answer_of 0 unknown 9 0 1 67
    ∷ answer_of 0 unknown 67 0 empty 0
    ∷ answer_of 0 nothing 0 0 empty 0
    ∷ []

-- path 3 opens; path 256 and VC 67 are no connections: 4; path 3 is closed once its debt is paid, and 8 before
abbrev pub path_numbers : List (ℕ × ℕ)
path_numbers = (67, 0) ∷ (320, 4) ∷ (67, 4) ∷ (67, 8) ∷ (67, 0) ∷ []
