-- Document 01, "Trace and listing": the listing of a whole trace, one line a call, over the calls' own definitions.
--
--   recount h        == the end line's four counts, modulo 2^32, counted anew over the answers h of the slots
--   lines_of s h cs   == the listing of the calls cs from state s on, after slots with the answers h (newest first)
--   listing_of input  == the listing of what the program is given
use Rattle.std.specs.Prelude.{ℕ, ◌+◌, ◌-◌, ◌*◌, ◌%◌, Bool, false, not, List, [], ◌∷◌, ◌++◌, replicate}
use Rattle.meaning.specs.declared.Answer.{Answer}
use Rattle.meaning.specs.Plain.{when◌then◌else◌, ◌=?◌}
use Rattle.meaning.specs.Numbers.{octets, per_entry, words_in, bit_words, empty, slot_numbers, excess, unknown, lets_in}
use Rattle.meaning.specs.State.{State, state_of, with_words}
use Rattle.meaning.specs.Header.{number_in}
use Rattle.meaning.specs.Operators.{second_operator}
use Rattle.meaning.specs.Calls.{Options, asked_for, SetUp, zeros, setup, open_call, close_call}
use Rattle.meaning.specs.Slot.{slot}
use Rattle.list_lines.specs.Lines.{setup_line, open_line, close_line, slot_line, stop_line, end_line}
use Rattle.list_meaning.specs.declared.Tally.{Tally}
use Rattle.list_meaning.specs.Trace.{Call, set_up, open_connection, close_connection, serve, Calls, finished, stopped, call, calls_of}

-- how many of the answers pass a test
unfoldable pub many_of : (Answer → Bool) → List Answer → ℕ
many_of test [] = 0
many_of test (a ∷ h) = many_of test h + (when test a then 1 else 0)

-- document 02 (iv): "the end line count[s] tagged cells as accepted"
abbrev pub is_accepted : Answer → Bool
is_accepted a = lets_in a.verdict

abbrev pub is_excess : Answer → Bool
is_excess a = a.verdict =? excess

abbrev pub is_unknown : Answer → Bool
is_unknown a = a.verdict =? unknown

abbrev pub has_sent : Answer → Bool
has_sent a = not (a.space =? empty)

-- "accepted excess unknown sent .., each modulo 2^32"; document 02 (i), of a dropped cell: "no end count includes it"
unfoldable pub recount : List Answer → Tally
recount h =
    record {
      accepted = many_of is_accepted h % slot_numbers;
      excess = many_of is_excess h % slot_numbers;
      unknown = many_of is_unknown h % slot_numbers;
      sent = many_of has_sent h % slot_numbers;
    }

-- a less b, modulo 2^32, of numbers modulo 2^32
unfoldable pub less_modulo : ℕ → ℕ → ℕ
less_modulo a b = (a + slot_numbers - b) % slot_numbers

-- "`end accepted excess unknown sent waiting`": waiting is accepted less sent
unfoldable pub end_of : Tally → List ℕ
end_of t = end_line t.accepted t.excess t.unknown t.sent (less_modulo t.accepted t.sent)

abbrev pub setup_on : State → ℕ → ℕ → Options → SetUp
setup_on s N z o = setup N z (asked_for o) s

-- the line of a call in state s; whether a policer is raw, and its line kind, don't show. Document 02 (vi): "listed with V + VPI"
unfoldable pub line_of : State → Call → List ℕ
line_of s (set_up N z o) = setup_line N z (setup_on s N z o).number
line_of s (open_connection name m F C x) =
    open_line (number_in s.ctl.v name) (open_call s.ctl s.words second_operator name m F C x).number
line_of s (close_connection name) = close_line (number_in s.ctl.v name) (close_call s.ctl s.words second_operator name).number
line_of s (serve cell) = slot_line (slot s cell).state.ctl.t (slot s cell).answer

unfoldable pub state_after : State → Call → State
state_after s (set_up N z o) = (setup_on s N z o).state
state_after s (open_connection name m F C x) = with_words s (open_call s.ctl s.words second_operator name m F C x).words
state_after s (close_connection name) = with_words s (close_call s.ctl s.words second_operator name).words
state_after s (serve cell) = (slot s cell).state

-- the answers of the slots since setup, newest first
unfoldable pub answers_after : State → List Answer → Call → List Answer
answers_after s h (set_up N z o) = []
answers_after s h (open_connection name m F C x) = h
answers_after s h (close_connection name) = h
answers_after s h (serve cell) = (slot s cell).answer ∷ h

-- "After a refused setup .. only the end line follows"; "a refused open or close does not" end the run
unfoldable pub ends_run : State → Call → Bool
ends_run s (set_up N z o) = not ((setup_on s N z o).number =? 0)
ends_run s (open_connection name m F C x) = false
ends_run s (close_connection name) = false
ends_run s (serve cell) = false

unfoldable pub lines_of : State → List Answer → Calls → List ℕ
lines_of s h finished = end_of (recount h)
lines_of s h (stopped place) = stop_line place ++ end_of (recount h)
lines_of s h (call c rest) =
    line_of s c ++ (when ends_run s c then end_of (recount []) else lines_of (state_after s c) (answers_after s h c) rest)

-- memory as document 01 sizes it for the setup that comes first, with the 32 words of bits and the N arrival slots of document 02
unfoldable pub lent_for : Calls → State
lent_for (call (set_up N z o) rest) =
    state_of zeros
    (replicate (octets * N) 0)
    (replicate N 0)
    (replicate (per_entry * N) 0)
    (replicate (words_in z) 0)
    (replicate bit_words 0)
    (replicate N 0)
lent_for (call (open_connection name m F C x) rest) = state_of zeros [] [] [] [] [] []
lent_for (call (close_connection name) rest) = state_of zeros [] [] [] [] [] []
lent_for (call (serve cell) rest) = state_of zeros [] [] [] [] [] []
lent_for finished = state_of zeros [] [] [] [] [] []
lent_for (stopped place) = state_of zeros [] [] [] [] [] []

unfoldable pub listing_of : List ℕ → List ℕ
listing_of input = lines_of (lent_for (calls_of input)) [] (calls_of input)
