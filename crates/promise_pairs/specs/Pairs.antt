-- What may differ for A, and why A's closes must be answered alike: pairs of runs, raw or not. The split VCI is 2: B, the first
-- operator, has VC 1, and A, the second, VC 2. B sends cells in the one run and none in the other; A asks the same in both, up to
-- A's first close.
--
--   card_of N         == N spaces, V 3, UNI, split VCI 2, split path number 1
--   shared_at_two      == N 2: A's cells in slots 0 and 1, B's in slot 2; alone_at_two the same without B
--   shared_space      == N 2: B's cells in slots 0 and 1, A's in slot 2; alone_space the same without B's
--   shared_at_four     == N 4: A's cells in slots 0 to 15, B's in 16 to 18, and on to slot 20; alone_at_four the same without B's
--   reopens cs       == the calls cs, and then A closes and opens again
--   broken_for vci    == a cell of a VC with a wrong bit in its header
use Rattle.std.specs.Prelude.{ℕ, ◌≡◌, Bool, true, List, [], ◌∷◌, ◌++◌, map, length, replicate, take}
use Rattle.base_hec.specs.WrongBit.{flipped}
use Rattle.meaning.specs.Plain.{when◌then◌else◌, ◌=?◌}
use Rattle.meaning.specs.Header.{by_vci}
use Rattle.meaning.specs.Operators.{first_operator, second_operator}
use Rattle.meaning.specs.Words.{without_second}
use Rattle.meaning.specs.declared.Wait.{Wait}
use Rattle.meaning.specs.Next.{wait_of, wait_for}
use Rattle.meaning.specs.Calls.{UNI, options_with}
use Rattle.meaning_runs.specs.Run.{Call, on_open_with, on_close, on_slot, Event, opened, closed, ran, number_of, Run, calls, fresh_run}
use Rattle.meaning_runs.specs.Seen.{cells_of, departure_at}
use Rattle.promise_limits.specs.Reached.{clean_for}
use Rattle.promise_tally.specs.Summary.{summary_of}
use Rattle.promise_operators.specs.Operators.{Card, Ask, asked, closed_with}

abbrev pub card_of : ℕ → Card
card_of N = record { N = N; z = 3; kind = 0; splitvci = 2; splitpath = 1 }

abbrev pub start : ℕ → Bool → Run
start N raw = fresh_run N 3 (options_with raw UNI 2 1)

abbrev pub A : ℕ
A = second_operator

abbrev pub opens_b : ℕ → ℕ → ℕ → Call
opens_b m F C = on_open_with first_operator (by_vci 1) m F C without_second

abbrev pub opens_a : ℕ → ℕ → ℕ → Call
opens_a m F C = on_open_with second_operator (by_vci 2) m F C without_second

abbrev pub cell_of_b : Call
cell_of_b = on_slot (clean_for 1)

abbrev pub cell_of_a : Call
cell_of_a = on_slot (clean_for 2)

abbrev pub absent_cell : Call
absent_cell = on_slot []

-- "departure slots": A's second cell leaves in slot 3 with B, in slot 2 without
abbrev pub shared_at_two : List Call
shared_at_two = opens_b 0 1 2 ∷ opens_a 0 2 3 ∷ cell_of_a ∷ cell_of_a ∷ cell_of_b ∷ absent_cell ∷ []

abbrev pub alone_at_two : List Call
alone_at_two = opens_a 0 2 3 ∷ cell_of_a ∷ cell_of_a ∷ absent_cell ∷ absent_cell ∷ []

pub record DeparturesDiffer (raw : Bool) : Type 0 where
  pub asks_same : asked (card_of 2) A (start 2 raw) shared_at_two ≡ asked (card_of 2) A (start 2 raw) alone_at_two
  pub shared : (departure_at 2 1 (calls (start 2 raw) shared_at_two).events).slot ≡ 3
  pub alone : (departure_at 2 1 (calls (start 2 raw) alone_at_two).events).slot ≡ 2

-- "the delay summary": of the same runs, A's cells of slots 0 and 1 wait 0 and 2 slots with B, 0 and 1 without. The first four bins of A's
-- summary, kept from setup on:
abbrev pub bins_of_a : Bool → List Call → List ℕ
bins_of_a raw cs = take 4 (summary_of 2 (start 2 raw).state cs).tally.bins

pub record SummariesDiffer (raw : Bool) : Type 0 where
  pub asks_same : asked (card_of 2) A (start 2 raw) shared_at_two ≡ asked (card_of 2) A (start 2 raw) alone_at_two
  pub shared : bins_of_a raw shared_at_two ≡ 1 ∷ 0 ∷ 1 ∷ 0 ∷ []
  pub alone : bins_of_a raw alone_at_two ≡ 1 ∷ 1 ∷ 0 ∷ 0 ∷ []

-- "which space is used": A's cell waits in space 1 with B, in space 0 without
abbrev pub spaces_of : ℕ → List Event → List ℕ
spaces_of v [] = []
spaces_of v (opened who c m F C x number ∷ h) = spaces_of v h
spaces_of v (closed who c number ∷ h) = spaces_of v h
spaces_of v (ran cell a out ∷ h) = when a.departing =? v then a.space ∷ spaces_of v h else spaces_of v h

abbrev pub shared_space : List Call
shared_space = opens_b 0 2 3 ∷ opens_a 0 2 3 ∷ cell_of_b ∷ cell_of_b ∷ cell_of_a ∷ absent_cell ∷ []

abbrev pub alone_space : List Call
alone_space = opens_a 0 2 3 ∷ absent_cell ∷ absent_cell ∷ cell_of_a ∷ absent_cell ∷ []

pub record SpacesDiffer (raw : Bool) : Type 0 where
  pub asks_same : asked (card_of 2) A (start 2 raw) shared_space ≡ asked (card_of 2) A (start 2 raw) alone_space
  pub shared : spaces_of 2 (calls (start 2 raw) shared_space).events ≡ 1 ∷ []
  pub alone : spaces_of 2 (calls (start 2 raw) alone_space).events ≡ 0 ∷ []

-- "the waiting half of refusal 8": after slot 20 A's debt is paid in both runs, but with B a cell of A's still waits. A close
-- is refused in the one and not in the other; so then is an open that follows it, where A has asked the same but for the
-- close's answer: hence the condition that A's closes are answered alike. One slot later A's cell has left.
abbrev pub at_four : List Call → List Call
at_four others = opens_b 2 4 4 ∷ opens_a 2 5 20 ∷ (replicate 16 cell_of_a ++ (others ++ replicate 2 absent_cell))

abbrev pub shared_at_four : List Call
shared_at_four = at_four (replicate 3 cell_of_b)

abbrev pub alone_at_four : List Call
alone_at_four = at_four (replicate 3 absent_cell)

abbrev pub reopens : List Call → List Call
reopens cs = cs ++ (on_close second_operator (by_vci 2) ∷ opens_a 2 5 20 ∷ [])

abbrev pub closes_with : Run → ℕ
closes_with r = closed_with r second_operator (by_vci 2)

-- the numbers that the last two calls answered, the newest first
abbrev pub last_two : List Event → List ℕ
last_two h = take 2 (map number_of h)

abbrev pub next_after : Run → Wait
next_after r = wait_for r.state.ctl r.state.calendar r.state.bits

pub record ClosesDiffer (raw : Bool) : Type 0 where
  pub asks_same : asked (card_of 4) A (start 4 raw) shared_at_four ≡ asked (card_of 4) A (start 4 raw) alone_at_four
  pub shared : closes_with (calls (start 4 raw) shared_at_four) ≡ 8
  pub alone : closes_with (calls (start 4 raw) alone_at_four) ≡ 0
  pub shared_later : closes_with (calls (start 4 raw) (shared_at_four ++ (absent_cell ∷ []))) ≡ 0
  pub shared_then : last_two (calls (start 4 raw) (reopens shared_at_four)).events ≡ 5 ∷ 8 ∷ []
  pub alone_then : last_two (calls (start 4 raw) (reopens alone_at_four)).events ≡ 0 ∷ 0 ∷ []

-- "the answer of (ix)", which tells of everybody's cells: of the same runs, after slot 20 a cell waits with B, to leave in the next
-- slot, and none does without.
pub record NextDiffers (raw : Bool) : Type 0 where
  pub asks_same : asked (card_of 4) A (start 4 raw) shared_at_four ≡ asked (card_of 4) A (start 4 raw) alone_at_four
  pub shared : next_after (calls (start 4 raw) shared_at_four) ≡ wait_of 0 1
  pub alone : next_after (calls (start 4 raw) alone_at_four) ≡ wait_of 0 0

-- "as they leave the header check": its mode is shared. Of a raw policer, A's cell with a wrong bit is accepted after a slot
-- with no cell, and dropped after B's cell with a wrong bit.
abbrev pub broken_for : ℕ → List ℕ
broken_for vci = flipped 39 (clean_for vci)

abbrev pub broken_after : List ℕ → List Event
broken_after first = (calls (start 2 true) (opens_a 0 2 3 ∷ on_slot first ∷ on_slot (broken_for 2) ∷ [])).events

pub record ModeShared : Type 0 where
  pub shared : length (cells_of 2 (broken_after (broken_for 1))) ≡ 0
  pub alone : length (cells_of 2 (broken_after [])) ≡ 1
