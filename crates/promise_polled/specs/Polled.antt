-- A CARD THAT POLLS: some of its calls are bursts. Each burst stands for the calls of its slots (as_calls), and what it
-- hands out is read back as their events (read_again). So a run with bursts in it is a run.
--
--   Poll            == an open, close or slot, or a burst with what the caller lends to it: any lists
--   lent_to a sizes  == the cells that a burst lends to its slots, one after the other
--   up_to sizes      == the sizes before the first that is neither 0 nor 53
--   as_calls p       == the calls that p stands for: of a burst its slots up to there, or none where a length is wrong
--   read_again        == the events of slots, as read from the departures and the answers that a burst has written
--   poll r p        == the run r, and then p
use Rattle.std.specs.Prelude.{ℕ, ◌*◌, Bool, true, not, ◌&&◌, List, [], ◌∷◌, ◌++◌, map, length, get_or, take, drop}
use Rattle.base_hec.specs.Modes.{arriving}
use Rattle.meaning.specs.declared.Answer.{Answer}
use Rattle.meaning.specs.Plain.{when◌then◌else◌, ◌=?◌}
use Rattle.meaning.specs.Numbers.{octets, empty}
use Rattle.meaning.specs.State.{State}
use Rattle.meaning.specs.Work.{answer_of}
use Rattle.meaning.specs.Slot.{slot}
use Rattle.meaning_runs.specs.Run.{Call, on_slot, Event, ran, Run, run_of, shown, call}
use Rattle.burst_out.specs.Handout.{answer_long}
use Rattle.call_burst.specs.Burst.{size_fits, burst}

pub data Poll : Type 0 where
  single : Call → Poll
  -- arrivals, sizes, departures, answers
  many : List ℕ → List ℕ → List ℕ → List ℕ → Poll

-- ── what a burst stands for ──
-- "arrivals are 53 octets a slot, not read where the size is 0"
unfoldable pub lent_to : List ℕ → List ℕ → List (List ℕ)
lent_to arrivals [] = []
lent_to arrivals (size ∷ sizes) = take size arrivals ∷ lent_to (drop octets arrivals) sizes

unfoldable pub up_to : List ℕ → List ℕ
up_to [] = []
up_to (size ∷ sizes) = when size_fits size then size ∷ up_to sizes else []

unfoldable pub all_fit : List ℕ → Bool
all_fit [] = true
all_fit (size ∷ sizes) = size_fits size && all_fit sizes

-- "2 if .. arrivals, departures or answers for so many sizes, has another length"
unfoldable pub lent_well : List ℕ → List ℕ → List ℕ → List ℕ → Bool
lent_well arrivals sizes departures answers =
    length arrivals =? octets * length sizes && length departures =? octets * length sizes
    && length answers =? answer_long * length sizes

-- the cells of the slots that are served
unfoldable pub cells_served : List ℕ → List ℕ → List ℕ → List ℕ → List (List ℕ)
cells_served arrivals sizes departures answers =
    when lent_well arrivals sizes departures answers then lent_to arrivals (up_to sizes) else []

-- the number that it ends with: "the only later stops with a number are 9 (a size neither 0 nor 53) and 3"; 3 is not given
unfoldable pub ends_with : List ℕ → List ℕ → List ℕ → List ℕ → ℕ
ends_with arrivals sizes departures answers =
    when not (lent_well arrivals sizes departures answers) then 2
    else when all_fit sizes then 0
    else 9

unfoldable pub as_calls : Poll → List Call
as_calls (single c) = c ∷ []
as_calls (many arrivals sizes departures answers) = map on_slot (cells_served arrivals sizes departures answers)

unfoldable pub all_calls : List Poll → List Call
all_calls [] = []
all_calls (p ∷ ps) = as_calls p ++ all_calls ps

-- ── what a burst hands out, said by its slots: slot after slot from the state s on ──
-- 53 octets a slot: the line cell, or, "where nothing departs these keep their values"; all others keep theirs
unfoldable pub handed_out : State → List (List ℕ) → List ℕ → List ℕ
handed_out s [] departures = departures
handed_out s (cell ∷ cells) departures =
    let w = slot s cell in
    (when w.answer.space =? empty then take octets departures else shown w)
    ++ handed_out w.state cells (drop octets departures)

-- "answers six numbers a slot", in the answer's order; all others keep their values
abbrev pub six_of : Answer → List ℕ
six_of a = a.number ∷ a.verdict ∷ a.vci ∷ a.d ∷ a.space ∷ a.departing ∷ []

unfoldable pub answered : State → List (List ℕ) → List ℕ → List ℕ
answered s [] answers = answers
answered s (cell ∷ cells) answers =
    let w = slot s cell in
    six_of w.answer ++ answered w.state cells (drop answer_long answers)

-- ── the events of a burst, read back ──
unfoldable pub first_six : List ℕ → Answer
first_six l = answer_of (get_or l 0 0) (get_or l 1 0) (get_or l 2 0) (get_or l 3 0) (get_or l 4 0) (get_or l 5 0)

-- Document 02 (i): an event notes what the header check lets through; in a burst the mode moves from slot to slot.
unfoldable pub throughs : ℕ → ℕ → List (List ℕ) → List (List ℕ)
throughs raw mode [] = []
throughs raw mode (cell ∷ cells) =
    let a = arriving raw mode cell in
    a.cell ∷ throughs raw a.mode cells

-- onto the events h, of slots with these cells let through: the answer is six numbers, the line cell 53 octets
unfoldable pub read_again : List Event → List (List ℕ) → List ℕ → List ℕ → List Event
read_again h [] departures answers = h
read_again h (cell ∷ cells) departures answers =
    let a = first_six answers in
    let out = when a.space =? empty then [] else take octets departures in
    read_again (ran cell a out ∷ h) cells (drop octets departures) (drop answer_long answers)

-- the slots that a burst says were served, `done` of them
unfoldable pub poll : Run → Poll → Run
poll r (single c) = call r c
poll r (many arrivals sizes departures answers) =
    let s = r.state in
    let b = burst s arrivals sizes departures answers in
    let cells = take b.done (lent_to arrivals sizes) in
    run_of b.state (read_again r.events (throughs s.ctl.raw s.ctl.mode cells) b.departures b.answers)

unfoldable pub polls : Run → List Poll → Run
polls r [] = r
polls r (p ∷ ps) = polls (poll r p) ps
