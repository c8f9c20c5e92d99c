-- A run: any list of calls, one after the other, refused ones among them. "each call gets the record and memory as the
-- call before left them"
--
--   Call          == open, close or slot, with what the caller hands over
--   Event         == a call, and what it said
--   Run           == the state after some calls, and their events, the newest first
--   call r c      == the run r, and then the call c
--   call_at x r c  == the same where a slot's cell, if it is let in, takes space x: the lowest free one, in a call
--   calls r cs    == the run r, and then the calls cs, in this order
--   let_in s cell  == what the header check of request (i) lets through in the state s: of a policer that is not raw, all
--   fresh_run N z o  == after a setup that answered 0, with N, V and the options o, before any other call
--   number_of e    == the number that a call answered
--   served h      == how many slots the events h served: the number of the next slot, which never wraps
use Rattle.std.specs.Prelude.{ℕ, ◌+◌, List, [], ◌∷◌, replicate}
use Rattle.base_hec.specs.Modes.{Arriving, arriving}
use Rattle.meaning.specs.declared.Answer.{Answer}
use Rattle.meaning.specs.Plain.{when◌then◌else◌, ◌=?◌}
use Rattle.meaning.specs.Numbers.{octets, empty}
use Rattle.meaning.specs.State.{State, with_words}
use Rattle.meaning.specs.Header.{Name, by_vci, number_in}
use Rattle.meaning.specs.Operators.{second_operator}
use Rattle.meaning.specs.Words.{Second, without_second}
use Rattle.meaning.specs.Calls.{Options, fresh_state, open_call, close_call}
use Rattle.meaning.specs.Work.{Work}
use Rattle.meaning.specs.Bits.{lowest_free}
use Rattle.meaning.specs.Slot.{slot_at}
use Rattle.meaning.specs.Line.{line_cell}

pub data Call : Type 0 where
  -- the operator, the connection, m, F, C, and the second bucket, if any: document 02 (iv), (vi) and (xi)
  on_open_with : ℕ → Name → ℕ → ℕ → ℕ → Second → Call
  -- the operator, the connection
  on_close : ℕ → Name → Call
  -- the octets lent: any list
  on_slot : List ℕ → Call

-- a VC opened without a second bucket, by the second operator, whose every connection is where both splits are 1
abbrev pub on_open : ℕ → ℕ → ℕ → ℕ → Call
on_open vci m F C = on_open_with second_operator (by_vci vci) m F C without_second

pub data Event : Type 0 where
  -- the operator, the number of the connection, m, F, C, the second bucket, if any, and the number answered
  opened : ℕ → ℕ → ℕ → ℕ → ℕ → Second → ℕ → Event
  -- the operator, the number of the connection, and the number answered
  closed : ℕ → ℕ → ℕ → Event
  -- the octets that the header check let through, the answer, and the octets of the line cell shown after it
  ran : List ℕ → Answer → List ℕ → Event

abbrev pub number_of : Event → ℕ
number_of (opened who c m F C x number) = number
number_of (closed who c number) = number
number_of (ran cell a out) = a.number

pub record Run : Type 0 where
  pub state : State
  pub events : List Event

abbrev pub run_of : State → List Event → Run
run_of s h = record { state = s; events = h }

-- The line cell is asked for after each slot, with an idle cell of 53 octets. What departs is shown; nothing is noted
-- where nothing departs.
abbrev pub idle : List ℕ
idle = replicate octets 0

unfoldable pub shown : Work → List ℕ
shown w = when w.answer.space =? empty then [] else line_cell w.state.cells idle w.answer.space

-- Document 02 (i): what is judged, stored and sent is the mended cell, so that is what an event notes: "octets unchanged"
-- and due times speak of it. Of a dropped cell nothing is noted.
abbrev pub let_in : State → List ℕ → Arriving
let_in s cell = arriving s.ctl.raw s.ctl.mode cell

unfoldable pub call_at : ℕ → Run → Call → Run
call_at x r (on_open_with who name m F C second) =
    let s = r.state in
    let c = open_call s.ctl s.words who name m F C second in
    run_of (with_words s c.words) (opened who (number_in s.ctl.v name) m F C second c.number ∷ r.events)
call_at x r (on_close who name) =
    let s = r.state in
    let c = close_call s.ctl s.words who name in
    run_of (with_words s c.words) (closed who (number_in s.ctl.v name) c.number ∷ r.events)
call_at x r (on_slot cell) =
    let w = slot_at x r.state cell in
    run_of w.state (ran (let_in r.state cell).cell w.answer (shown w) ∷ r.events)

unfoldable pub call : Run → Call → Run
call r c = call_at (lowest_free r.state.bits) r c

unfoldable pub calls : Run → List Call → Run
calls r [] = r
calls r (c ∷ cs) = calls (call r c) cs

-- "'From a fresh state' means that a setup has answered 0, no other setup follows"
unfoldable pub fresh_run : ℕ → ℕ → Options → Run
fresh_run N z o = run_of (fresh_state N z o) []

-- A refused slot is not served. "The first slot after setup is slot 0."
unfoldable pub served : List Event → ℕ
served [] = 0
served (opened who c m F C x number ∷ h) = served h
served (closed who c number ∷ h) = served h
served (ran cell a out ∷ h) = (when a.number =? 0 then 1 else 0) + served h
