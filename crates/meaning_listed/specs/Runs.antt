-- Runs of the old form, call by call as runs of the new one, and what is the same in both.
--
--   but_space e     == an event without the space that a departing cell had: only whether one departed
--   SameAsListed   == from a fresh state, whatever is called, refused calls among it, both forms say the same but for the space
use Rattle.std.specs.Prelude.{ℕ, ◌≡◌, List, [], ◌∷◌, map}
use Rattle.meaning.specs.declared.Answer.{Answer}
use Rattle.meaning.specs.Plain.{when◌then◌else◌, ◌=?◌}
use Rattle.meaning.specs.Numbers.{empty}
use Rattle.meaning.specs.State.{with_words}
use Rattle.meaning.specs.Header.{number_in}
use Rattle.meaning.specs.Calls.{Options, Allowed, open_call, close_call}
use Rattle.meaning.specs.Work.{answer_of}
use Rattle.meaning_runs.specs.Run.{Call, on_open_with, on_close, on_slot, Event, opened, closed, ran, let_in, shown, calls, fresh_run}
use Rattle.meaning_listed.specs.Listed.{Listed, listed_of, slot_listed, fresh_listed}

pub record ListedRun : Type 0 where
  pub listed : Listed
  pub events : List Event

abbrev pub listed_run : Listed → List Event → ListedRun
listed_run l h = record { listed = l; events = h }

unfoldable pub call_listed : ListedRun → Call → ListedRun
call_listed r (on_open_with who name m F C x) =
    let s = r.listed.state in
    let c = open_call s.ctl s.words who name m F C x in
    listed_run (listed_of (with_words s c.words) r.listed.free) (opened who (number_in s.ctl.v name) m F C x c.number ∷ r.events)
call_listed r (on_close who name) =
    let s = r.listed.state in
    let c = close_call s.ctl s.words who name in
    listed_run (listed_of (with_words s c.words) r.listed.free) (closed who (number_in s.ctl.v name) c.number ∷ r.events)
call_listed r (on_slot cell) =
    let w = slot_listed r.listed cell in
    listed_run (listed_of w.work.state w.free)
    (ran (let_in r.listed.state cell).cell w.work.answer (shown w.work) ∷ r.events)

unfoldable pub calls_listed : ListedRun → List Call → ListedRun
calls_listed r [] = r
calls_listed r (c ∷ cs) = calls_listed (call_listed r c) cs

-- number, verdict, VCI, D and departing VCI stay; of the space, whether there is one
abbrev pub answer_but : Answer → Answer
answer_but a =
    answer_of a.number a.verdict a.vci a.d (when a.space =? empty then empty else 0) a.departing

abbrev pub but_space : Event → Event
but_space (opened who c m F C x number) = opened who c m F C x number
but_space (closed who c number) = closed who c number
but_space (ran cell a out) = ran cell (answer_but a) out

abbrev pub SameAsListed : Type 0
SameAsListed = (N z : ℕ) (o : Options) → Allowed N z o → (cs : List Call)
    → map but_space (calls (fresh_run N z o) cs).events
    ≡ map but_space (calls_listed (listed_run (fresh_listed N z o) []) cs).events
