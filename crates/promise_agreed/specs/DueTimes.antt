-- Document 01, "Due time", of the engine alone: from not started on, each conforming cell's due time is the one that document
-- 01 words, and the verdict is the leak rule's. Document 01's definitions (crate meaning_runs, specs/Leak.antt) are folded over what
-- the engine itself answered; refused calls move nothing. No policer here.
--
--   peak_only m F C p  == an opening without a second bucket; p is the last due time, if there is one
--   Timing            == the engine's state, and the opening with the last conforming cell's due time
--   timed_on N t a     == both after a call with the arrival a
--   timed_all N t l    == both after calls with these arrivals, in this order
use Rattle.std.specs.Prelude.{ℕ, ◌≡◌, ◌↔◌, true, ◌&&◌, List, [], ◌∷◌}
use Rattle.std.proofs.Math.Option.{Option, none, some}
use Rattle.meaning.specs.Plain.{when◌then◌else◌, ◌=?◌}
use Rattle.meaning.specs.Numbers.{accepted}
use Rattle.meaning.specs.Words.{without_second}
use Rattle.meaning_runs.specs.Leak.{Opening, opening_with, due_time, leak_accepts}
use Rattle.call_time.specs.declared.Tat.{Tat}
use Rattle.call_time.specs.declared.Timed.{Timed}
use Rattle.call_time.specs.Schedule.{timed}
use Rattle.call_time.specs.Asked.{not_started}

abbrev pub peak_only : ℕ → ℕ → ℕ → Option ℕ → Opening
peak_only m F C p = opening_with m F C p without_second none

pub record Timing : Type 0 where
  pub state : Tat
  pub opening : Opening

abbrev pub timing_of : Tat → Opening → Timing
timing_of s o = record { state = s; opening = o }

abbrev pub answer_on : ℕ → Timing → ℕ → Timed
answer_on N t a = timed t.state N t.opening.m t.opening.F t.opening.C a

-- the opening once a conforming cell has come in slot a: later ones are reckoned from its due time
abbrev pub conformed : Opening → ℕ → Opening
conformed o a = peak_only o.m o.F o.C (some (due_time o a))

abbrev pub timed_on : ℕ → Timing → ℕ → Timing
timed_on N t a =
    let r = answer_on N t a in
    timing_of r.tat (when r.number =? 0 && r.verdict =? accepted then conformed t.opening a else t.opening)

abbrev pub timed_all : ℕ → Timing → List ℕ → Timing
timed_all N t [] = t
timed_all N t (a ∷ more) = timed_all N (timed_on N t a) more

abbrev pub from_not_started : ℕ → ℕ → ℕ → Timing
from_not_started m F C = timing_of not_started (peak_only m F C none)

-- after any calls, of the next one that isn't refused
abbrev pub DueTimes : Type 0
DueTimes = (N m F C : ℕ) (before : List ℕ) (a : ℕ)
    → let t = timed_all N (from_not_started m F C) before in
    let r = answer_on N t a in
    r.number ≡ 0
    → ((r.verdict ≡ accepted) ↔ (leak_accepts t.opening a ≡ true))
    × (r.verdict ≡ accepted → r.due ≡ due_time t.opening a)
