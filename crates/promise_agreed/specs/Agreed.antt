-- REQUEST (v) of document 02: the generator's engine equals the policer, cell by cell, in its peak decision and D.
--
-- A setup of a policer with N spaces has answered 0, raw or not, on either kind of line; V is z. Before the first slot the
-- connection v, a VC or a path, is open with m, F and C; no later call opens or closes it. The run has at most 2^32 slots; any
-- octets may be lent to a slot, so that cells of nobody, unknown, dropped and refused ones are among them. Then of every cell of
-- v, as it leaves the header check: the engine, run from not started over v's cells so far, answers 0; its verdict is the
-- slot's; D is its due time divided by L, rounded down, less the arrival slot, and if the cell is accepted D is also the engine's
-- earliness (0 where it is late) over L; and its due time is document 01's.
--
-- "Without a second bucket": so the connection was opened. Others may have one.
--
--   Watched            == N, V, the line kind, and the number of the connection with its m, F and C
--   is_for w cell a     == the slot that answered a was served, and the cell that the header check let through names the connection
--   ask w s t          == a call of the engine, with N, m, F and C as at setup and opening
--   engine_after w h    == the engine's state after the events h: a call for each cell of the connection, in the slot it came in
--   Same w h a r       == the slot after the events h answered a, and the engine r: they say the same
--   Agrees w h         == they do for every cell of the connection in the events h
--   Apart z v c        == the call c neither opens nor closes the connection v
use Rattle.std.specs.Prelude.{ℕ, ◌-◌, ◌/◌, ◌^◌, ◌≤◌, ◌≡◌, ◌≢◌, Bool, true, ◌&&◌, List, [], ◌∷◌, map}
use Rattle.std.proofs.Math.Option.{some}
use Rattle.meaning.specs.declared.Answer.{Answer}
use Rattle.meaning.specs.Plain.{when◌then◌else◌, ◌=?◌}
use Rattle.meaning.specs.Numbers.{slot_numbers, accepted}
use Rattle.meaning.specs.Header.{header_at, Name, number_in, connection, names_connection}
use Rattle.meaning.specs.State.{State}
use Rattle.meaning.specs.Words.{without_second}
use Rattle.meaning.specs.Calls.{Asked, setup}
use Rattle.meaning_runs.specs.Run.{Call, on_open_with, on_close, on_slot, Event, opened, closed, ran, number_of, run_of, call, calls, served}
use Rattle.meaning_runs.specs.Leak.{Opening, new_opening, due_time, opening_of}
use Rattle.theory_queues.specs.Queue.{All}
use Rattle.call_time.specs.declared.Tat.{Tat}
use Rattle.call_time.specs.declared.Timed.{Timed}
use Rattle.call_time.specs.Schedule.{ahead, timed}
use Rattle.call_time.specs.Asked.{not_started}

pub record Watched : Type 0 where
  pub N : ℕ
  pub z : ℕ
  pub kind : ℕ
  pub conn : ℕ
  pub m : ℕ
  pub F : ℕ
  pub C : ℕ

abbrev pub watch : ℕ → ℕ → ℕ → ℕ → ℕ → ℕ → ℕ → Watched
watch N z kind conn m F C = record { N = N; z = z; kind = kind; conn = conn; m = m; F = F; C = C }

unfoldable pub is_for : Watched → List ℕ → Answer → Bool
is_for w cell a =
    let h = header_at w.kind cell 0 in
    a.number =? 0 && (names_connection w.z h && connection w.z h =? w.conn)

abbrev pub ask : Watched → Tat → ℕ → Timed
ask w s t = timed s w.N w.m w.F w.C t

unfoldable pub engine_after : Watched → List Event → Tat
engine_after w [] = not_started
engine_after w (opened who vci m F C x number ∷ h) = engine_after w h
engine_after w (closed who vci number ∷ h) = engine_after w h
engine_after w (ran cell a out ∷ h) =
    when is_for w cell a then (ask w (engine_after w h) (served h)).tat else engine_after w h

pub record Same (w : Watched) (h : List Event) (a : Answer) (r : Timed) : Type 0 where
  pub answered : r.number ≡ 0
  pub vci : a.vci ≡ w.conn
  pub verdict : a.verdict ≡ r.verdict
  pub delay : a.d ≡ r.due / 2 ^ w.m - served h
  pub early : a.verdict ≡ accepted → a.d ≡ ahead r.early / 2 ^ w.m
  -- document 01's due time, of a cell that arrives in this slot under the connection's opening as the events have it
  pub due : a.verdict ≡ accepted → (o : Opening) → opening_of w.conn h ≡ some o → r.due ≡ due_time o (served h)

unfoldable pub Agrees : Watched → List Event → Type 0
Agrees w [] = Unit {0}
Agrees w (opened who vci m F C x number ∷ h) = Agrees w h
Agrees w (closed who vci number ∷ h) = Agrees w h
Agrees w (ran cell a out ∷ h) =
    Agrees w h × (is_for w cell a ≡ true → Same w h a (ask w (engine_after w h) (served h)))

abbrev pub Apart : ℕ → ℕ → Call → Type 0
Apart z v (on_open_with who name m F C x) = number_in z name ≢ v
Apart z v (on_close who name) = number_in z name ≢ v
Apart z v (on_slot cell) = Unit {0}

-- Whatever else is called, also for other connections: before the first slot v is open, and no later call opens or closes it.
abbrev pub AgreedAlways : Type 0
AgreedAlways = (N z : ℕ) (a : Asked) (lent : State)
    → (setup N z a lent).number ≡ 0
    → (before : List Call) (v m F C : ℕ)
    → let r = calls (run_of (setup N z a lent).state []) before in
    served r.events ≡ 0
    → opening_of v r.events ≡ some (new_opening m F C without_second)
    → (after : List Call) → All (Apart z v) after
    → served (calls r after).events ≤ slot_numbers
    → Agrees (watch N z a.kind v m F C) (calls r after).events

-- The request's own case: setup, one open that answers 0, then slots and nothing else.
abbrev pub AgreedOneConnection : Type 0
AgreedOneConnection = (N z : ℕ) (a : Asked) (lent : State)
    → (setup N z a lent).number ≡ 0
    → (who : ℕ) (name : Name) (m F C : ℕ)
    → let r = call (run_of (setup N z a lent).state []) (on_open_with who name m F C without_second) in
    All (λ e. number_of e ≡ 0) r.events
    → (cells : List (List ℕ))
    → served (calls r (map on_slot cells)).events ≤ slot_numbers
    → Agrees (watch N z a.kind (number_in z name) m F C) (calls r (map on_slot cells)).events
