-- REQUEST (ii) of document 02: closing must not wipe a debt. A setup has answered 0, then any calls followed. h is what
-- was called and said, the newest first; s is the record and memory that the next call gets; z is V. Slots don't wrap. A
-- connection is a VC or a path, named by VCI or VPI; number_in z name is its number.
--
--   last_slot h      == the slot served last, t as of which close brings the connection up to date
--   Paid o t        == last due + F is at most t × L; an opening that accepted no cell owes nothing
--   AllLeft v h     == each accepted cell of the connection v has left
--   Across h        == the claim across a close and a reopening
--   Debt            == close's own rule, and that claim, of one run
--   Refused         == how long close goes on being refused, of a run and the calls after it
use Rattle.std.specs.Prelude.{ℕ, suc, ◌+◌, ◌-◌, ◌*◌, ◌/◌, ◌≤◌, ◌<◌, ◌≡◌, true, List, [], ◌∷◌, ◌++◌, ◌≢◌, ◌↔◌, length}
use Rattle.std.proofs.Math.Option.{Option, none, some}
use Rattle.meaning.specs.State.{State}
use Rattle.meaning.specs.Header.{Name, named, number_in}
use Rattle.meaning.specs.Operators.{owns}
use Rattle.meaning.specs.Words.{connection_at, debt}
use Rattle.meaning.specs.Calls.{Asked, setup, close_call}
use Rattle.meaning_runs.specs.Run.{Call, Event, closed, Run, run_of, calls, served}
use Rattle.meaning_runs.specs.Leak.{Opening, parts, due_time, opening_of}
use Rattle.meaning_runs.specs.Seen.{cells_of, departures_of, cell_at}

abbrev pub last_slot : List Event → ℕ
last_slot h = served h - 1

abbrev pub PaidAfter : ℕ → ℕ → ℕ → Option ℕ → Type 0
PaidAfter L F t none = Unit {0}
PaidAfter L F t (some p) = p + F ≤ t * L

abbrev pub Paid : Opening → ℕ → Type 0
Paid o t = PaidAfter (parts o) o.F t o.previous

abbrev pub AllLeft : ℕ → List Event → Type 0
AllLeft v h = length (departures_of v h) ≡ length (cells_of v h)

-- A connection was closed, its opening `old` having accepted a cell, the last of them due at p. Later it is open again as `new`,
-- be it the next opening or a later one. A cell of it that arrives in the next slot, the first of its opening or not, is
-- due at least at p + F: p + F in parts of 1/L of `old`, its due time in parts of 1/L of `new`, each multiplied by the
-- other's L.
abbrev pub Across : List Event → Type 0
Across h = (who v : ℕ) (old new : Opening) (p : ℕ) (later before : List Event)
    → h ≡ later ++ (closed who v 0 ∷ before)
    → opening_of v before ≡ some old
    → old.previous ≡ some p
    → opening_of v h ≡ some new
    → (p + old.F) * parts new ≤ due_time new (served h) * parts old

pub record Debt (N z : ℕ) (h : List Event) (s : State) : Type 0 where
  -- close's own rule: of an open connection it answers its operator 0 exactly when waiting is 0 and last due + F is at most t × L, and else 8
  pub closes_exactly : (who : ℕ) (name : Name) (o : Opening) → owns s.ctl who name ≡ true → named z name ≡ true → opening_of (number_in z name) h ≡ some o
      → ((close_call s.ctl s.words who name).number ≡ 0) ↔ (AllLeft (number_in z name) h × Paid o (last_slot h))
  pub else_eight : (who : ℕ) (name : Name) (o : Opening) → owns s.ctl who name ≡ true → named z name ≡ true → opening_of (number_in z name) h ≡ some o
      → (close_call s.ctl s.words who name).number ≢ 0 → (close_call s.ctl s.words who name).number ≡ 8
  -- waiting counts the accepted cells that have not left
  pub waiting_is : (name : Name) (o : Opening) → named z name ≡ true → opening_of (number_in z name) h ≡ some o
      → let v = number_in z name in
      length (departures_of v h) + (connection_at s.words v).waiting ≡ length (cells_of v h)
  pub across : Across h
  -- the waiting half of 8 is over at the latest D + N-1 slots after the arrival of the last accepted cell, the k-th
  pub waiting_half : (v k : ℕ) → length (cells_of v h) ≡ suc k
      → (cell_at v k h).arrival + (cell_at v k h).D + (N - 1) < served h
      → AllLeft v h

-- S/L rounded up
abbrev pub rounded_up : ℕ → ℕ → ℕ
rounded_up S L = (S + (L - 1)) / L

-- The S half of 8, where after a run r the calls cs follow in which no further cell of the connection is accepted, so that its
-- opening stays as it is: it lasts for exactly S/L slots, rounded up, S being what is left in the bucket after r.
pub record Refused (z : ℕ) (r : Run) (cs : List Call) : Type 0 where
  pub s_half : (name : Name) (o : Opening) → named z name ≡ true
      → opening_of (number_in z name) r.events ≡ some o
      → opening_of (number_in z name) (calls r cs).events ≡ some o
      → let v = number_in z name in
      (debt (calls r cs).state.ctl.t (connection_at (calls r cs).state.words v) ≢ 0)
      ↔ (served (calls r cs).events
      < served r.events + rounded_up (debt r.state.ctl.t (connection_at r.state.words v)) (parts o))

abbrev pub DebtHolds : Type 0
DebtHolds = (N z : ℕ) (a : Asked) (lent : State)
    → (setup N z a lent).number ≡ 0
    → (cs : List Call)
    → let r = calls (run_of (setup N z a lent).state []) cs in
    Debt N z r.events r.state × ((more : List Call) → Refused z r more)
