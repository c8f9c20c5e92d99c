-- Of every run from a fresh state: "from a fresh state 3 is never given", and "After every call from a fresh state [the
-- audit] says yes."
use Rattle.std.specs.Prelude.{ℕ, ◌≡◌, ◌≢◌, List, [], ◌∷◌}
use Rattle.meaning.specs.State.{State}
use Rattle.meaning.specs.Calls.{Asked, setup}
use Rattle.meaning.specs.Audit.{AuditHolds}
use Rattle.meaning_runs.specs.Run.{Call, Event, number_of, Run, run_of, calls}

-- no call was refused with 3
abbrev pub NeverThree : List Event → Type 0
NeverThree [] = Unit {0}
NeverThree (e ∷ h) = (number_of e ≢ 3) × NeverThree h

pub record InOrder (r : Run) : Type 0 where
  pub never_three : NeverThree r.events
  pub audited : AuditHolds r.state

abbrev pub InOrderAlways : Type 0
InOrderAlways = (N z : ℕ) (a : Asked) (lent : State)
    → (setup N z a lent).number ≡ 0
    → (cs : List Call) → InOrder (calls (run_of (setup N z a lent).state []) cs)
