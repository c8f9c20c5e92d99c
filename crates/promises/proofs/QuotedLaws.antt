-- What may be quoted, from demand 3: the due slot is D after the arrival, D is at most N-1, and N-1 more may pass.
use Prim.Native.Nat.{ℕ}
use native.Mathlib.Omega.{arith}
use mathlib.Core.List.{List}
use Rattle.meaning.specs.State.{State}
use Rattle.meaning_runs.specs.Run.{Event}
use Rattle.promises.specs.Demand3.{Demand3}
use Rattle.promises.specs.Quoted.{Quoted}

pub quoted : (N z kind : ℕ) (h : List Event) (s : State) → Demand3 N z kind h s → Quoted N h
quoted N z kind h s d =
    record {
      by_delay = λ v k low. omega (arith, d.not_late v k low, (d.delay v k (d.was_accepted v k low)).0);
      at_most = λ v k low.
          omega (
            arith,
            d.not_late v k low,
            (d.delay v k (d.was_accepted v k low)).0,
            (d.delay v k (d.was_accepted v k low)).1,
          );
    }
