-- The theorems that readers are sent to: a run with bursts in it is the run of the calls that they stand for, from the
-- invariant of runs.
use Prim.Native.Nat.{ℕ}
use mathlib.Core.Path.{◌≡◌, refl, sym, ap, ◌∙◌, subst}
use mathlib.Core.List.{List, [], ◌∷◌, ◌++◌}
use Rattle.meaning.specs.State.{State}
use Rattle.meaning.specs.Calls.{Asked, chosen, fresh_state, setup}
use Rattle.meaning_runs.specs.Run.{Call, Run, run_of, call, calls, fresh_run}
use Rattle.theory_invariant.proofs.FreshLaws.{setup_fresh}
use Rattle.theory_invariant.proofs.RunLaws.{Kept, calls_kept, run_kept}
use Rattle.promises.specs.Demand3.{Demand3}
use Rattle.promises.specs.Debt.{Debt, Refused}
use Rattle.promises.specs.Runs.{InOrder}
use Rattle.promises.specs.Checked.{HeaderCheck}
use Rattle.promises.specs.Paths.{Apart, PathOrder}
use Rattle.promises.proofs.Top.{demand3, in_order, debt_kept, header_check, paths_hold}
use Rattle.promise_polled.specs.Polled.{Poll, single, many, as_calls, all_calls, poll, polls}
use Rattle.promise_polled.specs.Holds.{Polled, PolledHolds, OfPolledRuns, RunsToo}
use Rattle.promise_polled.proofs.BurstLaws.{burst_is, poll_is}

calls_append : (r : Run) (cs ds : List Call) → calls r (cs ++ ds) ≡ calls (calls r cs) ds
unfolding calls
calls_append r [] ds = refl
calls_append r (c ∷ cs) ds = calls_append (call r c) cs ds

module _ (N z kind : ℕ) where
  poll_any : (r : Run) → Kept N z kind r → (p : Poll) → poll r p ≡ calls r (as_calls p)
  unfolding poll as_calls calls
  poll_any r k (single c) = refl
  poll_any r k (many arrivals sizes departures answers) = poll_is arrivals sizes departures answers N z kind r k

  polls_are : (r : Run) → Kept N z kind r → (ps : List Poll) → polls r ps ≡ calls r (all_calls ps)
  unfolding polls all_calls calls
  polls_are r k [] = refl
  polls_are r k (p ∷ ps) =
      ap (λ (r' : Run). polls r' ps) (poll_any r k p)
      ∙ polls_are (calls r (as_calls p)) (calls_kept N z kind r (as_calls p) k) ps
      ∙ sym (calls_append r (as_calls p) (all_calls ps))

  polls_kept : (r : Run) → Kept N z kind r → (ps : List Poll) → Kept N z kind (polls r ps)
  polls_kept r k ps = subst (Kept N z kind) (sym (polls_are r k ps)) (calls_kept N z kind r (all_calls ps) k)

  pub polled_run : (r : Run) → Kept N z kind r → (ps : List Poll) → Polled r ps
  polled_run r k ps =
      record {
        same_run = polls_are r k ps;
        next_burst = λ arrivals sizes departures answers.
            burst_is arrivals sizes departures answers N z kind (polls r ps) (polls_kept r k ps);
      }

setup_kept : (N z : ℕ) (a : Asked) (lent : State) → (setup N z a lent).number ≡ 0
    → Kept N z a.kind (run_of (setup N z a lent).state [])
unfolding fresh_run calls
setup_kept N z a lent e =
    let fresh = setup_fresh N z a lent e in
    subst (λ (s : State). Kept N z a.kind (run_of s [])) (sym fresh.1)
    (subst (λ (k : ℕ). Kept N z k (run_of (fresh_state N z (chosen a)) [])) fresh.2
    (run_kept N z (chosen a) fresh.0 []))

-- BURSTS OVER RUNS
pub polled : PolledHolds
polled N z a lent e ps =
    polled_run N z a.kind (run_of (setup N z a lent).state []) (setup_kept N z a lent e) ps

-- so all theorems over runs hold of cards that poll
pub runs_too : (P : ℕ → ℕ → Asked → Run → Type 0) → RunsToo P
runs_too P of N z a lent e ps =
    subst (P N z a) (sym (polled N z a lent e ps).same_run)
    (of N z a lent e (all_calls ps))

-- DEMAND 3
pub demand3_polled : OfPolledRuns (λ N z a r. Demand3 N z a.kind r.events r.state)
demand3_polled = runs_too (λ N z a r. Demand3 N z a.kind r.events r.state) demand3

-- 3 is never given, and the audit says yes
pub in_order_polled : OfPolledRuns (λ N z a r. InOrder r)
in_order_polled = runs_too (λ N z a r. InOrder r) in_order

-- REQUESTS (ii) and (i)
pub debt_polled : OfPolledRuns (λ N z a r. Debt N z r.events r.state × ((more : List Call) → Refused z r more))
debt_polled = runs_too (λ N z a r. Debt N z r.events r.state × ((more : List Call) → Refused z r more)) debt_kept

pub header_check_polled : OfPolledRuns (λ N z a r. HeaderCheck a.raw r)
header_check_polled = runs_too (λ N z a r. HeaderCheck a.raw r) header_check

-- of paths too
pub paths_polled : OfPolledRuns (λ N z a r. Apart z a.kind r × PathOrder N z a.kind r.events)
paths_polled = runs_too (λ N z a r. Apart z a.kind r × PathOrder N z a.kind r.events) paths_hold
