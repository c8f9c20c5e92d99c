-- The theorems that readers are sent to: each from the invariant of runs, in one line.
use Prim.Native.Nat.{ℕ}
use mathlib.Core.Path.{◌≡◌, refl, sym, ap, ◌∙◌, subst}
use mathlib.Core.Logic.{◌≢◌}
use mathlib.Core.Bool.{Bool, true, false}
use mathlib.Core.List.{List, [], ◌∷◌}
use Rattle.meaning.specs.Numbers.{uni}
use Rattle.meaning.specs.State.{State}
use Rattle.meaning.specs.Calls.{raw_number, Asked, Options, kind_number, chosen, Allowed, setup}
use Rattle.meaning_runs.specs.Run.{Call, Event, number_of, Run, run_of, calls, fresh_run}
use Rattle.theory_queues.specs.Queue.{All}
use Rattle.theory_invariant.proofs.FreshLaws.{setup_fresh}
use Rattle.theory_invariant.proofs.RunLaws.{Kept, run_kept}
use Rattle.theory_invariant.proofs.AuditLaws.{audit_holds}
use Rattle.theory_clock.proofs.NeverWraps.{never_wraps_after_setup}
use Rattle.promises.specs.Demand2.{Demand2Holds}
use Rattle.promises.specs.Demand3.{Demand3, Demand3Holds}
use Rattle.promises.specs.Debt.{Debt, Refused, DebtHolds}
use Rattle.promises.specs.Runs.{NeverThree, InOrder, InOrderAlways}
use Rattle.promises.proofs.Demand3Laws.{demanded}
use Rattle.promises.specs.Checked.{HeaderCheck, HeaderCheckHolds, NotRawAsBefore}
use Rattle.promises.proofs.DebtLaws.{debts, refused, fresh_paid}
use Rattle.promises.specs.Paths.{Apart, PathOrder, PathsHold, NoPaths, NoPathsHold}
use Rattle.promises.proofs.ApartLaws.{apart}
use Rattle.promises.proofs.PathLaws.{path_order}
use Rattle.promises.proofs.NoPathLaws.{no_paths}
use Rattle.promises.specs.Sustained.{AsBefore, AsBeforeHolds}
use Rattle.promises.proofs.SustainedLaws.{as_before}
use Rattle.promises.proofs.CheckedRuns.{fresh_raw, raw_always, check_kept, plain_before}

-- a run after a setup that answered 0 is a run from a fresh state
after_setup : (P : ℕ → ℕ → Options → Run → Type 0)
    → ((N z : ℕ) (o : Options) → Allowed N z o → (cs : List Call) → P N z o (calls (fresh_run N z o) cs))
    → (N z : ℕ) (a : Asked) (lent : State)
    → (setup N z a lent).number ≡ 0
    → (cs : List Call)
    → P N z (chosen a) (calls (run_of (setup N z a lent).state []) cs)
unfolding fresh_run
after_setup P f N z a lent e cs =
    let fresh = setup_fresh N z a lent e in
    let o = chosen a in
    subst (λ (s : State). P N z o (calls (run_of s []) cs)) (sym fresh.1) (f N z o fresh.0 cs)

-- and keeps the invariant, on a line of the kind that setup was handed
pub from_setup : (P : ℕ → ℕ → ℕ → Run → Type 0) → ((N z kind : ℕ) (r : Run) → Kept N z kind r → P N z kind r)
    → (N z : ℕ) (a : Asked) (lent : State)
    → (setup N z a lent).number ≡ 0
    → (cs : List Call) → P N z a.kind (calls (run_of (setup N z a lent).state []) cs)
from_setup P f N z a lent e cs =
    subst (λ (k : ℕ). P N z k (calls (run_of (setup N z a lent).state []) cs))
    (setup_fresh N z a lent e).2
    (after_setup (λ N z o r. P N z (kind_number o.kind) r)
    (λ N z o range cs. f N z (kind_number o.kind) (calls (fresh_run N z o) cs) (run_kept N z o range cs))
    N z a lent e cs)

never_three : (h : List Event) → All (λ e. number_of e ≢ 3) h → NeverThree h
never_three [] a = a
never_three (e ∷ h) a = (a.0, never_three h a.1)

-- DEMAND 2 over runs
pub demand2 : Demand2Holds
demand2 = never_wraps_after_setup

-- DEMAND 3
pub demand3 : Demand3Holds
demand3 =
    from_setup (λ N z kind r. Demand3 N z kind r.events r.state)
    (λ N z kind r k. demanded N z kind r.events r.state k.inv)

-- 3 is never given, and the audit says yes
pub in_order : InOrderAlways
in_order =
    from_setup (λ N z kind r. InOrder r)
    (λ N z kind r k. record {
      never_three = never_three r.events k.never;
      audited = audit_holds N z kind r.events r.state k.inv;
    })

-- REQUEST (ii): closing must not wipe a debt
pub debt_kept : DebtHolds
debt_kept =
    after_setup (λ N z o r. Debt N z r.events r.state × ((more : List Call) → Refused z r more))
    (λ N z o range cs.
    let r = calls (fresh_run N z o) cs in
    let k = run_kept N z o range cs in
    (debts N z (kind_number o.kind) r k (fresh_paid N z o range cs), λ more. refused N z (kind_number o.kind) r k more))

-- REQUEST (iv): a connection opened without a second bucket is judged as before
pub no_second_as_before : AsBeforeHolds
no_second_as_before =
    from_setup (λ N z kind r. AsBefore z kind r.events r.state)
    (λ N z kind r k. as_before N z kind r.events r.state k.inv)

-- REQUEST (i): header error control
pub header_check : HeaderCheckHolds
header_check =
    after_setup (λ N z o r. HeaderCheck o.raw r)
    (λ N z o range cs. check_kept N z (kind_number o.kind) o.raw (calls (fresh_run N z o) cs) (run_kept N z o range cs)
    (raw_always N z o cs))

-- "A policer that is not raw behaves octet for octet as before"
pub not_raw_as_before : NotRawAsBefore
not_raw_as_before N z a lent clean e cs =
    let fresh = setup_fresh N z a lent e in
    plain_before (run_of (setup N z a lent).state []) cs
    (ap (λ (s : State). s.ctl.raw) fresh.1 ∙ fresh_raw N z (chosen a) ∙ ap raw_number clean)

-- REQUEST (vi): VCs and paths never share a bucket, and a path's cells leave in arrival order
pub paths_hold : PathsHold
paths_hold =
    from_setup (λ N z kind r. Apart z kind r × PathOrder N z kind r.events)
    (λ N z kind r k. (apart N z kind r k, path_order N z kind r.events r.state k.inv))

-- with no path open the UNI is as it was
pub no_paths_as_before : NoPathsHold
no_paths_as_before N z a lent k e cs =
    after_setup (λ N z o r. kind_number o.kind ≡ uni → NoPaths z r) (λ N z o range cs k. no_paths N z o range k cs)
    N z a lent e cs ((setup_fresh N z a lent e).2 ∙ k)
