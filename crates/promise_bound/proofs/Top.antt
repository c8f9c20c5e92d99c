-- REQUEST (xiii), of every run from a fresh state: demand 3 holds of it, each open that answered 0 kept to the rules, each
-- accepted cell's connection was open, and at most one cell leaves in a slot.
use Prim.Native.Nat.{ℕ, ◌^◌, ◌≤◌}
use mathlib.Core.Path.{◌≡◌, refl, sym, subst₂}
use mathlib.Core.Bool.{Bool, true, false, not}
use mathlib.Core.List.{List, [], ◌∷◌}
use native.Mathlib.Omega.{arith}
use borrow.Author.Tests.{eqb-false}
use Rattle.meaning.specs.declared.Record.{Record}
use Rattle.meaning.specs.Plain.{when◌then◌else◌, ◌=?◌}
use Rattle.meaning.specs.State.{State}
use Rattle.meaning.specs.Bucket.{bucket_of, obeys_rules}
use Rattle.meaning.specs.Header.{Name, number_in}
use Rattle.meaning.specs.Words.{Second, connection_at, write_connection, second_obeys, opened_connection}
use Rattle.meaning.specs.Calls.{Asked, chosen, called_of, shared_refusal, setup, open_call}
use Rattle.meaning.specs.Slot.{slot}
use Rattle.meaning_runs.specs.Run.{Call, on_open_with, on_close, on_slot, Run, run_of, call_at, call, calls, fresh_run}
use Rattle.theory_table.proofs.LeakLaws.{rules_are}
use Rattle.theory_invariant.proofs.FreshLaws.{setup_fresh}
use Rattle.theory_invariant.proofs.RunLaws.{Kept, calls_kept, run_kept}
use Rattle.promises.proofs.Top.{demand3}
use Rattle.promise_bound.specs.Bound.{BoundHolds}
use Rattle.promise_bound.proofs.AcceptedLaws.{calls_open}
use Rattle.promise_bound.proofs.EveryLaws.{every}
use Rattle.promise_bound.proofs.BoundLaws.{OpensObey, bounded}
use Rattle.promise_bound.proofs.LineLaws.{whole_line}

-- an open that answers 0
opens_by : (k : ℕ) (b c d : Bool) (words after : List ℕ)
    → (when not (k =? 0) then called_of k words else when b then called_of 5 words else when not c then called_of 6 words
    else when not d then called_of 11 words else called_of 0 after).number ≡ 0
    → c ≡ true
opens_by k b c d words after = go (k =? 0) refl b c
  where
    go : (a : Bool) → k =? 0 ≡ a → (b c : Bool)
        → (when not a then called_of k words else when b then called_of 5 words else when not c then called_of 6 words
        else when not d then called_of 11 words else called_of 0 after).number ≡ 0
        → c ≡ true
    go false e b c n = absurd (eqb-false k 0 e n)
    go true e true c n = absurd (omega (arith, n))
    go true e false false n = absurd (omega (arith, n))
    go true e false true n = refl

opens : (r : Record) (words : List ℕ) (who : ℕ) (name : Name) (m F C : ℕ) (x : Second) → (open_call r words who name m F C x).number ≡ 0 → 2 ^ m ≤ F
unfolding open_call
opens r words who name m F C x e =
    let v = number_in r.v name in
    (rules_are r.n (bucket_of m F C 0)
    (opens_by (shared_refusal r words who name) ((connection_at words v).opened =? 1) (obeys_rules r.n (bucket_of m F C 0))
    (second_obeys (bucket_of x.m x.F x.C 0) x.tag) words (write_connection words v (opened_connection r.t (bucket_of m F C 0) x)) e)).F_low

call_obey : (r : Run) (c : Call) → OpensObey r.events → OpensObey (call r c).events
unfolding call call_at slot
call_obey r (on_open_with who name m F C x) o = (opens r.state.ctl r.state.words who name m F C x, o)
call_obey r (on_close who name) o = o
call_obey r (on_slot cell) o = o

calls_obey : (r : Run) (cs : List Call) → OpensObey r.events → OpensObey (calls r cs).events
unfolding calls
calls_obey r [] o = o
calls_obey r (c ∷ cs) o = calls_obey (call r c) cs (call_obey r c o)

-- after a setup that answered 0 the invariant of runs holds
starts : (N z : ℕ) (a : Asked) (lent : State) → (setup N z a lent).number ≡ 0
    → Kept N z a.kind (run_of (setup N z a lent).state [])
unfolding fresh_run calls
starts N z a lent e =
    let fresh = setup_fresh N z a lent e in
    let o = chosen a in
    subst₂ (λ (k : ℕ) (s : State). Kept N z k (run_of s [])) fresh.2 (sym fresh.1) (run_kept N z o fresh.0 [])

pub bound : BoundHolds
bound N z a lent e cs =
    let start = run_of (setup N z a lent).state [] in
    let kept = starts N z a lent e in
    let r = calls start cs in
    bounded N z a.kind r.events r.state kept.inv.stage.ranges.N_low (calls_obey start cs tt)
    (whole_line N z a.kind r.events r.state (calls_kept N z a.kind start cs kept).inv)
    (λ v k low. every v r.events (calls_open N z a.kind start cs kept tt) k low)
    (demand3 N z a lent e cs)
