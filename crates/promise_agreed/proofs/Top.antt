-- The engine equals the policer on every run: by induction over the calls, from the invariant of runs.
use Prim.Native.Nat.{ℕ, ◌≤◌}
use mathlib.Core.Path.{◌≡◌, refl, sym, ap, ◌∙◌, subst}
use mathlib.Core.Logic.{◌≢◌}
use mathlib.Core.Bool.{Bool, true, false, ◌&&◌}
use mathlib.Core.List.{List, [], ◌∷◌, map}
use mathlib.Core.Option.{none, some}
use native.Mathlib.Nat.{le_trans, le_refl}
use native.Mathlib.Omega.{arith}
use borrow.Author.Tests.{eq-eqb, ne_eqb}
use Rattle.meaning.specs.declared.Answer.{Answer}
use Rattle.meaning.specs.Plain.{when◌then◌else◌, ◌=?◌}
use Rattle.meaning.specs.Numbers.{slot_numbers}
use Rattle.meaning.specs.State.{State}
use Rattle.meaning.specs.Header.{Name, number_in}
use Rattle.meaning.specs.Words.{Second, without_second}
use Rattle.meaning.specs.Calls.{Asked, setup}
use Rattle.meaning.specs.Slot.{slot}
use Rattle.meaning_runs.specs.Run.{Call, on_open_with, on_close, on_slot, Event, opened, closed, ran, Run, run_of, call_at, call, calls, served}
use Rattle.meaning_runs.specs.Leak.{new_opening, opening_of}
use Rattle.theory_queues.specs.Queue.{All}
use Rattle.theory_invariant.proofs.RunLaws.{Kept, call_kept}
use Rattle.promises.proofs.Top.{from_setup}
use Rattle.call_time.specs.declared.Tat.{Tat}
use Rattle.call_time.specs.Asked.{not_started}
use Rattle.promise_agreed.specs.Agreed.{Watched, watch, engine_after, Agrees, Apart, AgreedAlways, AgreedOneConnection}
use Rattle.promise_agreed.proofs.HeaderLaws.{and_no}
use Rattle.promise_agreed.proofs.EventLaws.{Tied, not_served}
use Rattle.promise_agreed.proofs.SlotLaws.{went}

-- slots are only ever added
one_more : (h : List Event) (e : Event) → served h ≤ served (e ∷ h)
unfolding served
one_more h (opened who vci m F C x number) = omega arith
one_more h (closed who vci number) = omega arith
one_more h (ran cell a out) = omega arith

call_more : (r : Run) (c : Call) → served r.events ≤ served (call r c).events
unfolding call call_at slot
call_more r (on_open_with who name m F C x) = one_more r.events _
call_more r (on_close who name) = one_more r.events _
call_more r (on_slot cell) = one_more r.events _

calls_more : (r : Run) (cs : List Call) → served r.events ≤ served (calls r cs).events
unfolding calls
calls_more r [] = le_refl (served r.events)
calls_more r (c ∷ cs) = le_trans (call_more r c) (calls_more (call r c) cs)

-- a call that neither opens nor closes the connection leaves its opening
other_connection : (v vci number : ℕ) → vci ≢ v → (number =? 0 && vci =? v) ≡ false
other_connection v vci number n = rw (ne_eqb vci v n) (and_no (number =? 0))

-- ── one call ──
module _ (w : Watched) where
  pub record Together (r : Run) : Type 0 where
    pub kept : Kept w.N w.z w.kind r
    pub tied : Tied w r.events
    pub agrees : Agrees w r.events

  tied_open : (h : List Event) (who vci m F C : ℕ) (x : Second) (number : ℕ) → vci ≢ w.conn → Tied w h
      → Tied w (opened who vci m F C x number ∷ h)
  unfolding opening_of served engine_after
  tied_open h who vci m F C x number n k =
      record { previous = k.previous; sustained = k.sustained; is = rw (other_connection w.conn vci number n) k.is; state = k.state }

  tied_close : (h : List Event) (who vci number : ℕ) → vci ≢ w.conn → Tied w h → Tied w (closed who vci number ∷ h)
  unfolding opening_of served engine_after
  tied_close h who vci number n k =
      record { previous = k.previous; sustained = k.sustained; is = rw (other_connection w.conn vci number n) k.is; state = k.state }

  -- the number of the connection that a call names
  at_z : (r : Run) → Together r → (name : Name) → number_in w.z name ≡ number_in r.state.ctl.v name
  at_z r g name = ap (λ (v : ℕ). number_in v name) (sym g.kept.inv.stage.v_is)

  one_call : (r : Run) (c : Call) → Together r → Apart w.z w.conn c → served (call r c).events ≤ slot_numbers → Together (call r c)
  unfolding call call_at slot Agrees
  one_call r (on_open_with who name m F C x) g n low =
      record {
        kept = call_kept w.N w.z w.kind r (on_open_with who name m F C x) g.kept;
        tied = tied_open r.events who (number_in r.state.ctl.v name) m F C x _ (λ e. n (at_z r g name ∙ e)) g.tied;
        agrees = g.agrees;
      }
  one_call r (on_close who name) g n low =
      record {
        kept = call_kept w.N w.z w.kind r (on_close who name) g.kept;
        tied = tied_close r.events who (number_in r.state.ctl.v name) _ (λ e. n (at_z r g name ∙ e)) g.tied;
        agrees = g.agrees;
      }
  one_call r (on_slot cell) g n low =
      let x = went w r.events r.state g.kept.inv g.tied cell low in
      record {
        kept = call_kept w.N w.z w.kind r (on_slot cell) g.kept;
        tied = x.tied;
        agrees = (g.agrees, x.says);
      }

  pub all_calls_lem : (r : Run) (cs : List Call) → Together r → All (Apart w.z w.conn) cs
      → served (calls r cs).events ≤ slot_numbers → Together (calls r cs)
  unfolding calls
  all_calls_lem r [] g n low = g
  all_calls_lem r (c ∷ cs) g n low =
      all_calls_lem (call r c) cs (one_call r c g n.0 (le_trans (calls_more (call r c) cs) low)) n.1 low

-- ── before the first slot ──
-- no slot was served: the engine isn't started, and there is no cell to agree on
unserved : (h : List Event) (cell : List ℕ) (a : Answer) (out : List ℕ) → served (ran cell a out ∷ h) ≡ 0
    → (a.number ≢ 0) × (served h ≡ 0)
unfolding served
unserved h cell a out e = (λ n. omega (arith, first n), omega (arith, e))
  where
    first : a.number ≡ 0 → 1 ≤ 0
    first n = subst (λ (b : Bool). (when b then 1 else 0) ≤ 0) (eq-eqb a.number 0 n) (omega (arith, e))

asleep : (w : Watched) (h : List Event) → served h ≡ 0 → (engine_after w h ≡ not_started) × Agrees w h
unfolding engine_after Agrees served
asleep w [] e = (refl, tt)
asleep w (opened who vci m F C x number ∷ h) e = asleep w h e
asleep w (closed who vci number ∷ h) e = asleep w h e
asleep w (ran cell a out ∷ h) e =
    let u = unserved h cell a out e in
    let x = not_served w h cell a out u.0 in
    let k = asleep w h u.1 in (
      rw x k.0,
      (k.1, λ on. absurd (let y : ◌≡◌ {A = Bool} true false = sym on ∙ x in let z : ◌≡◌ {A = ℕ} 0 1 = cc in omega arith)),
    )

at_first : (w : Watched) (r : Run) → Kept w.N w.z w.kind r → served r.events ≡ 0
    → opening_of w.conn r.events ≡ some (new_opening w.m w.F w.C without_second) → Together w r
at_first w r k e o =
    record {
      kept = k;
      tied = record {
        previous = none;
        sustained = none;
        is = o;
        state = ap (λ (s : Tat). s.started) (asleep w r.events e).0;
      };
      agrees = (asleep w r.events e).1;
    }

kept_after : (N z : ℕ) (a : Asked) (lent : State)
    → (setup N z a lent).number ≡ 0
    → (cs : List Call) → Kept N z a.kind (calls (run_of (setup N z a lent).state []) cs)
kept_after = from_setup (λ N z kind r. Kept N z kind r) (λ N z kind r k. k)

-- REQUEST (v)
pub agreed : AgreedAlways
agreed N z a lent e before v m F C none-served is_open after apart low =
    let r = calls (run_of (setup N z a lent).state []) before in
    let w = watch N z a.kind v m F C in
    (all_calls_lem w r after
    (at_first w r (kept_after N z a lent e before) none-served is_open) apart low).agrees

-- and of one connection alone
only_slots : (z v : ℕ) (cells : List (List ℕ)) → All (Apart z v) (map on_slot cells)
only_slots z v [] = tt
only_slots z v (cell ∷ cells) = (tt, only_slots z v cells)

-- the number under which the first open is noted
open_noted : (N z : ℕ) (a : Asked) (lent : State)
    → (setup N z a lent).number ≡ 0
    → (name : Name) → number_in (setup N z a lent).state.ctl.v name ≡ number_in z name
unfolding calls
open_noted N z a lent e name =
    ap (λ (v : ℕ). number_in v name) (kept_after N z a lent e []).inv.stage.v_is

pub agreed_one_connection : AgreedOneConnection
unfolding call call_at slot calls served opening_of
agreed_one_connection N z a lent e who name m F C zero cells low =
    agreed N z a lent e (on_open_with who name m F C without_second ∷ []) (number_in z name) m F C refl
    (rw (
      eq-eqb _ 0 zero.0,
      eq-eqb (number_in (setup N z a lent).state.ctl.v name) (number_in z name)
          (open_noted N z a lent e name),
    ) refl)
    (map on_slot cells) (only_slots z (number_in z name) cells) low
