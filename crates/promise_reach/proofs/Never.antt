-- NO TRACE REACHES A REFUSED SLOT: what the calls of a trace leave is what a run from a fresh state leaves, and there
-- a slot that is lent none or 53 octets is served, raw or not, on either kind of line.
use Prim.Native.Nat.{ℕ, ◌+◌, ◌<◌}
use mathlib.Core.Path.{◌≡◌, refl, sym, ap, ◌∙◌}
use mathlib.Core.Bool.{Bool, true, false, not, ◌||◌}
use mathlib.Core.List.{List, [], ◌∷◌, ◌++◌}
use native.Mathlib.Omega.{arith}
use borrow.Author.Tests.{eqb-true}
use lib.ListN.{length, take}
use Rattle.meaning.specs.Plain.{◌=?◌}
use Rattle.meaning.specs.Numbers.{octets}
use Rattle.meaning.specs.State.{State}
use Rattle.meaning.specs.Operators.{second_operator}
use Rattle.meaning.specs.Calls.{Asked, Options, asked_for, setup}
use Rattle.meaning.specs.Slot.{slot}
use Rattle.meaning_runs.specs.Run as runs
use Rattle.promises.proofs.Top.{header_check}
use Rattle.trace_record.specs.Trace.{GM, VO, VX, CA, SL, VS, PO, PX, head_options, Stands, event, finish, refusal, stands_at}
use Rattle.trace_record.specs.Fits.{Fits, stands_fits}
use Rattle.list_meaning.specs.Trace.{Call, set_up, open_connection, close_connection, serve, Calls, finished, stopped, call, record_calls, calls_at, calls_from, calls_of, limit, goes_further}
use Rattle.list_meaning.specs.Listing.{state_after, ends_run, lent_for}
use Rattle.promise_reach.specs.Served.{AllServe, EverySlotServed}
use Rattle.promise_reach.proofs.Later.{Later, calls_later}

calls_then : (r : runs.Run) (cs : List runs.Call) (c : runs.Call) → runs.calls r (cs ++ (c ∷ [])) ≡ runs.call (runs.calls r cs) c
unfolding runs.calls
calls_then r [] c = refl
calls_then r (d ∷ cs) c = calls_then (runs.call r d) cs c

module _ (N z : ℕ) (a : Asked) (lent : State)
    (done : (setup N z a lent).number ≡ 0) where
  run : List runs.Call → runs.Run
  run cs = runs.calls (runs.run_of (setup N z a lent).state []) cs

  run_then : (cs : List runs.Call) (c : runs.Call) → run (cs ++ (c ∷ [])) ≡ runs.call (run cs) c
  unfolding run
  run_then cs c = calls_then _ cs c

  -- a slot from where a run stands is served
  slot_served : (pre : List runs.Call) (cell : List ℕ) → length cell =? 0 || length cell =? octets ≡ true
      → (slot (run pre).state cell).answer.number ≡ 0
  unfolding run
  slot_served pre cell l = (header_check N z a lent done pre).serves cell l

  -- the same call of a run
  same : (pre : List runs.Call) (s : State) (c : Call) (d : runs.Call) → s ≡ (run pre).state
      → state_after s c ≡ (runs.call (run pre) d).state → state_after s c ≡ (run (pre ++ (d ∷ []))).state
  same pre s c d e q = q ∙ sym (ap (λ (r : runs.Run). r.state) (run_then pre d))

  all_served : (cs : Calls) (pre : List runs.Call) (s : State) → s ≡ (run pre).state → Later cs → AllServe s cs
  unfolding state_after runs.call runs.call_at slot
  all_served finished pre s e l = omega arith
  all_served (stopped place) pre s e l = omega arith
  all_served (call (set_up N' z' o) rest) pre s e l = absurd l.0
  all_served (call (open_connection name m F C x) rest) pre s e l = (
    omega arith,
    λ _. all_served rest (pre ++ (runs.on_open_with second_operator name m F C x ∷ [])) _
        (same pre s (open_connection name m F C x) (runs.on_open_with second_operator name m F C x) e (ap (λ (st : State). state_after st (open_connection name m F C x)) e))
        l.1,
  )
  all_served (call (close_connection name) rest) pre s e l = (
    omega arith,
    λ _. all_served rest (pre ++ (runs.on_close second_operator name ∷ [])) _
        (same pre s (close_connection name) (runs.on_close second_operator name) e (ap (λ (x : State). state_after x (close_connection name)) e)) l.1,
  )
  all_served (call (serve cell) rest) pre s e l = (
    ap (λ (x : State). (slot x cell).answer.number) e ∙ slot_served pre cell l.0,
    λ _. all_served rest (pre ++ (runs.on_slot cell ∷ [])) _
        (same pre s (serve cell) (runs.on_slot cell) e (ap (λ (x : State). state_after x (serve cell)) e)) l.1,
  )

not_not : (b : Bool) → not b ≡ false → b ≡ true
not_not true e = refl
not_not false e = sym e

-- a setup first, then no other
first_served : (s : State) (N z : ℕ) (o : Options) (rest : Calls) → Later rest → AllServe s (call (set_up N z o) rest)
unfolding ends_run state_after runs.calls run
first_served s N z o rest l = (
  omega arith,
  λ e. all_served N z (asked_for o) s (eqb-true _ 0 (not_not _ e)) rest [] _ refl l,
)

stands_served : (more : Bool) (trace : List ℕ) (go : ℕ → Calls) (s : Stands) → Fits trace 0 s → ((next : ℕ) → 0 < next → Later (go next))
    → AllServe (lent_for (calls_at more trace go 0 s)) (calls_at more trace go 0 s)
unfolding calls_at record_calls
stands_served more trace go (event (GM N z head) next) f g = first_served _ N z (head_options head) (go next) (g next (omega (arith, f.0)))
stands_served more trace go (event (VO vci m F C) next) f g = absurd (omega (arith, f.2))
stands_served more trace go (event (VS vci m F C x) next) f g = absurd (omega (arith, f.2))
stands_served more trace go (event (VX vci) next) f g = absurd (omega (arith, f.2))
stands_served more trace go (event (PO vpi m F C) next) f g = absurd (omega (arith, f.2))
stands_served more trace go (event (PX vpi) next) f g = absurd (omega (arith, f.2))
stands_served more trace go (event (CA start) next) f g = absurd (omega (arith, f.2.0))
stands_served more trace go (event (SL count) next) f g = absurd (omega (arith, f.2.0))
stands_served more trace go finish f g = absurd (omega (arith, f.0))
stands_served more trace go (refusal number place) f g = omega arith

pub every_slot_served : EverySlotServed
unfolding calls_of calls_from
every_slot_served input =
    let trace = take limit input in
    let more = goes_further input in
    stands_served more trace (calls_from limit more trace) (stands_at trace 0) (stands_fits trace 0)
    (λ next h. calls_later limit more trace next h)
