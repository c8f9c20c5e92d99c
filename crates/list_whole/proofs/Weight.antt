-- A run ends: every step leads on in the trace, or takes a slot off a pause, or ends it, so a weight falls.
use Prim.Native.Nat.{ℕ, zero, suc, ◌+◌, ◌-◌, ◌*◌, ◌≤◌, ◌<◌}
use mathlib.Core.Path.{◌≡◌, refl, sym, ap, subst, ◌∙◌}
use mathlib.Core.Bool.{Bool, true, false}
use mathlib.Core.Logic.{◌⊎◌, inl, inr, ⊎_elim}
use mathlib.Core.List.{List, []}
use native.Mathlib.Omega.{arith}
use lib.Dec.{ltb}
use lib.ListN.{length}
use Rattle.meaning.specs.Plain.{when◌then◌else◌}
use Rattle.trace_record.specs.Trace.{TraceRecord, GM, VO, VX, CA, SL, VS, PO, PX, Stands, event, finish, refusal, stands_at}
use Rattle.trace_record.specs.Fits.{Fits, stands_fits}
use Rattle.list_meaning.specs.Trace.{serve}
use Rattle.list_whole.specs.Run.{World, called, paused, ended, record_step, stands_step, step, after}
use Rattle.list_whole.specs.Fill.{Advanced}
use Rattle.list_whole.proofs.Within.{within}
use Rattle.list_whole.proofs.Ran.{sided, step_idle, step_read}

-- what is left to do, of a trace of so many octets: a record leads on by at least an octet, and a pause has fewer than
-- 65,536 slots
unfoldable pub weight : ℕ → World → ℕ
weight long w = when w.done then 0 else 1 + w.left + (long - w.at) * 65_536

abbrev pub OnwardOn : ℕ → World → World → Type 0
OnwardOn long w w' = ((w.at < w'.at) × (w'.at ≤ long)) ⊎ ((w'.at ≡ w.at) × (w'.left < w.left))

abbrev pub Onward : ℕ → World → World → Type 0
Onward long w w' = (w'.done ≡ true) ⊎ OnwardOn long w w'

weight_most : (long : ℕ) (w : World) (b : Bool) → w.done ≡ b → weight long w ≤ 1 + w.left + (long - w.at) * 65_536
unfolding weight
weight_most long w true e = rw e (omega arith)
weight_most long w false e = rw e (omega arith)

weight_on : (long : ℕ) (w : World) → w.done ≡ false → weight long w ≡ 1 + w.left + (long - w.at) * 65_536
unfolding weight
weight_on long w e = rw e

weight_done : (long : ℕ) (w : World) → w.done ≡ true → weight long w ≡ 0
unfolding weight
weight_done long w e = rw e

pub weight_falls : (long : ℕ) (w w' : World) → w.done ≡ false → w'.left ≤ 65_535 → Onward long w w'
    → weight long w' < weight long w
weight_falls long w w' d l (inl e) = omega (arith, weight_done long w' e, weight_on long w d)
weight_falls long w w' d l (inr (inl h)) = omega (arith, weight_most long w' w'.done refl, weight_on long w d, h.0, h.1)
weight_falls long w w' d l (inr (inr h)) =
    let e : (long - w'.at) * 65_536 ≡ (long - w.at) * 65_536 = ap (λ (x : ℕ). (long - x) * 65_536) h.0 in
    omega (arith, weight_most long w' w'.done refl, weight_on long w d, e, h.1)

module _ (more : Bool) (trace : List ℕ) where
  record_onward : (w : World) (r : TraceRecord) (next : ℕ) → (w.at < next) × (next ≤ length trace)
      → Onward (length trace) w (record_step trace w r next).world
  unfolding record_step called paused
  record_onward w (GM N z head) next h = inr (inl h)
  record_onward w (VO vci m F C) next h = inr (inl h)
  record_onward w (VX vci) next h = inr (inl h)
  record_onward w (CA start) next h = inr (inl h)
  record_onward w (SL count) next h = inr (inl h)
  record_onward w (VS vci m F C x) next h = inr (inl h)
  record_onward w (PO vpi m F C) next h = inr (inl h)
  record_onward w (PX vpi) next h = inr (inl h)

  stands_onward : (w : World) (s : Stands) → Fits trace w.at s → Onward (length trace) w (stands_step more trace w s).world
  unfolding stands_step ended
  stands_onward w (event r next) h =
      let i = within trace w.at r next h in
      record_onward w r next (i.0, i.1)
  stands_onward w finish h = inl refl
  stands_onward w (refusal number place) h = inl refl

  idle_onward : (w : World) → 0 < w.left → Onward (length trace) w (called w (serve []) w.at (w.left - 1)).world
  unfolding called
  idle_onward w l = inr (inr (refl, omega arith))

  pub step_onward : (w : World) → w.done ≡ false → Onward (length trace) w (step more trace w).world
  step_onward w d =
      ⊎_elim
      (λ (l : 0 < w.left). rw (step_idle more trace w d l) (idle_onward w l))
      (λ (l : w.left ≤ 0). rw (step_read more trace w d (omega arith)) (stands_onward w (stands_at trace w.at) (stands_fits trace w.at)))
      (sided 0 w.left (ltb 0 w.left) refl)

-- two that lead on, one after the other
on_on : (long : ℕ) (w w' w'' : World) → OnwardOn long w w' → OnwardOn long w' w'' → OnwardOn long w w''
on_on long w w' w'' (inl a) (inl b) = inl (omega (arith, a.0, b.0), b.1)
on_on long w w' w'' (inl a) (inr b) = inl (omega (arith, a.0, b.0), omega (arith, a.1, b.0))
on_on long w w' w'' (inr a) (inl b) = inl (omega (arith, a.0, b.0), b.1)
on_on long w w' w'' (inr a) (inr b) = inr (omega (arith, a.0, b.0), omega (arith, a.1, b.1))

pub not_both : {b : Bool} → b ≡ true → b ≡ false → ⊥
not_both e d = let f : true ≡ false = sym e ∙ d in let z : ◌≡◌ {A = ℕ} 0 1 = cc in omega arith

onward_then : (long : ℕ) (w w' w'' : World) → w'.done ≡ false → Onward long w w' → Onward long w' w'' → Onward long w w''
onward_then long w w' w'' d a b =
    ⊎_elim
    (λ (e : w''.done ≡ true). inl e)
    (λ (y : OnwardOn long w' w''). ⊎_elim (λ (e : w'.done ≡ true). absurd (not_both e d)) (λ (x : OnwardOn long w w'). inr (on_on long w w' w'' x y)) a)
    b

-- some steps, none of them from a run that is done
pub steps_onward : (more : Bool) (trace : List ℕ) (w : World) (k : ℕ) → 0 < k
    → ((j : ℕ) → j < k → (after more trace j w).done ≡ false)
    → Onward (length trace) w (after more trace k w)
unfolding after
steps_onward more trace w zero h g = absurd (omega arith)
steps_onward more trace w (suc zero) h g = step_onward more trace w (g 0 (omega arith))
steps_onward more trace w (suc (suc k)) h g =
    let d = g (suc k) (omega arith) in
    onward_then (length trace) w (after more trace (suc k) w) (step more trace (after more trace (suc k) w)).world d
    (steps_onward more trace w (suc k) (omega arith) (λ j l. g j (omega arith)))
    (step_onward more trace (after more trace (suc k) w) d)

pub advanced_onward : (more : Bool) (trace : List ℕ) (w : World) (out : List ℕ) (used : ℕ) (w' : World) (out' : List ℕ) (used' : ℕ)
    → Advanced more trace w out used w' out' used' → Onward (length trace) w w'
advanced_onward more trace w out used w' out' used' a =
    subst (λ (x : World). Onward (length trace) w x) (sym a.ran.here)
    (steps_onward more trace w a.steps a.some (λ j h. (a.ran.before j h).0))
