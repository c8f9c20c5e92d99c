-- `call_burst::run` meets its contract. The invariant: the sizes that are left give, from here, what all sizes give from the start.
-- The measure is what is left of the sizes.
use Prim.Native.Nat.{ℕ, ◌<◌}
use native.Mathlib.Omega.{arith}
use mathlib.Core.Path.{refl, ◌∙◌, ap}
use lib.ListN.{length}
use Rattle.call_burst.specs.Burst.{stretch_of}
use Rattle.call_burst.proofs.TurnLaws.{slots_stop}
use Rattle.call_burst.proofs.Loop.{reached, turn_counted, turn_kept, turn_on, still_shaped, slots_end}
use Rattle.call_burst.proofs.run.Goals as goal

pub loop-end-init : goal.loop-end-init
loop-end-init c = record { going = refl; low = omega arith; shaped = c.requires.shaped; rest = refl }

pub returns-then-i-sizes : goal.returns-then-i-sizes
returns-then-i-sizes c =
    let at = c.loop-end in
    let a = c.args in
    let far = c.try_likely-i in
    let b = reached (record { ctl = far.result.0; number = 0; done = far.result.1 }) _ _ _ _ _ _ _ _ in
    slots_end a.arrivals.now a.sizes.now b (omega (arith, c.if-i-sizes.true))
    ∙ far.ensures.rest
    ∙ at.invariant.rest

pub returns-then-end-ne0 : goal.returns-then-end-ne0
returns-then-end-ne0 c =
    let at = c.loop-end in
    let a = c.args in
    let far = c.try_likely-i in
    let b = reached (record { ctl = far.result.0; number = 0; done = far.result.1 }) _ _ _ _ _ _ _ _ in
    slots_stop a.arrivals.now a.sizes.now far.result.1 (omega (arith, far.ensures.far.1, c.if-i-sizes.false)) b _ c.turn-end.ensures c.if-end-ne0.true
    ∙ far.ensures.rest
    ∙ at.invariant.rest

pub loop-end-smaller : goal.loop-end-smaller
loop-end-smaller c =
    let a = c.args in
    let far = c.try_likely-i in
    let low : far.result.1 < length a.sizes.now = omega (arith, far.ensures.far.1, c.if-i-sizes.false) in
    let b = reached (record { ctl = far.result.0; number = 0; done = far.result.1 }) _ _ _ _ _ _ _ _ in
    let more = turn_counted a.arrivals.now a.sizes.now b low _ _ _ _ _ c.turn-end.ensures c.if-end-ne0.false in
    omega (arith, c.loop-end-test.true, far.ensures.far.0, more)

pub loop-end-preserved : goal.loop-end-preserved
loop-end-preserved c =
    let at = c.loop-end in
    let a = c.args in
    let far = c.try_likely-i in
    let low : far.result.1 < length a.sizes.now = omega (arith, far.ensures.far.1, c.if-i-sizes.false) in
    let b = reached (record { ctl = far.result.0; number = 0; done = far.result.1 }) _ _ _ _ _ _ _ _ in
    let e = c.turn-end.ensures in
    let more = turn_counted a.arrivals.now a.sizes.now b low _ _ _ _ _ e c.if-end-ne0.false in
    record {
      going = c.if-end-ne0.false;
      low = omega (arith, more, low);
      shaped = still_shaped _ _ _ _ _ _ _ _ _ _ _ _ _ _ far.ensures.shaped (turn_kept _ _ b _ _ _ _ _ e) (omega arith) (omega arith) (omega arith) (omega arith) (omega arith) (omega arith);
      rest = turn_on a.arrivals.now a.sizes.now b low _ _ _ _ _ e c.if-end-ne0.false ∙ far.ensures.rest ∙ at.invariant.rest;
    }

pub returns : goal.returns
returns c =
    let at = c.loop-end in
    let a = c.args in
    let b = reached at.end at.cells at.links at.calendar at.words at.bits at.arrived at.departures at.answers in
    ap (λ (k : ℕ). stretch_of b.state b.departures b.answers k b.done) at.invariant.going ∙ slots_end a.arrivals.now a.sizes.now b c.loop-end-test.false ∙ at.invariant.rest
