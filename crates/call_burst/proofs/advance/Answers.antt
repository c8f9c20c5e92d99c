-- `call_burst::advance` meets its contract. The invariant: the sizes that are left give, from here, what they give from where it began.
-- The measure is what is left of the sizes.
use mathlib.Core.Path.{◌∙◌}
use native.Mathlib.Omega.{arith}
use Rattle.call_burst.proofs.LikelyLaws.{rounded_held, rounded_rest}
use Rattle.call_burst.proofs.advance.Goals as goal

pub returns-then-stop-far : goal.returns-then-stop-far
returns-then-stop-far c =
    let at = c.runs in
    let a = c.args in
    let h = at.invariant.held in
    let e = c.rounded-w.ensures in
    record {
      held = rw e (rounded_held at.far.way at.cells at.links at.calendar at.words at.bits at.arrived h);
      far = (omega (arith, at.invariant.low, c.if-stop-far.true), omega (arith, at.invariant.most, c.if-stop-far.true));
      rest = rw (e, c.if-stop-far.true) (rounded_rest at.far.way at.cells at.links at.calendar at.words at.bits at.arrived h a.arrivals.now a.sizes.now at.departures at.answers at.far.i)
          ∙ at.invariant.rest;
    }

pub returns-then-far-stop : goal.returns-then-far-stop
returns-then-far-stop c =
    let at = c.runs in
    let a = c.args in
    let h = at.invariant.held in
    let far = c.stretch-far.ensures.far in
    let lot = c.run_end-stop.ensures in
    record {
      held = c.stretch-far.ensures.held;
      far = (omega (arith, at.invariant.low, far.0), omega (arith, far.1, lot.1));
      rest = c.stretch-far.ensures.rest
          ∙ rw c.rounded-w.ensures (rounded_rest at.far.way at.cells at.links at.calendar at.words at.bits at.arrived h a.arrivals.now a.sizes.now at.departures at.answers at.far.i)
          ∙ at.invariant.rest;
    }

pub runs-preserved : goal.runs-preserved
runs-preserved c =
    let at = c.runs in
    let a = c.args in
    let h = at.invariant.held in
    let far = c.stretch-far.ensures.far in
    let lot = c.run_end-stop.ensures in
    record {
      low = omega (arith, at.invariant.low, far.0);
      most = omega (arith, far.1, lot.1);
      held = c.stretch-far.ensures.held;
      rest = c.stretch-far.ensures.rest
          ∙ rw c.rounded-w.ensures (rounded_rest at.far.way at.cells at.links at.calendar at.words at.bits at.arrived h a.arrivals.now a.sizes.now at.departures at.answers at.far.i)
          ∙ at.invariant.rest;
    }
