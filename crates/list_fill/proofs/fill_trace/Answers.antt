-- `list_fill::fill_trace` makes steps while there is room: the invariant is the steps so far, the measure the run's weight.
use Prim.Native.Nat.{◌+◌}
use mathlib.Core.Logic.{inl, inr}
use native.Mathlib.Omega.{arith}
use borrow.Author.Rules.{rules}
use Rattle.list_whole.specs.Lent.{world_in}
use Rattle.list_whole.proofs.Same.{same_memory, same_then}
use Rattle.list_whole.proofs.Ran.{ran_none, ran_then}
use Rattle.list_whole.proofs.Weight.{weight_falls, advanced_onward}
use Rattle.list_fill.proofs.fill_trace.Goals as goal

pub loop-out-init : goal.loop-out-init
loop-out-init c = record { steps = 0; ran = ran_none _ _ _ _ _; within = search rules; same = same_memory _ }

pub returns-then-now : goal.returns-then-now
returns-then-now c =
    let h = c.loop-out.invariant in
    record { fill = record { steps = h.steps; ran = h.ran; full = inl c.if-now.true; within = h.within }; same = h.same }

pub advance-f-requires : goal.advance-f-requires
advance-f-requires c =
    let h = c.loop-out in
    record { room_in_bounds = (omega (arith, c.loop-out-test.true, h.invariant.within, h.auto.out), c.if-now.false); trace_len_bound = c.requires }

pub loop-out-smaller : goal.loop-out-smaller
loop-out-smaller c =
    let h = c.loop-out in
    weight_falls _ (world_in h.now h.memory) _ c.if-now.false (omega arith) (advanced_onward _ _ _ _ _ _ _ _ c.advance-f.ensures.advanced)

pub loop-out-preserved : goal.loop-out-preserved
loop-out-preserved c =
    let a = c.advance-f.ensures in
    let h = c.loop-out in
    let i = h.invariant in
    record {
      steps = i.steps + a.advanced.steps;
      ran = ran_then _ _ _ _ _ _ _ _ h.out _ _ h.used _ h.auto.out i.ran a.advanced.ran;
      within = omega (arith, a.advanced.within, h.auto.out);
      same = same_then i.same a.same;
    }

pub returns : goal.returns
returns c =
    let h = c.loop-out in
    record {
      fill = record {
        steps = h.invariant.steps;
        ran = h.invariant.ran;
        full = inr (omega (arith, c.loop-out-test.false, h.invariant.within, h.auto.out));
        within = h.invariant.within;
      };
      same = h.invariant.same;
    }
