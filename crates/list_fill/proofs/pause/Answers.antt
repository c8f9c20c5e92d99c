-- `list_fill::pause` makes count slots of a pause: after i turns, i steps. The measure is what is left of count.
use Prim.Native.Nat.{◌+◌, ◌-◌, ◌≤◌, ◌<◌}
use mathlib.Core.Path.{◌≡◌, sym, ap}
use native.Mathlib.Omega.{arith}
use borrow.Author.Rules.{rules}
use lib.ListN.{length}
use Rattle.list_meaning.specs.Listing.{ends_run}
use Rattle.list_whole.specs.Run.{World, called}
use Rattle.list_whole.specs.Lent.{world_in}
use Rattle.list_whole.proofs.Same.{same_memory, same_then}
use Rattle.list_whole.specs.Fill.{room}
use Rattle.list_step.proofs.Step.{did_is}
use Rattle.list_whole.proofs.Ran.{step_idle, ran_none, ran_one, ran_then}
use Rattle.list_fill.proofs.pause.Goals as goal

pub loop-init : goal.loop-init
loop-init c = record {
  ran = λ more. ran_none more _ _ _ _;
  few = search rules;
  left = search rules;
  going = c.requires.count_le_left.1;
  same = same_memory _;
}

pub overflow_sub-now : goal.overflow_sub-now
overflow_sub-now c = omega (arith, c.loop.invariant.left, c.requires.count_le_left.0)

pub serve_with-f-requires : goal.serve_with-f-requires
serve_with-f-requires c = omega (arith, c.loop.invariant.few, c.requires.count_in_bounds, c.loop.auto.out)

pub loop-preserved : goal.loop-preserved
unfolding called ends_run
loop-preserved c =
    let f = c.serve_with-f in
    let h = c.loop in
    let inv = h.invariant in
    let w = world_in h.now h.memory in
    let left : f.result.run.left ≡ h.now.left - 1 = ap (λ (x : World). x.left) f.ensures.did.world in
    let some : 0 < h.now.left = omega (arith, inv.left, c.requires.count_le_left.0) in
    let fits : h.end + room ≤ length h.out = omega (arith, inv.few, c.requires.count_in_bounds, h.auto.out) in record {
      ran = λ more. ran_then more _ h.counter 1 _ w _ _ h.out _ _ h.end _ h.auto.out (inv.ran more)
          (ran_one more _ w _ h.out _ h.end _ 64 inv.going fits
          (did_is (sym (step_idle more _ w inv.going some)) f.ensures.did));
      few = omega (arith, inv.few, f.ensures.did.few);
      left = omega (arith, left, inv.left, some);
      going = ap (λ (x : World). x.done) f.ensures.did.world;
      same = same_then inv.same f.ensures.same;
    }

pub returns : goal.returns
returns c =
    let inv = c.loop.invariant in
    let e : c.loop.counter ≡ c.args.count = omega arith in
    record { ran_lent = λ more. rw (← e) (inv.ran more); same = inv.same; used_bound = omega (arith, e, inv.few) }
