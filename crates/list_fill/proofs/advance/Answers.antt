-- `list_fill::advance` makes some steps: slots of a pause, as many as surely fit, or one step of another kind.
use mathlib.Core.Path.{◌≡◌, sym}
use native.Mathlib.Omega.{arith}
use Rattle.list_whole.specs.Lent.{world_in}
use Rattle.list_whole.specs.Fill.{room}
use Rattle.list_step.proofs.Step.{did_is}
use Rattle.list_whole.proofs.Ran.{step_read, ran_one}
use Rattle.list_fill.proofs.advance.Goals as goal

pub pause-requires : goal.pause-requires
pause-requires c =
    record { count_le_left = (omega arith, c.requires.room_in_bounds.1); count_in_bounds = omega (arith, c.requires.room_in_bounds.0) }

pub returns-then-run-gt0 : goal.returns-then-run-gt0
returns-then-run-gt0 c =
    let p = c.pause.ensures in
    let room_in = c.requires.room_in_bounds.0 in
    record {
      advanced = record {
        steps = c.min-count.result;
        some = omega arith;
        ran = p.ran_lent _;
        within = omega arith;
      };
      same = p.same;
    }

pub returns-else-run-gt0 : goal.returns-else-run-gt0
returns-else-run-gt0 c =
    let o = c.one_with.ensures in
    let w = world_in c.args.run c.args.memory.now in
    let e : c.args.run.left ≡ 0 = omega (arith, c.if-run-gt0.false) in
    record {
      advanced = record {
        steps = 1;
        some = omega arith;
        ran = ran_one _ _ w _ _ _ _ _ room c.requires.room_in_bounds.1 c.requires.room_in_bounds.0 (did_is (sym (step_read _ _ w c.requires.room_in_bounds.1 e)) o.did);
        within = omega (arith, o.did.few, c.requires.room_in_bounds.0);
      };
      same = o.same;
    }
