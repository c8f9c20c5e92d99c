-- `list_step::end_run` ends the run with the end line, by `end_tally`'s promise.
use Rattle.std.proofs.Common.{ap, arith}
use Rattle.list_whole.specs.declared.Run.{Run}
use Rattle.list_whole.specs.Run.{world_of, ended}
use Rattle.list_step.proofs.end_run.Goals as goal

pub returns : goal.returns
unfolding ended
returns c cells links calendar words bits arrived =
    let e = c.end_tally-end in
    record {
      world = ap (λ (x : Run). world_of x cells links calendar words bits arrived) c.over.ensures;
      put = e.ensures.put;
      few = omega (arith, e.ensures.upper_bound);
    }
