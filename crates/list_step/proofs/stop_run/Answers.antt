-- `list_step::stop_run` ends the run with the stop line of its place and the end line: one text after the other.
use Rattle.std.proofs.Common.{ap, arith}
use Rattle.list_lines.proofs.Puts.{put_then}
use Rattle.list_whole.specs.declared.Run.{Run}
use Rattle.list_whole.specs.Run.{world_of, ended}
use Rattle.list_step.proofs.stop_run.Goals as goal

pub returns : goal.returns
unfolding ended
returns c cells links calendar words bits arrived =
    let e = c.before.before.before in
    let l = e.before.before.before.before in
    record {
      world = ap (λ (x : Run). world_of x cells links calendar words bits arrived) c.over.ensures;
      put = put_then l.stop_line-line.ensures.put e.end_tally-end.ensures.put;
      few = omega (arith, l.stop_line-line.ensures.upper_bound, e.end_tally-end.ensures.upper_bound);
    }
