-- `burst_depart::plan_unmarked` meets its contract: the Output List's head departs, where there is one.
use Rattle.burst_depart.proofs.LeaveLaws.{left_fit}
use Rattle.burst_depart.proofs.PlanLaws.{low_in, left_count}
use Rattle.mem_lists.specs.Spaces.{ends_of}
use Rattle.meaning.proofs.ListsLaws.{fit_head, fit_tail}
use lib.ListN.{length}
use mathlib.Core.Path.{refl}
use Rattle.burst_depart.proofs.plan_unmarked.Goals as goal

pub rest_of-requires : goal.rest_of-requires
rest_of-requires c =
    let w = c.args.w in
    low_in _ w.n _ (fit_head w.n (ends_of w.outhead w.outtail) c.requires.2 c.if-w-eq65535.false) c.requires.1

pub returns : goal.returns
returns c =
    let w = c.args.w in
    let links = c.args.links.now in
    let r = c.in_ok-r.r in
    let ends = ends_of w.outhead w.outtail in
    let l = left_count (length links) w.n links w.outhead w.outtail r.next r.tail c.requires.1 c.in_ok-r.ensures in
    record {
      some = c.if-w-eq65535.false;
      space = refl;
      rest = l;
      marked = refl;
      follows = refl;
      space_low = fit_head w.n ends c.requires.2 c.if-w-eq65535.false;
      left_fits = left_fit w.n links w.outhead w.outtail r.next r.tail l (fit_tail w.n ends c.requires.2 c.if-w-eq65535.false);
    }
