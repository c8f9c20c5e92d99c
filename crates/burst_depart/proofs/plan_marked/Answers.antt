-- `burst_depart::plan_marked` meets its contract: entry T is the Output List, or has joined its end.
use Rattle.burst_depart.proofs.LeaveLaws.{left_fit}
use Rattle.burst_depart.proofs.PlanLaws.{low_in, left_count, alone_unlinked, joined_unlinked, joined_alone, joined_some, rest_alone, rest_joins}
use Rattle.burst_way.specs.Way.{slot_record}
use Rattle.mem_lists.specs.Spaces.{ends_of}
use Rattle.meaning.proofs.ListsLaws.{fit_head}
use borrow.Author.Tests.{eq-eqb, ne_eqb}
use native.Mathlib.Omega.{arith}
use lib.ListN.{length, set}
use mathlib.Core.Path.{refl}
use Rattle.burst_depart.proofs.plan_marked.Goals as goal

pub returns-then-w-eq65535 : goal.returns-then-w-eq65535
returns-then-w-eq65535 c =
    let a = c.args in
    let w = a.w in
    let links = a.links.now in
    let r = c.in_ok-r.r in
    let k = slot_record w in
    let entry = ends_of a.head a.tail in
    let l = left_count (length links) w.n links a.head a.tail r.next r.tail c.requires.1 c.in_ok-r.ensures in
    record {
      marked = refl;
      follows = rw (eq-eqb w.outhead 65535 c.if-w-eq65535.true) refl;
      space = joined_alone k entry c.if-w-eq65535.true;
      rest = rest_alone k entry links a.head a.tail r.next r.tail c.if-w-eq65535.true l;
      space_low = c.requires.3;
      left_fits = left_fit w.n links a.head a.tail r.next r.tail l c.requires.4;
    }

pub rest_joined-requires : goal.rest_joined-requires
rest_joined-requires c =
    let w = c.args.w in (
      low_in _ w.n _ (fit_head w.n (ends_of w.outhead w.outtail) c.requires.2 c.if-w-eq65535.false) c.requires.1,
      low_in _ w.n _ c.requires.3 c.requires.1,
    )

pub returns : goal.returns
returns c =
    let a = c.args in
    let w = a.w in
    let links = set a.links.now w.outtail a.head in
    let r = c.in_ok-r-2.r in
    let k = slot_record w in
    let entry = ends_of a.head a.tail in
    let l = left_count (length a.links.now) w.n links w.outhead a.tail r.next r.tail c.requires.1 c.in_ok-r-2.ensures in
    record {
      marked = refl;
      follows = rw (ne_eqb w.outhead 65535 c.if-w-eq65535.false) refl;
      space = joined_some k entry c.if-w-eq65535.false;
      rest = rest_joins k entry a.links.now w.outhead a.tail r.next r.tail c.if-w-eq65535.false l;
      space_low = fit_head w.n (ends_of w.outhead w.outtail) c.requires.2 c.if-w-eq65535.false;
      left_fits = left_fit w.n links w.outhead a.tail r.next r.tail l c.requires.4;
    }

pub returns-in_err-r : goal.returns-in_err-r
returns-in_err-r c =
    let a = c.args in
    rw c.from_residual.ensures
    (alone_unlinked (slot_record a.w) a.links.now (ends_of a.head a.tail) c.if-w-eq65535.true (λ e. omega (arith, e, c.requires.0, c.requires.3))
    c.in_err-r.ensures.0 (omega (arith, c.in_err-r.ensures.1, c.requires.1)))

pub returns-in_err-r-2 : goal.returns-in_err-r-2
returns-in_err-r-2 c =
    let a = c.args in
    rw c.from_residual-in_err-r-2.ensures
    (joined_unlinked (slot_record a.w) a.links.now (ends_of a.head a.tail) c.if-w-eq65535.false (λ e. omega (arith, e, c.requires.0, c.requires.3))
    (λ far. omega (arith, c.in_err-r-2.ensures far, c.requires.1)))
