-- `slot_accept::departure::going_marked` meets its contract: the tests of what departs, one after the other.
use Rattle.std.specs.Prelude.{Option}
use mathlib.Core.Path.{sym, ◌∙◌, ap}
use mathlib.Core.Bool.{true, not}
use native.Mathlib.Omega.{arith}
use Rattle.meaning.specs.Plain.{◌=?◌}
use Rattle.meaning.specs.Numbers.{empty}
use Rattle.mem_lists.specs.declared.Off.{Off}
use Rattle.mem_lists.specs.Spaces.{ends_of}
use Rattle.slot_plan.proofs.Cases.{joined_low}
use Rattle.slot_accept.specs.Going.{going_marked, going_with}
use Rattle.slot_accept.proofs.GoingLaws.{then_space, with_none, with_held, with_goes}
use Rattle.slot_accept.proofs.departure.going_marked.Goals as goal

pub off_stored-requires : goal.off_stored-requires
off_stored-requires c =
    let pre = c.requires.may_go in
    record { n_le_most_n = (pre.0, pre.1, pre.2, pre.3, pre.4); tail_bound = joined_low c.args.k (ends_of c.args.head c.args.tail) pre.6 c.requires.head_lt_n }

pub returns-in_err-o : goal.returns-in_err-o
unfolding going_marked
returns-in_err-o c =
    let a = c.args in
    c.from_residual.ensures
    ∙ with_none a.bits.now a.a c.off_stored.result _ _ true c.in_err-o.was
    ∙ ap (λ (o : Option Off). going_with a.bits.now a.a o (not (a.k.outhead =? empty)) a.head true) c.off_stored.ensures

pub free_after-requires : goal.free_after-requires
free_after-requires c =
    let a = c.args in
    let pre = c.requires.may_go in
    let space = then_space a.k a.j a.a a.cells.now a.links.now a.words.now _ (ends_of a.head a.tail) _ (sym c.in_ok-o.was ∙ c.off_stored.ensures) in
    let low = joined_low a.k (ends_of a.head a.tail) pre.6 c.requires.head_lt_n in
    (pre.5, pre.8, omega (arith, space, low, pre.0))

pub returns-then-free_after : goal.returns-then-free_after
unfolding going_marked
returns-then-free_after c =
    let a = c.args in
    with_held a.bits.now a.a c.off_stored.result _ _ true _ c.in_ok-o.was (sym c.free_after.ensures ∙ c.if-free_after.true)
    ∙ ap (λ (o : Option Off). going_with a.bits.now a.a o (not (a.k.outhead =? empty)) a.head true) c.off_stored.ensures

pub returns : goal.returns
unfolding going_marked
returns c =
    let a = c.args in
    with_goes a.bits.now a.a c.off_stored.result _ _ true _ c.in_ok-o.was (sym c.free_after.ensures ∙ c.if-free_after.false)
    ∙ ap (λ (o : Option Off). going_with a.bits.now a.a o (not (a.k.outhead =? empty)) a.head true) c.off_stored.ensures
