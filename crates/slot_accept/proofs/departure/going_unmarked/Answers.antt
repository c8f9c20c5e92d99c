-- `slot_accept::departure::going_unmarked` meets its contract: the tests of what departs, one after the other.
use Rattle.std.specs.Prelude.{Option}
use mathlib.Core.Path.{◌≡◌, sym, ◌∙◌, ap}
use mathlib.Core.Bool.{false}
use native.Mathlib.Omega.{arith}
use borrow.Author.Tests.{eq-eqb, ne_eqb}
use Rattle.meaning.proofs.ListsLaws.{fit_head}
use Rattle.mem_lists.specs.declared.Off.{Off}
use Rattle.mem_lists.specs.Spaces.{ends_of}
use Rattle.slot_plan.specs.Plan.{joined_head}
use Rattle.slot_accept.specs.Going.{going_unmarked, going_with}
use Rattle.slot_accept.proofs.GoingLaws.{then_space, with_none, with_held, with_goes}
use Rattle.slot_accept.proofs.departure.going_unmarked.Goals as goal

pub returns-then-k-eq65535 : goal.returns-then-k-eq65535
unfolding going_unmarked
returns-then-k-eq65535 c =
    simp (eq-eqb _ _ c.if-k-eq65535.true)

pub off_stored-requires : goal.off_stored-requires
unfolding joined_head
off_stored-requires c =
    let pre = c.requires in
    record { n_le_most_n = (pre.0, pre.1, pre.2, pre.3, pre.4); tail_bound = simp (ne_eqb _ _ c.if-k-eq65535.false) (fit_head _ _ pre.6 c.if-k-eq65535.false) }

pub returns-in_err-o : goal.returns-in_err-o
unfolding going_unmarked
returns-in_err-o c =
    let a = c.args in
    c.from_residual.ensures
    ∙ with_none a.bits.now a.a c.off_stored.result false 0 false c.in_err-o.was
    ∙ ap (λ (o : Option Off). going_with a.bits.now a.a o false 0 false) c.off_stored.ensures
    ∙ simp (ne_eqb _ _ c.if-k-eq65535.false)

pub free_after-requires : goal.free_after-requires
unfolding joined_head
free_after-requires c =
    let a = c.args in
    let pre = c.requires in
    let space = then_space a.k a.j a.a a.cells.now a.links.now a.words.now false (ends_of 0 a.k.outtail) _ (sym c.in_ok-o.was ∙ c.off_stored.ensures) in
    let low = fit_head _ _ pre.6 c.if-k-eq65535.false in
    let head : joined_head a.k (ends_of 0 a.k.outtail) ≡ a.k.outhead = simp (ne_eqb _ _ c.if-k-eq65535.false) in
    (pre.5, pre.8, omega (arith, space, low, head, pre.0))

pub returns-then-free_after : goal.returns-then-free_after
unfolding going_unmarked
returns-then-free_after c =
    let a = c.args in
    with_held a.bits.now a.a c.off_stored.result false 0 false _ c.in_ok-o.was (sym c.free_after.ensures ∙ c.if-free_after.true)
    ∙ ap (λ (o : Option Off). going_with a.bits.now a.a o false 0 false) c.off_stored.ensures
    ∙ simp (ne_eqb _ _ c.if-k-eq65535.false)

pub returns : goal.returns
unfolding going_unmarked
returns c =
    let a = c.args in
    with_goes a.bits.now a.a c.off_stored.result false 0 false _ c.in_ok-o.was (sym c.free_after.ensures ∙ c.if-free_after.false)
    ∙ ap (λ (o : Option Off). going_with a.bits.now a.a o false 0 false) c.off_stored.ensures
    ∙ simp (ne_eqb _ _ c.if-k-eq65535.false)
