-- `burst_depart::off_later` meets its contract: as off_quiet, and the cell that was accepted is in another space, which was free.
use Rattle.burst_depart.proofs.SeenLaws.{some_is, none_is}
use Rattle.burst_depart.proofs.LeaveLaws.{later_leaves, plan_low, plan_head, not_held, not_named}
use Rattle.burst_depart.proofs.PlanLaws.{low_in}
use Rattle.burst_depart.specs.declared.Leave.{Leave}
use Rattle.burst_depart.specs.Leaving.{Planned}
use Rattle.burst_way.specs.Way.{slot_record}
use Rattle.meaning.specs.Lists.{entry_at}
use Rattle.std.specs.Prelude.{Option}
use mathlib.Core.Path.{sym, ◌∙◌, subst}
use Rattle.burst_depart.proofs.off_later.Goals as goal

pub returns : goal.returns
returns c =
    let a = c.args in
    let k = slot_record a.w in
    let entry = entry_at a.calendar.now a.w.turn in
    let o = c.in-Some.o in
    let plan = subst (λ (found : Option Leave). Planned k a.links.now entry found) c.in-Some.is c.in_ok-o.ensures in
    let named = some_is _ _ c.in_ok-vci.ensures in
    later_leaves k a.cells.now a.links.now a.words.now a.bits.now entry o c.in_ok-vci.vci plan
    (sym c.is_free.ensures ∙ c.if-is_free.false)
    named.0
    named.1
    a.p
    c.requires.outtail_value.3
    (low_in _ a.w.n _ (plan_low k a.links.now entry o plan) c.requires.sized_with.1.links_long)

pub returns-then-is_free : goal.returns-then-is_free
returns-then-is_free c =
    let a = c.args in
    let k = slot_record a.w in
    let entry = entry_at a.calendar.now a.w.turn in
    let o = c.in-Some.o in
    let plan = subst (λ (found : Option Leave). Planned k a.links.now entry found) c.in-Some.is c.in_ok-o.ensures in
    λ r.
    not_held k a.cells.now a.links.now a.words.now a.bits.now entry o.space (plan_head k a.links.now entry o plan) c.requires.sized_with.1.n_high
    (plan_low k a.links.now entry o plan) r
    (sym c.is_free.ensures ∙ c.if-is_free.true)

pub returns-in_err-vci : goal.returns-in_err-vci
returns-in_err-vci c =
    let a = c.args in
    let k = slot_record a.w in
    let entry = entry_at a.calendar.now a.w.turn in
    let o = c.in-Some.o in
    let plan = subst (λ (found : Option Leave). Planned k a.links.now entry found) c.in-Some.is c.in_ok-o.ensures in
    rw c.from_residual-in_err-vci.ensures
    (λ r.
    not_named k a.cells.now a.links.now a.words.now a.bits.now entry o.space (plan_head k a.links.now entry o plan) c.requires.sized_with.1.n_high
    (plan_low k a.links.now entry o plan) r
    (none_is _ c.in_err-vci.ensures))
