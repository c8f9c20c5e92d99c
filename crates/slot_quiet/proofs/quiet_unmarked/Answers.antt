-- `slot_quiet::quiet_unmarked` meets its contract: the Output List's ends alone say which case it is.
use mathlib.Core.Path.{sym, ◌∙◌, ap}
use Rattle.meaning.specs.State.{state_of}
use Rattle.meaning.specs.Slot.{finish}
use Rattle.mem_lists.proofs.PairLaws.{head_high, tail_high, both_low, tail_left, both_empty}
use Rattle.slot_plan.specs.Plan.{quiet_work}
use Rattle.slot_plan.proofs.Cases.{unmarked_unfit, unmarked_output, unmarked_none}
use Rattle.slot_plan.proofs.Ends.{as_came, went}
use Rattle.slot_plan.proofs.QuietCases.{quiet_work_lem}
use Rattle.slot_quiet.proofs.quiet_unmarked.Goals as goal

pub returns-then-k-ne65535 : goal.returns-then-k-ne65535
unfolding quiet_work
returns-then-k-ne65535 c =
    λ calendar arrived.
    let a = c.args in
    as_came a.r a.cells.now a.links.now calendar a.words.now a.bits.now arrived _ _ c.refuse_for.ensures
    (unmarked_unfit (quiet_work_lem a.k a.b a.j a.cells.now a.links.now calendar a.words.now a.bits.now arrived)
    (tail_left _ _ _ c.requires.n_le_most_n.0 c.if-k-eq65535.true c.if-k-ne65535.true))

pub returns-then-k-eq65535 : goal.returns-then-k-eq65535
unfolding quiet_work
returns-then-k-eq65535 c =
    let at-quiet-none = c in
    let at-if2 = at-quiet-none in
    let at-if1 = at-if2 in
    let start = at-if1 in
    λ calendar arrived.
    let a = start.args in
    went a.r a.cells.now a.links.now calendar a.words.now a.bits.now arrived _ _ _
    (unmarked_none (quiet_work_lem a.k a.b a.j a.cells.now a.links.now calendar a.words.now a.bits.now arrived)
    (both_empty _ _ _ start.requires.n_le_most_n.0 at-if1.if-k-eq65535.true at-if2.if-k-ne65535.false) at-if1.if-k-eq65535.true)
    (at-quiet-none.quiet_none.ensures a.cells.now a.links.now calendar a.bits.now arrived)

pub returns-then-k : goal.returns-then-k
unfolding quiet_work
returns-then-k c =
    λ calendar arrived.
    let a = c.args in
    as_came a.r a.cells.now a.links.now calendar a.words.now a.bits.now arrived _ _ c.refuse_for-then-k.ensures
    (unmarked_unfit (quiet_work_lem a.k a.b a.j a.cells.now a.links.now calendar a.words.now a.bits.now arrived)
    (head_high _ _ a.k.outtail c.if-k-eq65535.false c.if-k.true))

pub returns-then-k-2 : goal.returns-then-k-2
unfolding quiet_work
returns-then-k-2 c =
    λ calendar arrived.
    let a = c.args in
    as_came a.r a.cells.now a.links.now calendar a.words.now a.bits.now arrived _ _ c.refuse_for-then-k-2.ensures
    (unmarked_unfit (quiet_work_lem a.k a.b a.j a.cells.now a.links.now calendar a.words.now a.bits.now arrived)
    (tail_high _ _ _ c.requires.n_le_most_n.0 c.if-k.false c.if-k-2.true))

pub quiet_output-requires : goal.quiet_output-requires
quiet_output-requires c =
    let pre = c.requires in
    record { n_le_most_n = pre.n_le_most_n; bits_len = pre.bits_len; outhead_lt_n = c.if-k.false; vci_bound = pre.vci_bound }

pub returns : goal.returns
unfolding quiet_work
returns c =
    λ calendar arrived.
    let a = c.args in
    c.quiet_output.ensures calendar arrived
    ∙ ap (finish (state_of a.r a.cells.now a.links.now calendar a.words.now a.bits.now arrived))
    (sym (unmarked_output (quiet_work_lem a.k a.b a.j a.cells.now a.links.now calendar a.words.now a.bits.now arrived)
    (both_low _ _ _ c.if-k.false c.if-k-2.false) c.if-k-eq65535.false))
