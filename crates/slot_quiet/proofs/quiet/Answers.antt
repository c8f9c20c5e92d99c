-- `slot_quiet::quiet` meets its contract: entry T is out of range, empty or marked, and each is a case of steps 4 and 5.
use mathlib.Core.Bool.{not}
use mathlib.Core.Path.{sym, ◌∙◌, ap}
use Rattle.meaning.specs.State.{state_of}
use Rattle.meaning.specs.Lists.{entry_at}
use Rattle.meaning.specs.Slot.{finish}
use Rattle.mem_lists.proofs.PairLaws.{head_high, tail_high, both_low, tail_left}
use Rattle.slot_plan.specs.Plan.{quiet_work}
use Rattle.slot_plan.proofs.Cases.{unfit_entry, unfit_output, marked, unmarked}
use Rattle.slot_plan.proofs.Ends.{as_came, shown, not_shown}
use Rattle.slot_plan.proofs.QuietCases.{quiet_work_lem, quiet_entry}
use Rattle.slot_quiet.proofs.quiet.Goals as goal

pub returns-then-tail : goal.returns-then-tail
unfolding quiet_work
returns-then-tail c =
    λ arrived.
    let a = c.args in
    as_came a.r a.cells.now a.links.now a.calendar.now a.words.now a.bits.now arrived _ _ c.refuse_for.ensures
    (unfit_entry (quiet_work_lem a.k a.b a.j a.cells.now a.links.now a.calendar.now a.words.now a.bits.now arrived) _
    (quiet_entry a.k a.b a.j a.cells.now a.links.now a.calendar.now a.words.now a.bits.now arrived)
    (tail_left _ _ _ c.requires.sized_with.1.n_high c.if-head.true c.if-tail.true))

pub quiet_unmarked-requires : goal.quiet_unmarked-requires
quiet_unmarked-requires c =
    let pre = c.requires in
    let z = pre.sized_with.1 in
    record { n_le_most_n = (z.n_high, z.v_high, z.cells_long_lem, z.links_long, z.words_long, z.rotation_low); bits_len = z.bits_long; vci_bound = pre.vci_bound }

pub returns-then-head : goal.returns-then-head
unfolding quiet_work entry_at
returns-then-head c =
    λ arrived.
    let a = c.args in
    c.quiet_unmarked.ensures a.calendar.now arrived
    ∙ ap (finish (state_of a.r a.cells.now a.links.now a.calendar.now a.words.now a.bits.now arrived))
    (sym (unmarked (quiet_work_lem a.k a.b a.j a.cells.now a.links.now a.calendar.now a.words.now a.bits.now arrived)
    (λ i. record { head = c.if-head.true i; tail = c.if-tail.false i })))

pub returns-then-head-k : goal.returns-then-head-k
unfolding quiet_work
returns-then-head-k c =
    λ arrived.
    let a = c.args in
    as_came a.r a.cells.now a.links.now a.calendar.now a.words.now a.bits.now arrived _ _ c.refuse_for-then-head-k.ensures
    (unfit_entry (quiet_work_lem a.k a.b a.j a.cells.now a.links.now a.calendar.now a.words.now a.bits.now arrived) _
    (quiet_entry a.k a.b a.j a.cells.now a.links.now a.calendar.now a.words.now a.bits.now arrived)
    (head_high _ _ _ c.if-head.false c.if-head-k.true))

pub returns-then-tail-k : goal.returns-then-tail-k
unfolding quiet_work
returns-then-tail-k c =
    λ arrived.
    let a = c.args in
    as_came a.r a.cells.now a.links.now a.calendar.now a.words.now a.bits.now arrived _ _ c.refuse_for-then-tail-k.ensures
    (unfit_entry (quiet_work_lem a.k a.b a.j a.cells.now a.links.now a.calendar.now a.words.now a.bits.now arrived) _
    (quiet_entry a.k a.b a.j a.cells.now a.links.now a.calendar.now a.words.now a.bits.now arrived)
    (tail_high _ _ _ c.requires.sized_with.1.n_high c.if-head-k.false c.if-tail-k.true))

pub returns-then-not-pair : goal.returns-then-not-pair
unfolding quiet_work
returns-then-not-pair c =
    λ arrived.
    let a = c.args in
    as_came a.r a.cells.now a.links.now a.calendar.now a.words.now a.bits.now arrived _ _ c.refuse_for-then-not-pair.ensures
    (unfit_output (quiet_work_lem a.k a.b a.j a.cells.now a.links.now a.calendar.now a.words.now a.bits.now arrived) _
    (quiet_entry a.k a.b a.j a.cells.now a.links.now a.calendar.now a.words.now a.bits.now arrived)
    (not_shown _ _ c.pair.ensures (ap not c.if-not-pair.true)))

pub quiet_marked-requires : goal.quiet_marked-requires
quiet_marked-requires c =
    let at-if3 = c in
    let start = at-if3 in
    let pre = start.requires in
    record { sized_with = pre.sized_with; vci_bound = pre.vci_bound; head_lt_n = (at-if3.if-head-k.false, shown _ _ c.pair.ensures (ap not c.if-not-pair.false)) }

pub returns : goal.returns
unfolding quiet_work
returns c =
    λ arrived.
    let a = c.args in
    c.quiet_marked.ensures arrived
    ∙ ap (finish (state_of a.r a.cells.now a.links.now a.calendar.now a.words.now a.bits.now arrived))
    (sym (marked (quiet_work_lem a.k a.b a.j a.cells.now a.links.now a.calendar.now a.words.now a.bits.now arrived) _
    (quiet_entry a.k a.b a.j a.cells.now a.links.now a.calendar.now a.words.now a.bits.now arrived)
    (both_low _ _ _ c.if-head-k.false c.if-tail-k.false)
    (shown _ _ c.pair.ensures (ap not c.if-not-pair.false)) c.if-head.false))
