-- `slot_quiet::quiet_marked` meets its contract: what departs and whether its space may be freed are judged before anything is written.
use mathlib.Core.Bool.{not}
use mathlib.Core.Path.{refl, sym, ◌∙◌, ap}
use native.Mathlib.Omega.{arith}
use borrow.Author.Tests.{eqb-false, not-true}
use Rattle.meaning.proofs.ListsLaws.{fit_tail}
use Rattle.slot_plan.proofs.Off.{off_shows, off_low, may_free_shows}
use Rattle.mem_lists.specs.Spaces.{ends_of}
use Rattle.slot_plan.proofs.Cases.{joined_low}
use Rattle.slot_plan.proofs.Ends.{as_came, went, left_entry, shown, not_shown}
use Rattle.slot_plan.proofs.QuietCases.{marked_none, marked_unfit, marked_goes}
use Rattle.slot_quiet.proofs.quiet_marked.Goals as goal

pub returns-in_default : goal.returns-in_default
returns-in_default c =
    λ arrived.
    let a = c.args in
    as_came a.r a.cells.now a.links.now a.calendar.now a.words.now a.bits.now arrived _ _ c.refuse_for.ensures
    (marked_none a.k a.b a.j a.cells.now a.links.now a.calendar.now a.words.now a.bits.now arrived a.head
    a.tail _ c.off_marked.ensures c.in_default.is)

pub may_free-requires : goal.may_free-requires
may_free-requires c =
    let a = c.args in
    let pre = c.requires in
    let z = pre.sized_with.1 in
    let low = off_low _ _ _ _ _ _ _ _ _ (sym c.off_marked.ensures ∙ c.in-Some.is) (joined_low a.k (ends_of a.head a.tail) pre.head_lt_n.1 pre.head_lt_n.0) in
    (z.n_high, omega (arith, low, z.n_high), omega (arith, z.bits_long))

pub returns-then-not-may_free : goal.returns-then-not-may_free
returns-then-not-may_free c =
    λ arrived.
    let a = c.args in
    as_came a.r a.cells.now a.links.now a.calendar.now a.words.now a.bits.now arrived _ _ c.refuse_for-then-not-may_free.ensures
    (marked_unfit a.k a.b a.j a.cells.now a.links.now a.calendar.now a.words.now a.bits.now arrived a.head
    a.tail _ c.off_marked.ensures _ c.in-Some.is (not_shown _ _ c.may_free.ensures (ap not c.if-not-may_free.true)))

pub quiet_end-requires : goal.quiet_end-requires
quiet_end-requires c =
    let a = c.args in
    let pre = c.requires in
    let z = pre.sized_with.1 in
    let shows = off_shows _ _ _ _ _ _ _ _ _ (sym c.off_marked.ensures ∙ c.in-Some.is) in
    let low = off_low _ _ _ _ _ _ _ _ _ (sym c.off_marked.ensures ∙ c.in-Some.is) (joined_low a.k (ends_of a.head a.tail) pre.head_lt_n.1 pre.head_lt_n.0) in
    let free = may_free_shows _ _ _ _ z.n_high (shown _ _ c.may_free.ensures (ap not c.if-not-may_free.false)) in
    record { may_end = (omega (arith, z.links_long), omega (arith, z.words_long), z.rotation_low, shows.0, shows.1); vci_bound = pre.vci_bound; outtail_lt_n = λ e. fit_tail _ _ pre.head_lt_n.1 (eqb-false _ _ (not-true _ e)); free_le_most_n = (free.0, omega (arith, z.bits_long), omega (arith, low, z.n_high), free.1, λ e. omega (arith, z.turn_low, z.n_high)) }

pub returns : goal.returns
returns c =
    let at-quiet-end = c in
    let at-clear-entry = at-quiet-end in
    let at-if2 = at-clear-entry in
    let at-may-free = at-if2 in
    let at-if1 = at-may-free in
    let at-off-marked = at-if1 in
    let start = at-off-marked in
    λ arrived.
    let a = start.args in
    went a.r a.cells.now a.links.now a.calendar.now a.words.now a.bits.now arrived _ _ _
    (marked_goes a.k a.b a.j a.cells.now a.links.now a.calendar.now a.words.now a.bits.now arrived a.head
    a.tail _ at-off-marked.off_marked.ensures _ at-if1.in-Some.is
    (shown _ _ at-may-free.may_free.ensures (ap not at-if2.if-not-may_free.false)))
    (at-quiet-end.quiet_end.ensures a.cells.now a.calendar.now at-clear-entry.clear_entry.new.calendar arrived ∙
    left_entry _ _ _ _ _ _ _ at-clear-entry.clear_entry.ensures refl)
