-- `slot_quiet::quiet_output` meets its contract: as where entry T is marked, but that nothing joins the Output List.
use mathlib.Core.Bool.{not}
use mathlib.Core.Path.{sym, ◌∙◌, ap}
use native.Mathlib.Omega.{arith}
use Rattle.slot_plan.proofs.Found.{no}
use Rattle.slot_plan.proofs.Off.{off_shows, off_low, may_free_shows}
use Rattle.slot_plan.proofs.Ends.{as_came, went, shown, not_shown}
use Rattle.slot_plan.proofs.QuietCases.{output_none, output_unfit, output_goes}
use Rattle.slot_quiet.proofs.quiet_output.Goals as goal

pub returns-in_default : goal.returns-in_default
returns-in_default c =
    λ calendar arrived.
    let a = c.args in
    as_came a.r a.cells.now a.links.now calendar a.words.now a.bits.now arrived _ _ c.refuse_for.ensures
    (output_none a.k a.b a.j a.cells.now a.links.now calendar a.words.now a.bits.now arrived _
    c.off_head.ensures c.in_default.is)

pub may_free-requires : goal.may_free-requires
may_free-requires c =
    let pre = c.requires in
    let low = off_low _ _ _ _ _ _ _ _ _ (sym c.off_head.ensures ∙ c.in-Some.is) pre.outhead_lt_n in
    (pre.n_le_most_n.0, omega (arith, low, pre.n_le_most_n.0), omega (arith, pre.bits_len))

pub returns-then-not-may_free : goal.returns-then-not-may_free
returns-then-not-may_free c =
    λ calendar arrived.
    let a = c.args in
    as_came a.r a.cells.now a.links.now calendar a.words.now a.bits.now arrived _ _ c.refuse_for-then-not-may_free.ensures
    (output_unfit a.k a.b a.j a.cells.now a.links.now calendar a.words.now a.bits.now arrived _
    c.off_head.ensures _ c.in-Some.is (not_shown _ _ c.may_free.ensures (ap not c.if-not-may_free.true)))

pub quiet_end-requires : goal.quiet_end-requires
quiet_end-requires c =
    let a = c.args in
    let pre = c.requires in
    let shows = off_shows _ _ _ _ _ _ _ _ _ (sym c.off_head.ensures ∙ c.in-Some.is) in
    let low = off_low _ _ _ _ _ _ _ _ _ (sym c.off_head.ensures ∙ c.in-Some.is) pre.outhead_lt_n in
    let free = may_free_shows _ _ _ _ pre.n_le_most_n.0 (shown _ _ c.may_free.ensures (ap not c.if-not-may_free.false)) in
    record { may_end = (omega (arith, pre.n_le_most_n.3), omega (arith, pre.n_le_most_n.4), pre.n_le_most_n.5, shows.0, shows.1); vci_bound = pre.vci_bound; outtail_lt_n = λ e. no e; free_le_most_n = (free.0, omega (arith, pre.bits_len), omega (arith, low, pre.n_le_most_n.0), free.1, λ e. no e) }

pub returns : goal.returns
returns c =
    let at-quiet-end = c in
    let at-if2 = at-quiet-end in
    let at-may-free = at-if2 in
    let at-if1 = at-may-free in
    let at-off-head = at-if1 in
    let start = at-off-head in
    λ calendar arrived.
    let a = start.args in
    went a.r a.cells.now a.links.now calendar a.words.now a.bits.now arrived _ _ _
    (output_goes a.k a.b a.j a.cells.now a.links.now calendar a.words.now a.bits.now arrived _
    at-off-head.off_head.ensures _ at-if1.in-Some.is
    (shown _ _ at-may-free.may_free.ensures (ap not at-if2.if-not-may_free.false)))
    (at-quiet-end.quiet_end.ensures a.cells.now calendar calendar arrived)
