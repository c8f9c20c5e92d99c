-- `slot_accept::departure::going` meets its contract: entry T as the cell leaves it says which case it is.
use mathlib.Core.Path.{◌∙◌}
use Rattle.mem_lists.proofs.PairLaws.{head_high, tail_high, both_low, tail_left, both_empty}
use Rattle.slot_accept.proofs.GoingLaws.{going_unfit, going_unmarked_is, going_marked_is}
use Rattle.slot_accept.proofs.departure.going.Goals as goal

pub returns-then-y : goal.returns-then-y
returns-then-y c =
    let a = c.args in
    going_unfit a.k a.j a.a a.cells.now a.links.now a.calendar.now a.words.now a.bits.now _ _ c.head_joined-x.ensures c.tail_joined-y.ensures
    (tail_left _ _ _ c.requires.may_go.0 c.if-x.true c.if-y.true)

pub going_unmarked-requires : goal.going_unmarked-requires
going_unmarked-requires c =
    c.requires.may_go

pub returns-then-x : goal.returns-then-x
returns-then-x c =
    let a = c.args in
    c.going_unmarked.ensures
    ∙ going_unmarked_is a.k a.j a.a a.cells.now a.links.now a.calendar.now a.words.now a.bits.now _ _ c.head_joined-x.ensures c.tail_joined-y.ensures
    (both_empty _ _ _ c.requires.may_go.0 c.if-x.true c.if-y.false) c.if-x.true

pub returns-then-x-k : goal.returns-then-x-k
returns-then-x-k c =
    let a = c.args in
    going_unfit a.k a.j a.a a.cells.now a.links.now a.calendar.now a.words.now a.bits.now _ _ c.head_joined-x.ensures c.tail_joined-y.ensures
    (head_high _ _ _ c.if-x.false c.if-x-k.true)

pub returns-then-y-k : goal.returns-then-y-k
returns-then-y-k c =
    let a = c.args in
    going_unfit a.k a.j a.a a.cells.now a.links.now a.calendar.now a.words.now a.bits.now _ _ c.head_joined-x.ensures c.tail_joined-y.ensures
    (tail_high _ _ _ c.requires.may_go.0 c.if-x-k.false c.if-y-k.true)

pub going_marked-requires : goal.going_marked-requires
going_marked-requires c =
    record { may_go = c.requires.may_go; head_lt_n = c.if-x-k.false }

pub returns : goal.returns
returns c =
    let a = c.args in
    c.going_marked.ensures
    ∙ going_marked_is a.k a.j a.a a.cells.now a.links.now a.calendar.now a.words.now a.bits.now _ _ c.head_joined-x.ensures c.tail_joined-y.ensures
    (both_low _ _ _ c.if-x-k.false c.if-y-k.false) c.if-x.false
