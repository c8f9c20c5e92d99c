-- `call_slot::slot` meets its promise: with the check in front, or as document 01 has it.
use mathlib.Core.Path.{sym, ◌∙◌}
use Rattle.meaning.specs.State.{state_of}
use Rattle.call_slot.proofs.Front.{unchecked_is}
use Rattle.call_slot.proofs.slot.Goals as goal

pub checked-requires : goal.checked-requires
checked-requires c = sym c.is_checked.ensures ∙ c.if-is_checked.true

pub returns : goal.returns
returns c =
    let a = c.args in
    c.slot.ensures
    ∙ sym (unchecked_is (state_of a.r a.cells.now a.links.now a.calendar.now a.words.now a.bits.now a.arrived.now) a.cell.now
    (sym c.is_checked.ensures ∙ c.if-is_checked.false))
