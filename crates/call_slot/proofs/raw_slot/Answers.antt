-- `call_slot::raw_slot` meets its promise: clean, mended or dropped, by what the check answers.
use mathlib.Core.Path.{sym, ap, ◌∙◌}
use Rattle.base_hec.specs.declared.Checked.{Checked}
use Rattle.base_hec.specs.Word.{arriving_of}
use Rattle.call_slot.proofs.Front.{clean_is, dropped_is, raw_is}
use Rattle.call_slot.proofs.raw_slot.Goals as goal

pub returns-in-Clean : goal.returns-in-Clean
returns-in-Clean c =
    let at = c.check_cell-c in
    let a = c.args in
    raw_is a.r a.cells.now a.links.now a.calendar.now a.words.now a.bits.now a.arrived.now a.cell.now _ _ c.requires.0 c.requires.1 c.requires.2
    (sym at.ensures.octets ∙ clean_is at.result a.cell.now c.in-Clean.is)
    c.slot_after.ensures

pub returns-in-Mended : goal.returns-in-Mended
returns-in-Mended c =
    let at = c.check_cell-c in
    let a = c.args in
    raw_is a.r a.cells.now a.links.now a.calendar.now a.words.now a.bits.now a.arrived.now a.cell.now _ _ c.requires.0 c.requires.1 c.requires.2
    (sym at.ensures.octets ∙ ap (λ (x : Checked). arriving_of x a.cell.now) c.in-Mended.is)
    c.mended_slot.ensures

pub returns-in-Dropped : goal.returns-in-Dropped
returns-in-Dropped c =
    let at = c.check_cell-c in
    let a = c.args in
    raw_is a.r a.cells.now a.links.now a.calendar.now a.words.now a.bits.now a.arrived.now a.cell.now _ _ c.requires.0 c.requires.1 c.requires.2
    (sym at.ensures.octets ∙ dropped_is at.result a.cell.now c.in-Dropped.is)
    c.slot_after-in-Dropped.ensures
