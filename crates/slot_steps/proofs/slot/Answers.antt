-- `slot_steps::slot` meets its promise: refusals 1, 2 and 9, then the clock, then steps 2 to 5.
use Rattle.std.proofs.Common.{sym, ap, ◌∙◌, arith}
use Rattle.meaning.specs.State.{state_of}
use Rattle.meaning.specs.Slot.{finish}
use Rattle.leaf_refusal.specs.Refusals.{given_number}
use Rattle.leaf_refusal.proofs.Numbers.{never_0}
use Rattle.slot_plan.proofs.Ends.{as_came}
use Rattle.slot_steps.proofs.Whole.{slot_refused, slot_goes, clock_turn, clock_rotation, clock_goes, shaped, sized}
use Rattle.slot_steps.proofs.slot.Goals as goal

pub returns-in-Err : goal.returns-in-Err
returns-in-Err c =
    let a = c.args in
    slot_refused a.r a.cell.now a.cells.now a.links.now a.calendar.now a.words.now a.bits.now a.arrived.now _ _
    (sym (ap given_number c.in-Err.is) ∙ c.shape.ensures) (never_0 _) c.refuse_for.ensures

pub returns-then-r : goal.returns-then-r
returns-then-r c =
    let a = c.args in
    as_came a.r a.cells.now a.links.now a.calendar.now a.words.now a.bits.now a.arrived.now _ _ c.refuse_for-then-r.ensures
    (clock_turn a.r a.cell.now a.cells.now a.links.now a.calendar.now a.words.now a.bits.now a.arrived.now
    c.if-r.true) ∙ sym (slot_goes a.r a.cell.now a.cells.now a.links.now a.calendar.now
    a.words.now a.bits.now a.arrived.now _ c.shape.ensures (ap given_number c.in_default.is))

-- V is at most 1,024, once refusal 1 is not given
pub overflow_add-r : goal.overflow_add-r
overflow_add-r c =
    let a = c.args in
    let h = shaped a.r a.cell.now a.cells.now a.links.now a.calendar.now a.words.now a.bits.now a.arrived.now _ c.shape.ensures (ap given_number c.in_default.is) in
    omega (arith, h.v_high)

pub clock-k-requires : goal.clock-k-requires
clock-k-requires c =
    let a = c.args in
    let h = shaped a.r a.cell.now a.cells.now a.links.now a.calendar.now a.words.now a.bits.now a.arrived.now _ c.shape.ensures (ap given_number c.in_default.is) in
    (c.if-r.false, c.if-r-2.false, h.v_high)

pub returns-then-r-2 : goal.returns-then-r-2
returns-then-r-2 c =
    let a = c.args in
    as_came a.r a.cells.now a.links.now a.calendar.now a.words.now a.bits.now a.arrived.now _ _ c.refuse_for-then-r-2.ensures
    (clock_rotation a.r a.cell.now a.cells.now a.links.now a.calendar.now a.words.now a.bits.now a.arrived.now
    c.if-r.false c.if-r-2.true) ∙ sym (slot_goes a.r a.cell.now a.cells.now a.links.now
    a.calendar.now a.words.now a.bits.now a.arrived.now _ c.shape.ensures (ap given_number c.in_default.is))

pub steps-requires : goal.steps-requires
steps-requires c =
    let a = c.args in
    let h = shaped a.r a.cell.now a.cells.now a.links.now a.calendar.now a.words.now a.bits.now a.arrived.now _ c.shape.ensures (ap given_number c.in_default.is) in
    record {
      sized = sized a.r a.cell.now a.cells.now a.links.now a.calendar.now a.words.now a.bits.now a.arrived.now _
          c.clock-k.ensures h;
      cell_len = h.cell_long;
    }

pub returns : goal.returns
returns c =
    let a = c.args in
    c.steps.ensures
    ∙ ap (finish (state_of a.r a.cells.now a.links.now a.calendar.now a.words.now a.bits.now a.arrived.now))
    (sym (clock_goes a.r a.cell.now a.cells.now a.links.now a.calendar.now a.words.now a.bits.now a.arrived.now _
    c.clock-k.ensures c.if-r.false c.if-r-2.false))
    ∙ sym (slot_goes a.r a.cell.now a.cells.now a.links.now a.calendar.now a.words.now a.bits.now a.arrived.now _
    c.shape.ensures (ap given_number c.in_default.is))
