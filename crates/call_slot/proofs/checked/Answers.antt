-- `call_slot::checked` meets its promise: raw or mode unfit; raw.
use Rattle.meaning.specs.State.{state_of}
use Rattle.call_slot.proofs.Front.{lent_53, unfit_is, unfit_raw, unfit_mode, checked_lent, raw_one}
use Rattle.call_slot.proofs.checked.Goals as goal
use Rattle.call_slot.proofs.checked.Goals.{then-r-gt1-via-then-r-gt1, then-r-gt1-via-else-r-gt1+then-r-gt1-2}

pub unfit_slot-requires : goal.unfit_slot-requires
unfit_slot-requires c =
    (checked_lent c.args.r.raw _ c.requires).0

pub returns-then-r-gt1 : goal.returns-then-r-gt1
returns-then-r-gt1 c =
    let a = c.args in
    let h = checked_lent a.r.raw _ c.requires in
    unfit_is (state_of a.r a.cells.now a.links.now a.calendar.now a.words.now a.bits.now a.arrived.now) a.cell.now _ (lent_53 a.cell.now h.0)
    (elim c.then-r-gt1.branch [
      | then-r-gt1-via-then-r-gt1 w ↦ unfit_raw a.r.raw a.r.mode a.cell.now w.if-r-gt1.true h.0
      | then-r-gt1-via-else-r-gt1+then-r-gt1-2 w ↦ unfit_mode a.r.raw a.r.mode a.cell.now h.1 w.if-r-gt1-2.true h.0
    ])
    c.unfit_slot.ensures

pub raw_slot-requires : goal.raw_slot-requires
raw_slot-requires c =
    let h = checked_lent c.args.r.raw _ c.requires in
    (raw_one c.args.r.raw c.if-r-gt1.false h.1, c.if-r-gt1-2.false, h.0)
