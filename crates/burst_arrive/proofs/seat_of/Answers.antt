-- `burst_arrive::seat_of` meets its contract: the lowest free space, and one comparison gives the entry.
use mathlib.Core.Path.{sym, ◌∙◌, ap}
use Rattle.mem_lists.proofs.SeatLaws.{entry_near, entry_far}
use Rattle.burst_way.specs.Way.{slot_record}
use Rattle.burst_arrive.specs.Arriving.{spot_of}
use Rattle.burst_arrive.proofs.SpotLaws.{spot_none, spot_unfit, spot_seated}
use Rattle.burst_arrive.proofs.seat_of.Goals as goal
use Rattle.burst_arrive.proofs.seat_of.Goals.{then-far-w, else-far-w}

pub returns-then-w-eq0 : goal.returns-then-w-eq0
returns-then-w-eq0 c =
    let a = c.args in
    ap (spot_of a.vci a.d) (spot_none (slot_record a.w) a.d a.calendar.now a.bits.now c.requires.5 c.if-w-eq0.true)

pub returns-then-not-pair : goal.returns-then-not-pair
returns-then-not-pair c =
    let a = c.args in
    let w = a.w in
    ap (spot_of a.vci a.d)
    (spot_unfit (slot_record w) a.d a.calendar.now a.bits.now c.requires.5 c.if-far-w.e
    (elim c.if-far-w.branch [
      | then-far-w b ↦ b.e-is ∙ entry_near w.n w.turn a.d b.if-far-w.true
      | else-far-w b ↦ b.e-is ∙ entry_far w.n w.turn a.d b.if-far-w.false
    ])
    c.if-w-eq0.false (sym c.pair.ensures ∙ c.if-not-pair.true))

pub returns : goal.returns
returns c =
    let a = c.args in
    let w = a.w in
    rw (c.from-x.ensures, c.from.ensures, c.from-2.ensures)
    (ap (spot_of a.vci a.d)
    (spot_seated (slot_record w) a.d a.calendar.now a.bits.now c.requires.5 c.if-far-w.e
    (elim c.if-far-w.branch [
      | then-far-w b ↦ b.e-is ∙ entry_near w.n w.turn a.d b.if-far-w.true
      | else-far-w b ↦ b.e-is ∙ entry_far w.n w.turn a.d b.if-far-w.false
    ])
    c.if-w-eq0.false c.lowest.result c.lowest.ensures (sym c.pair.ensures ∙ c.if-not-pair.false)))
