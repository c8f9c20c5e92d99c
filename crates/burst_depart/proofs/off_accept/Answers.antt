-- `burst_depart::off_accept` meets its contract: with D 0 the cell joined entry T, and else another.
use Rattle.burst_depart.proofs.NowLaws.{written_now, written_later}
use Rattle.burst_depart.proofs.LeaveLaws.{accept_now, accept_later}
use Rattle.burst_arrive.specs.Arriving.{seat_at}
use Rattle.burst_way.specs.Way.{slot_record}
use Rattle.slot_plan.specs.Plan.{seat_ends}
use Rattle.burst_depart.proofs.off_accept.Goals as goal

pub returns-then-p-eq0 : goal.returns-then-p-eq0
returns-then-p-eq0 c =
    let a = c.args in
    let sized = c.requires.sized_with.1 in
    accept_now (slot_record a.w) a.p a.cells.now a.links.now a.calendar.now a.words.now a.bits.now
    (written_now a.w.n a.w.turn a.p.d sized.turn_low a.calendar.now a.p.e (seat_ends (seat_at a.p)) c.requires.seats.e_is c.if-p-eq0.true sized.calendar_long)
    c.if-p-eq0.true c.off_now.result c.off_now.ensures

pub returns : goal.returns
returns c =
    let a = c.args in
    let sized = c.requires.sized_with.1 in
    accept_later (slot_record a.w) a.p a.cells.now a.links.now a.calendar.now a.words.now a.bits.now
    (written_later a.w.n a.w.turn a.p.d sized.turn_low a.calendar.now a.p.e (seat_ends (seat_at a.p)) c.requires.seats.e_is c.requires.d_lt_n.0 c.if-p-eq0.false)
    c.if-p-eq0.false c.off_later.result c.off_later.ensures
