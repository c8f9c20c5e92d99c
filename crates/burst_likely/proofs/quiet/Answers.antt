-- `burst_likely::quiet` meets its contract: nothing is written, or what steps 4 and 5 leave where no cell is let in.
use mathlib.Core.Path.{subst}
use Rattle.std.specs.Prelude.{Option}
use Rattle.meaning.specs.Lists.{entry_at}
use Rattle.burst_way.specs.Way.{slot_record}
use Rattle.burst_depart.specs.declared.Leave.{Leave}
use Rattle.burst_depart.specs.Leaving.{Leaves, OffHere}
use Rattle.burst_likely.proofs.QuietLaws.{none_done}
use Rattle.burst_likely.proofs.quiet.Goals as goal

pub returns-in_default-clause-served : goal.returns-in_default-clause-served
returns-in_default-clause-served c =
    let a = c.args in
    let pre = c.requires in
    let k = slot_record a.w in
    let leaves = subst (λ (found : Option Leave). Leaves k a.bits.now (entry_at a.calendar.now a.w.turn) found (OffHere k a.cells.now a.links.now a.words.now)) c.in_default.is c.in_ok-o.ensures in
    none_done a.w a.b a.j a.cells.now a.links.now a.calendar.now a.words.now a.bits.now a.arrived.now a.departures.now a.answers.now a.i pre.ready_in pre.handed_to
    _ _ leaves.entry_fits leaves.departs c.quiet_none.ensures.words c.quiet_none.ensures.answers
