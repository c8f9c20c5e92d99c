-- `burst_likely::quiet_leave` meets its contract: what is written is what steps 4 and 5 leave, where no cell is let in and o departs.
use mathlib.Core.Path.{refl, ◌∙◌, ap}
use native.Mathlib.Omega.{arith}
use Rattle.meaning.proofs.BitsLaws.{free_most}
use Rattle.slot_arrive.specs.Arrival.{one_less}
use Rattle.slot_plan.proofs.Ends.{read_same}
use Rattle.burst_likely.proofs.EitherLaws.{low_most}
use Rattle.burst_likely.proofs.QuietLaws.{off_low, less_waits, follow_low, leave_done}
use Rattle.burst_likely.proofs.quiet_leave.Goals as goal

pub leave-requires : goal.leave-requires
leave-requires c =
    let a = c.args in
    let pre = c.requires in
    let goes = pre.goes in
    let sized = pre.ready_in.sized in
    let low = off_low a.w a.b a.j a.cells.now a.links.now a.calendar.now a.words.now a.bits.now a.arrived.now a.departures.now a.answers.now a.i pre.ready_in pre.handed_to a.o pre.entry_fits goes in
    record {
      may_leave = (
        omega (arith, low.0, sized.words_long, c.words_fall.auto),
        omega (arith, low.0, sized.v_high),
        read_same _ _ _ c.words_fall.ensures (less_waits a.w a.b a.j a.cells.now a.links.now a.calendar.now a.words.now a.bits.now a.arrived.now a.departures.now a.answers.now a.i pre.ready_in pre.handed_to a.o pre.entry_fits goes),
        omega (arith, sized.turn_low, sized.n_high),
        omega (arith, sized.calendar_long, sized.turn_low),
        low_most a.w.n a.o.follows a.w.outtail _ sized.links_long sized.n_high
            (follow_low a.w a.b a.j a.cells.now a.links.now a.calendar.now a.words.now a.bits.now a.arrived.now a.departures.now a.answers.now a.i pre.ready_in pre.handed_to a.o pre.entry_fits goes),
        omega (arith, goes.space_low, sized.n_high),
        sized.bits_long,
        goes.not_free,
        omega (arith, goes.space_low, sized.cells_long_lem),
      );
      handed_to = pre.handed_to;
    }

pub overflow_add-result : goal.overflow_add-result
overflow_add-result c =
    let a = c.args in
    let pre = c.requires in
    let most = free_most a.w.n a.w.free a.bits.now pre.ready_in.spaces_fit_lem in
    let high = pre.ready_in.sized.n_high in
    omega (arith, most, high)

pub returns : goal.returns
returns c =
    let a = c.args in
    let pre = c.requires in
    let e = c.leave.ensures in
    leave_done a.w a.b a.j a.cells.now a.links.now a.calendar.now a.words.now a.bits.now a.arrived.now a.departures.now a.answers.now a.i pre.ready_in pre.handed_to a.o pre.entry_fits pre.goes _ _ _ _ _ _ _ refl
    e.links e.calendar
    (e.words ∙ ap (one_less a.o.vci) c.words_fall.ensures) e.bits
    e.shown e.told
