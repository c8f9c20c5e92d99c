-- `burst_likely::accept` meets its contract: where something left the likely way nothing is written, else the cell is stored, and one of
-- the two cases is written.
use Prim.Native.Nat.{◌*◌}
use mathlib.Core.Path.{refl, subst}
use native.Mathlib.Omega.{arith}
use lib.ListN.{take, drop}
use Rattle.slot_plan.proofs.Ends.{read_same}
use Rattle.std.specs.Prelude.{Option}
use Rattle.meaning.specs.Bits.{taken}
use Rattle.burst_way.specs.Way.{slot_record}
use Rattle.burst_depart.specs.declared.Leave.{Leave}
use Rattle.burst_depart.specs.Leaving.{Leaves, OffThen, entry_then}
use Rattle.burst_likely.proofs.EitherLaws.{low_most}
use Rattle.burst_likely.proofs.AcceptLaws.{none_done, leave_shows, follow_low, still_held, leave_done}
use Rattle.burst_likely.proofs.accept.Goals as goal

pub returns-in_default-clause-served : goal.returns-in_default-clause-served
returns-in_default-clause-served c =
    let a = c.args in
    let pre = c.requires in
    let k = slot_record a.w in
    let leaves = subst (λ (found : Option Leave). Leaves k (taken a.bits.now a.p.x) (entry_then k a.p a.calendar.now) found (OffThen k a.p a.cells.now a.links.now a.words.now)) c.in_default.is c.in_ok-leaves.ensures in
    let stored = c.store.ensures in
    none_done a.w a.b a.j a.p (take 53 (drop (53 * a.i) a.arrivals.now)) a.cells.now a.links.now a.calendar.now a.words.now a.bits.now a.arrived.now pre.ready_in pre.spotted_in leaves.entry_fits
    _ _ _ _ _ _ _ a.departures.now _ _ a.i leaves.departs.0 leaves.departs.1 refl
    stored.cells stored.links stored.calendar stored.words stored.bits stored.arrived c.put_answer.ensures pre.octets_in_bounds.1.departure

pub leave-requires : goal.leave-requires
leave-requires c =
    let a = c.args in
    let pre = c.requires in
    let k = slot_record a.w in
    let leaves = subst (λ (found : Option Leave). Leaves k (taken a.bits.now a.p.x) (entry_then k a.p a.calendar.now) found (OffThen k a.p a.cells.now a.links.now a.words.now)) c.in-Some.is c.in_ok-leaves.ensures in
    let goes = leaves.departs in
    let sized = pre.ready_in.sized in
    let cell = take 53 (drop (53 * a.i) a.arrivals.now) in
    let stored = c.store.ensures in
    let shows = leave_shows a.w a.b a.j a.p cell a.cells.now a.links.now a.calendar.now a.words.now a.bits.now a.arrived.now pre.ready_in pre.spotted_in leaves.entry_fits _ goes in
    let kept = c.store.auto in
    record {
      may_leave = (
        omega (arith, sized.words_long, shows.0, kept),
        omega (arith, shows.0, sized.v_high),
        read_same _ _ _ stored.words shows.1,
        omega (arith, sized.turn_low, sized.n_high),
        omega (arith, kept, sized.calendar_long, sized.turn_low),
        low_most a.w.n _ a.w.outtail _ (omega (arith, sized.links_long, kept)) sized.n_high
            (follow_low a.w a.b a.j a.p cell a.cells.now a.links.now a.calendar.now a.words.now a.bits.now a.arrived.now pre.ready_in pre.spotted_in leaves.entry_fits _ goes),
        omega (arith, goes.space_low, sized.n_high),
        omega (arith, sized.bits_long, kept),
        rw stored.bits (still_held a.w a.b a.j a.p cell a.cells.now a.links.now a.calendar.now a.words.now a.bits.now a.arrived.now pre.ready_in pre.spotted_in leaves.entry_fits _ goes),
        omega (arith, sized.cells_long_lem, goes.space_low, kept),
      );
      handed_to = pre.octets_in_bounds.1;
    }

pub returns-clause-served : goal.returns-clause-served
returns-clause-served c =
    let a = c.args in
    let pre = c.requires in
    let k = slot_record a.w in
    let leaves = subst (λ (found : Option Leave). Leaves k (taken a.bits.now a.p.x) (entry_then k a.p a.calendar.now) found (OffThen k a.p a.cells.now a.links.now a.words.now)) c.in-Some.is c.in_ok-leaves.ensures in
    let stored = c.store.ensures in
    let left = c.leave.ensures in
    leave_done a.w a.b a.j a.p (take 53 (drop (53 * a.i) a.arrivals.now)) a.cells.now a.links.now a.calendar.now a.words.now a.bits.now a.arrived.now pre.ready_in pre.spotted_in leaves.entry_fits _ leaves.departs
    _ _ _ _ _ _ _ _ _ _ _ _ _ _ _ a.i refl stored.cells stored.links left.links
    stored.calendar left.calendar stored.words left.words stored.bits left.bits
    stored.arrived
    left.shown left.told pre.octets_in_bounds.1.departure
