-- `call_burst::stretch` meets its contract. The invariant: the sizes that are left give, from here, what they give from where the run
-- began.
use mathlib.Core.Path.{◌≡◌, ◌∙◌}
use native.Mathlib.Omega.{arith}
use Rattle.call_burst.specs.Burst.{cell_lent}
use Rattle.call_burst.proofs.LikelyLaws.{before_step, next_held, next_room, next_rest, odd_held, odd_rest}
use Rattle.call_burst.proofs.stretch.Goals as goal

pub slot-requires : goal.slot-requires
slot-requires c =
    let at = c.loop-i in
    let inv = at.invariant in
    let h = inv.held in
    let z = h.shaped in
    let pre = c.requires in
    let lent = pre.burst_lent in
    let low = c.loop-i-test.true in
    record {
      ready_in = record {
        sized = record { n_low = z.n_low; n_high = z.n_high; v_low = z.v_low; v_high = z.v_high; cells_long_lem = z.cells_long_lem; links_long = z.links_long; calendar_long = z.calendar_long; words_long = z.words_long; bits_long = z.bits_long; arrived_long = z.arrived_long; turn_low = omega (arith, low, inv.room.turn_room); rotation_low = omega (arith, low, inv.room.rotation_room) };
        names = h.names;
        spaces_fit_lem = h.spaces_fit_lem;
        output_fits = h.output_fits;
        unused_closed = inv.room.unused_closed (omega (arith, low));
      };
      octets_in_bounds = (
        omega (arith, low, lent.arrivals_long, pre.begin_le_stop.1),
        record { departure = omega (arith, low, lent.departures_long, pre.begin_le_stop.1, at.auto.departures); answer = omega (arith, low, lent.answers_long, pre.begin_le_stop.1, at.auto.answers) },
      );
    }

pub returns-in_default : goal.returns-in_default
returns-in_default c =
    let at = c.loop-i in
    let a = c.args in
    let stay = c.in_default.ensures.is in
    record { held = odd_held a.arrivals.now a.sizes.now at.i at.w at.cells at.links at.calendar at.words at.bits at.arrived at.departures at.answers _ _ _ _ _ _ _ _ stay at.invariant.held; far = (at.auto.i, omega (arith, c.loop-i-test.true)); rest = odd_rest a.arrivals.now a.sizes.now at.i at.w at.cells at.links at.calendar at.words at.bits at.arrived at.departures at.answers _ _ _ _ _ _ _ _ stay ∙ at.invariant.rest }

pub stepped-w-requires : goal.stepped-w-requires
unfolding cell_lent
stepped-w-requires c =
    let at = c.loop-i in
    let a = c.args in
    let pre = c.requires in
    let went = c.in-Some.g in
    let e = c.in-Some.ensures in
    rw c.with_ends.ensures (before_step a.arrivals.now a.sizes.now a.stop at.i at.w at.cells at.links at.calendar at.words at.bits at.arrived at.departures at.answers went.free went.outhead went.outtail _ _ _ _ _ _ _ _ at.invariant.held at.invariant.room c.loop-i-test.true pre.begin_le_stop.1 pre.burst_lent.arrivals_long e.fits e.clean e.is)

pub loop-i-preserved : goal.loop-i-preserved
unfolding cell_lent
loop-i-preserved c =
    let at = c.loop-i in
    let a = c.args in
    let d = c.in-Some.ensures.is in
    let fits = c.in-Some.ensures.fits in
    let clean = c.in-Some.ensures.clean in
    let went = c.in-Some.g in
    let low = c.loop-i-test.true in
    let most = c.requires.begin_le_stop.1 in
    let long = c.requires.burst_lent.arrivals_long in
    record {
      held = rw (c.stepped-w.ensures, c.with_ends.ensures) (next_held a.arrivals.now a.sizes.now a.stop at.i at.w at.cells at.links at.calendar at.words at.bits at.arrived at.departures at.answers went.free went.outhead went.outtail _ _ _ _ _ _ _ _ at.invariant.held at.invariant.room low most long fits clean d (omega arith) (omega arith) (omega arith) (omega arith) (omega arith) (omega arith));
      room = rw (c.stepped-w.ensures, c.with_ends.ensures) (next_room a.arrivals.now a.sizes.now a.stop at.i at.w at.cells at.links at.calendar at.words at.bits at.arrived at.departures at.answers went.free went.outhead went.outtail _ _ _ _ _ _ _ _ at.invariant.held at.invariant.room low most long fits clean d);
      rest = rw (c.stepped-w.ensures, c.with_ends.ensures) (next_rest a.arrivals.now a.sizes.now a.stop at.i at.w at.cells at.links at.calendar at.words at.bits at.arrived at.departures at.answers went.free went.outhead went.outtail _ _ _ _ _ _ _ _ at.invariant.held at.invariant.room low most long fits clean d) ∙ at.invariant.rest;
    }

pub returns : goal.returns
returns c =
    let at = c.loop-i in
    let pre = c.requires in
    let end : at.i ≡ c.args.stop = omega (arith, c.loop-i-test.false, at.auto.i-end pre.begin_le_stop.0) in
    record { held = at.invariant.held; far = (pre.begin_le_stop.0, omega arith); rest = rw (← end) at.invariant.rest }
