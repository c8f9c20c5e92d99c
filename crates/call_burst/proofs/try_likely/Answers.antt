-- `call_burst::try_likely` meets its contract: a record that may not be tried stays; from one that may, the runs lead on, and back to a record.
use mathlib.Core.Path.{◌∙◌, ap}
use Rattle.meaning.specs.declared.Record.{Record}
use Rattle.meaning.specs.State.{state_of}
use Rattle.call_burst.specs.Burst.{stretch_of, slots}
use Rattle.call_burst.proofs.LikelyLaws.{way_low, way_held, held_fits, last_shaped}
use lib.ListN.{drop}
use Rattle.call_burst.proofs.try_likely.Goals as goal

pub advance-f-requires : goal.advance-f-requires
advance-f-requires c =
    let a = c.args in
    let z = c.requires.shaped_2 in
    let t = c.may_try.ensures c.if-not-may_try.false in
    let e = c.way_of-from.ensures.slot in
    let m = c.way_of-from.ensures.mask in
    let low = way_low a.ctl a.cells.now a.links.now a.calendar.now a.words.now a.bits.now a.arrived.now z t _ e m in
    record { burst_lent = c.requires.burst_lent; held_in = way_held a.ctl a.cells.now a.links.now a.calendar.now a.words.now a.bits.now a.arrived.now z t _ e m; begin_in_bounds = (c.requires.begin_in_bounds, low.0, low.1) }

pub record_of-requires : goal.record_of-requires
record_of-requires c = held_fits _ _ _ _ _ _ _ c.advance-f.ensures.held

pub returns : goal.returns
returns c =
    let a = c.args in
    let far = c.advance-f.ensures.far in
    let r = c.record_of.ensures in
    record {
      far = far;
      shaped = rw r (last_shaped _ _ _ _ _ _ _ c.advance-f.ensures.held);
      rest = rw r
          (c.advance-f.ensures.rest
          ∙ ap (λ (q : Record). slots a.arrivals.now (drop a.begin a.sizes.now) (stretch_of (state_of q a.cells.now a.links.now a.calendar.now a.words.now a.bits.now a.arrived.now) a.departures.now a.answers.now 0 a.begin))
          c.way_of-from.ensures.last);
    }
