-- `call_tallied::run` meets its contract. The invariant: the sizes that are left give, from here, what all sizes give from the start; and
-- the tally stands.
use mathlib.Core.Path.{◌≡◌, refl, ap, sym, ◌∙◌}
use native.Mathlib.Omega.{arith}
use lib.ListN.{length}
use Rattle.call_tallied.proofs.Turns.{tallied_stop, tallied_end}
use Rattle.call_tallied.proofs.Loop.{reached, goes_on}
use Rattle.call_tallied.proofs.run.Goals as goal

pub loop-i-init : goal.loop-i-init
loop-i-init c =
    record {
      low = omega arith;
      shaped = c.requires.shaped;
      bins_long = c.requires.bins_long;
      cells_kept = refl;
      links_kept = refl;
      calendar_kept = refl;
      words_kept = refl;
      bits_kept = refl;
      arrived_kept = refl;
      departures_kept = refl;
      answers_kept = refl;
      stands = c.requires.stands;
      rest = refl;
    }

pub returns-then-end-ne0 : goal.returns-then-end-ne0
returns-then-end-ne0 c =
    let h = c.loop-i in
    let a = c.args in
    let b = reached h.last h.tally h.cells h.links h.calendar h.words h.bits h.arrived h.departures h.answers h.i in
    tallied_stop a.arrivals.now a.connection a.sizes.now h.i c.loop-i-test.true b _ c.one_tallied-end.ensures c.if-end-ne0.true
    ∙ h.invariant.rest

pub loop-i-preserved : goal.loop-i-preserved
loop-i-preserved c =
    let h = c.loop-i in
    let o = c.one_tallied-end in
    goes_on _ _ _ _ _ _ _ _ _ _ _ _ _ h.cells h.links h.calendar h.words h.bits h.arrived h.departures h.answers h.last h.tally h.i
    _ _ _ _ _ _ _ _ _ _ _ _ h.invariant c.loop-i-test.true o.ensures c.if-end-ne0.false
    (omega (arith, o.auto)) (omega (arith, o.auto)) (omega (arith, o.auto)) (omega (arith, o.auto)) (omega (arith, o.auto)) (omega (arith, o.auto)) (omega (arith, o.auto)) (omega (arith, o.auto))

pub returns : goal.returns
returns c =
    let h = c.loop-i in
    let a = c.args in
    let b = reached h.last h.tally h.cells h.links h.calendar h.words h.bits h.arrived h.departures h.answers in
    let e : h.i ≡ length a.sizes.now = omega (arith, h.invariant.low, c.loop-i-test.false) in
    ap b (sym e)
    ∙ tallied_end a.arrivals.now a.connection a.sizes.now h.i (b h.i) (omega (arith, e))
    ∙ h.invariant.rest
