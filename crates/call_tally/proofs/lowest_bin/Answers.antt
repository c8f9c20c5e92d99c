-- `call_tally::lowest_bin` meets its contract: the bins before bin i did not reach what is needed, so the lowest is i more than that
-- from bin i on.
use Rattle.std.proofs.Common.{◌≡◌, suc, ◌^◌, ◌<◌, length, take, sym, refl, ap, add-one, arith, take_all, rules}
use Rattle.call_tally.specs.Tally.{sum, most_cells}
use Rattle.call_tally.proofs.Sums.{sum_more, sum_take_le, sum_none}
use Rattle.call_tally.proofs.Cases.{lowest_here, lowest_next}
use Rattle.call_tally.proofs.lowest_bin.Goals as goal

low : most_cells ≡ 2 ^ 32
unfolding most_cells
low = refl

pub loop-i-init : goal.loop-i-init
loop-i-init c = (sym (sum_none c.args.bins.now), omega arith)

pub overflow_add-running : goal.overflow_add-running
overflow_add-running c =
    let l = c.args.bins.now in
    let i = c.loop-i.i in
    let n : length l ≡ 64 = search rules in
    rw c.from.ensures (omega (arith, low, c.requires.0, c.loop-i.invariant.0, sum_more l i (omega (arith, n)), sum_take_le l (suc i)))

pub overflow_mul-running : goal.overflow_mul-running
overflow_mul-running c =
    let l = c.args.bins.now in
    let i = c.loop-i.i in
    let n : length l ≡ 64 = search rules in
    rw c.from.ensures (omega (arith, low, c.requires.0, c.loop-i.invariant.0, sum_more l i (omega (arith, n)), sum_take_le l (suc i)))

pub returns-then-running-need : goal.returns-then-running-need
returns-then-running-need c =
    let l = c.args.bins.now in
    let o = c.loop-i in
    let n : length l ≡ 64 = search rules in
    let z = lowest_here c.args.need l o.i o.running (omega (arith, n)) (rw c.from.ensures at c.if-running-need.true) in
    omega (arith, z, o.invariant.1)

pub loop-i-preserved : goal.loop-i-preserved
loop-i-preserved c =
    let l = c.args.bins.now in
    let o = c.loop-i in
    let n : length l ≡ 64 = search rules in
    let h : o.i < length l = omega (arith, n) in
    let z = lowest_next c.args.need l o.i o.running h (rw c.from.ensures at c.if-running-need.false) in (
      rw (c.from.ensures, add-one o.i) (omega (arith, o.invariant.0, sum_more l o.i h)),
      rw (c.from.ensures, add-one o.i) (omega (arith, z, o.invariant.1)),
    )

pub returns : goal.returns
returns c =
    let l = c.args.bins.now in
    let p = c.requires in
    let o = c.loop-i in
    let n : length l ≡ 64 = search rules in
    let e : o.i ≡ 63 = omega arith in
    let all : sum (take 64 l) ≡ sum l = ap sum (take_all 64 l (omega (arith, n))) in
    let r = rw e at o.invariant.0 in
    let z = lowest_here c.args.need l 63 o.running (omega (arith, n)) (omega (arith, all, r, p.1, sum_more l 63 (omega (arith, n)))) in
    omega (arith, z, rw e at o.invariant.1)
