-- `call_tally::add_all` meets its contract: after i bins the sum on 64 bits is theirs, and what lies over all of them covers each.
use Rattle.std.proofs.Common.{◌≡◌, length, get_or, take, refl, add-one, arith, rules}
use Rattle.call_tally.specs.Tally.{sum}
use Rattle.call_tally.proofs.Sums.{over_more, sum_more, sum_none}
use Rattle.call_tally.proofs.add_all.Goals as goal

pub loop-bin-init : goal.loop-bin-init
loop-bin-init c =
    let z = sum_none c.args.bins.now in record { wraps = rw z refl; covers = omega (arith, z); within = omega (arith, z) }

pub loop-bin-preserved : goal.loop-bin-preserved
loop-bin-preserved c =
    let l = c.args.bins.now in
    let i = c.loop-bin.bin-index in
    let n : length l ≡ 64 = search rules in
    rw (add-one i, sum_more l i (omega (arith, n, c.loop-bin-test.true))) (over_more i (sum (take i l)) c.loop-bin.sum c.loop-bin.any (get_or l i 0) c.loop-bin.invariant)
