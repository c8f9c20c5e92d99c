-- `call_tally::add_all` meets its contract: after i bins the sum on 64 bits is theirs, and what lies over all of them covers each.
use Rattle.std.proofs.Common.{take}
use Rattle.call_tally.specs.Tally.{sum}
use Rattle.call_tally.proofs.Sums.{Over}
use Rattle.call_tally.proofs.add_all.Given as goal

abbrev pub invariant-loop-bin : goal.invariant-loop-bin
invariant-loop-bin l = Over l.bin-index (sum (take l.bin-index l.bins)) l.sum l.any
