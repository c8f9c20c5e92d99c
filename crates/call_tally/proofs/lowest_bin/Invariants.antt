-- `call_tally::lowest_bin` meets its contract: the bins before bin i did not reach what is needed, so the lowest is i more than that
-- from bin i on.
use Rattle.std.proofs.Common.{◌≡◌, ◌+◌, take, drop}
use Rattle.call_tally.specs.Tally.{sum, lowest}
use Rattle.call_tally.proofs.lowest_bin.Given as goal

abbrev pub invariant-loop-i : goal.invariant-loop-i
invariant-loop-i l = (l.running ≡ sum (take l.i l.bins)) × (lowest l.need 0 l.bins ≡ l.i + lowest l.need l.running (drop l.i l.bins))
