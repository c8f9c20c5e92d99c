-- `mend_write::count_on` counts what the reads answered: the invariant is the answers so far. It ends, since each read that
-- goes on adds an octet, and the number is bounded.
use Prim.Native.Nat.{◌-◌}
use mathlib.Core.Path.{◌≡◌}
use lib.ListN.{length}
use Rattle.mend_write.proofs.ReadLaws.{Sofar}
use Rattle.mend_write.proofs.count_on.Given as goal

abbrev pub invariant-loop-total : goal.invariant-loop-total
invariant-loop-total g l = Sofar l.before l.total × (length l.chunk ≡ 65536)

abbrev pub decreases-loop-total : goal.decreases-loop-total
decreases-loop-total g l = 18446744073709551615 - l.total
