-- `text_show::hand_over` fills and writes until no record stands there: the invariant is the fills so far, the measure what is
-- left of the trace.
use Prim.Native.Nat.{◌-◌}
use lib.ListN.{length}
use Rattle.text_show.proofs.Whole.{Going}
use Rattle.text_show.proofs.hand_over.Given as goal

abbrev pub invariant-loop-out : goal.invariant-loop-out
invariant-loop-out g l = Going l.trace (g.W.Write.contents l.initial.to) (g.W.Write.contents l.to) l.initial.out l.at l.out

abbrev pub decreases-loop-out : goal.decreases-loop-out
decreases-loop-out g l = length l.trace - l.at
