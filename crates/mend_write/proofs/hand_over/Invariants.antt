-- `mend_write::hand_over` fills and writes until the input's end is reached: the invariant is the fills so far, and each leads on.
use Prim.Native.Nat.{◌-◌}
use Rattle.mend_write.proofs.Whole.{Going}
use Rattle.mend_write.proofs.hand_over.Given as goal

abbrev pub invariant-loop-at : goal.invariant-loop-at
invariant-loop-at g l = Going l.trace l.total l.initial.out l.initial.text (g.M.Write.contents l.initial.mended) (g.M.Write.contents l.mended)
    (g.L.Write.contents l.initial.list) (g.L.Write.contents l.list) l.at l.out l.text

abbrev pub decreases-loop-at : goal.decreases-loop-at
decreases-loop-at g l = l.total - l.at
