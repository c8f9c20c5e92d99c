-- `mend_fill::pieces` takes pieces while there are some and both buffers have room: the invariant is what was taken so far, and
-- each step leads on.
use Prim.Native.Nat.{◌-◌, ◌≤◌}
use lib.ListN.{length}
use Rattle.mend_fill.proofs.FillLaws.{Done}
use Rattle.mend_fill.proofs.pieces.Given as goal

abbrev pub invariant-loop-f : goal.invariant-loop-f
invariant-loop-f l =
    Done l.trace l.total l.at (length l.initial.out) (length l.initial.text) l.initial.out l.initial.text l.out l.text l.f.at l.f.written l.f.listed
    × (l.f.written ≤ length l.initial.out)
    × (l.f.listed ≤ length l.initial.text)

abbrev pub decreases-loop-f : goal.decreases-loop-f
decreases-loop-f l = l.total - l.f.at
