-- `text_print::fill` puts line after line: the invariant is what it has made so far, the measure what is left of the trace.
use Prim.Native.Nat.{◌-◌}
use lib.ListN.{length}
use Rattle.text_print.proofs.Made.{Made}
use Rattle.text_print.proofs.fill.Given as goal

abbrev pub invariant-loop-out : goal.invariant-loop-out
invariant-loop-out l = Made l.trace l.at l.initial.out l.place l.out l.used

abbrev pub decreases-loop-out : goal.decreases-loop-out
decreases-loop-out l = length l.trace - l.place
