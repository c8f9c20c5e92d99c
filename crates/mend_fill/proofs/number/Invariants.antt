-- `mend_fill::number` makes the digits from the last to the first: what is left of the number has its digits in front of those
-- that stand already.
use Prim.Native.Nat.{suc, ◌^◌, ◌≤◌, ◌<◌}
use mathlib.Core.Path.{◌≡◌}
use mathlib.Core.List.{◌++◌}
use lib.ListN.{length, drop}
use Rattle.list_lines.specs.Text.{decimal}
use Rattle.mend_fill.specs.Lines.{numeral}
use Rattle.mend_fill.proofs.number.Given as goal

abbrev pub invariant-loop-rest : goal.invariant-loop-rest
invariant-loop-rest l = (l.i ≤ 19) × (l.rest < 10 ^ suc l.i) × (length l.digits ≡ 20) × (numeral l.n ≡ decimal (suc l.i) l.rest ++ drop (suc l.i) l.digits)

abbrev pub decreases-loop-rest : goal.decreases-loop-rest
decreases-loop-rest l = l.rest
