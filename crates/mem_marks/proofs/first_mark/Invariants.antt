-- `mem_marks::first_mark` meets its contract: at each turn no entry from `from` on is marked in the words before i.
use Prim.Native.Nat.{◌-◌, ◌*◌, ◌≤◌}
use Rattle.mem_marks.specs.First.{NoMark}
use Rattle.mem_marks.proofs.first_mark.Given as goal

abbrev pub invariant-loop-i : goal.invariant-loop-i
invariant-loop-i l = (17 ≤ l.i) × (l.from ≤ 64 * l.i - 1024) × NoMark l.bits l.from (64 * l.i - 1024)
