-- `mem_cell::copy_cell` meets its contract: each loop's invariant says that the octets passed so far are those of its source.
use Prim.Native.Nat.{ℕ, ◌<◌}
use mathlib.Core.Path.{◌≡◌}
use lib.ListN.{length, get_or}
use Rattle.mem_cell.proofs.copy_cell.Given as goal

abbrev pub invariant-loop-i : goal.invariant-loop-i
invariant-loop-i l = (length l.held ≡ 53) × ((k : ℕ) → k < l.i → get_or l.held k 0 ≡ get_or l.cell k 0)

abbrev pub invariant-loop-k : goal.invariant-loop-k
invariant-loop-k l = (j : ℕ) → j < l.k → get_or l.part j 0 ≡ get_or l.held j 0
