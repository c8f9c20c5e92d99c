-- `mem_bits::lowest` meets its contract: at each turn the words before i are 0, so that the lowest free space is that of the words from i on.
use Prim.Native.Nat.{◌-◌}
use mathlib.Core.Path.{◌≡◌}
use Rattle.meaning.specs.Bits.{lowest_from, lowest_free}
use Rattle.mem_bits.proofs.lowest.Given as goal

abbrev pub invariant-loop-i : goal.invariant-loop-i
invariant-loop-i l = lowest_from (16 - l.i) l.i l.bits ≡ lowest_free l.bits
