-- `list_write::write_fills` fills and writes until the run is done: the invariant is the fills so far, the measure the run's
-- weight. A write that fails leaves the fills that were handed over, the last among them.
use mathlib.Core.Path.{◌≡◌}
use lib.ListN.{length, take}
use Rattle.std.specs.Io.KnownBytes.{Appends}
use Rattle.list_meaning.specs.Trace.{limit}
use Rattle.list_whole.specs.Lent.{world_in, SameMemory}
use Rattle.list_whole.proofs.Weight.{weight}
use Rattle.list_write.proofs.Made.{Made}
use Rattle.list_write.proofs.write_fills.Given as goal

abbrev pub invariant-loop-run : goal.invariant-loop-run
invariant-loop-run g l =
    (m : Made l.input (world_in l.initial.run l.initial.memory) (world_in l.run l.memory) l.initial.out l.out)
    × Appends (g.W.Write.contents l.initial.to) (g.W.Write.contents l.to) m.text
    × SameMemory l.initial.memory l.memory
    × (length l.out ≡ length l.initial.out)

abbrev pub decreases-loop-run : goal.decreases-loop-run
decreases-loop-run g l = weight (length (take limit l.input)) (world_in l.run l.memory)
