-- `mem_walks::Walks::walk` walks a chain: what remains of the walk is the whole of it, at each turn, and the spaces' budget falls.
use mathlib.Core.Path.{◌≡◌}
use Rattle.mem_walks.specs.Budget.{sum}
use Rattle.mem_walks.specs.Walk.{named_by, walk}
use Rattle.mem_walks.proofs.Walks.walk.Given as goal

abbrev pub invariant-loop-waits : goal.invariant-loop-waits
invariant-loop-waits l =
    walk l.self.links.now (named_by l.self) l.tail l.x l.spaces l.waits ≡ walk l.self.links.now (named_by l.self) l.tail l.head l.initial.spaces l.initial.waits

abbrev pub decreases-loop-waits : goal.decreases-loop-waits
decreases-loop-waits l = sum l.spaces
