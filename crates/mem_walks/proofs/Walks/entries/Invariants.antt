-- `mem_walks::Walks::entries` walks the time slot queues: what remains of the entries is the whole of them, at each turn.
use mathlib.Core.Path.{◌≡◌}
use Prim.Native.Nat.{◌-◌}
use Rattle.mem_walks.specs.Walk.{named_by, entries_of}
use Rattle.mem_walks.proofs.Walks.entries.Given as goal

abbrev pub invariant-loop-e : goal.invariant-loop-e
invariant-loop-e l =
    entries_of l.self.links.now l.calendar (named_by l.self) (l.n - l.e) l.e l.spaces l.waits
    ≡ entries_of l.self.links.now l.calendar (named_by l.self) l.n 0 l.initial.spaces l.initial.waits
