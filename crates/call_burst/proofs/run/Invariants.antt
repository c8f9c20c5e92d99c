-- `call_burst::run` meets its contract. The invariant: the sizes that are left give, from here, what all sizes give from the start.
-- The measure is what is left of the sizes.
use Prim.Native.Nat.{◌-◌}
use lib.ListN.{length}
use Rattle.call_burst.proofs.Loop.{Turning}
use Rattle.call_burst.proofs.run.Given as goal

abbrev pub invariant-loop-end : goal.invariant-loop-end
invariant-loop-end l = Turning l.arrivals l.sizes l.initial.cells l.initial.links l.initial.calendar l.initial.words l.initial.bits l.initial.arrived l.initial.departures l.initial.answers l.initial.end l.cells l.links l.calendar l.words l.bits l.arrived l.departures l.answers l.end

abbrev pub decreases-loop-end : goal.decreases-loop-end
decreases-loop-end l = length l.sizes - l.end.done
