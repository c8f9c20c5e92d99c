-- `call_burst::advance` meets its contract. The invariant: the sizes that are left give, from here, what they give from where it began.
-- The measure is what is left of the sizes.
use Prim.Native.Nat.{◌-◌}
use lib.ListN.{length}
use Rattle.call_burst.proofs.LikelyLaws.{Going}
use Rattle.call_burst.proofs.advance.Given as goal

abbrev pub invariant-runs : goal.invariant-runs
invariant-runs l = Going l.arrivals l.sizes l.begin l.initial.cells l.initial.links l.initial.calendar l.initial.words l.initial.bits l.initial.arrived l.initial.departures l.initial.answers l.initial.far l.cells l.links l.calendar l.words l.bits l.arrived l.departures l.answers l.far

abbrev pub decreases-runs : goal.decreases-runs
decreases-runs l = length l.sizes - l.far.i
