-- `call_burst::stretch` meets its contract. The invariant: the sizes that are left give, from here, what they give from where the run
-- began.
use Rattle.call_burst.proofs.LikelyLaws.{Running}
use Rattle.call_burst.proofs.stretch.Given as goal

abbrev pub invariant-loop-i : goal.invariant-loop-i
invariant-loop-i l = Running l.arrivals l.sizes l.begin l.stop l.initial.cells l.initial.links l.initial.calendar l.initial.words l.initial.bits l.initial.arrived l.initial.departures l.initial.answers l.initial.w l.cells l.links l.calendar l.words l.bits l.arrived l.departures l.answers l.w l.i
