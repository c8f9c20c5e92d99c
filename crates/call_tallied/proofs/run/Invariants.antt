-- `call_tallied::run` meets its contract. The invariant: the sizes that are left give, from here, what all sizes give from the start; and
-- the tally stands.
use Rattle.call_tallied.proofs.Loop.{Going}
use Rattle.call_tallied.proofs.run.Given as goal

abbrev pub invariant-loop-i : goal.invariant-loop-i
invariant-loop-i l = Going l.connection l.arrivals l.sizes l.initial.cells l.initial.links l.initial.calendar l.initial.words l.initial.bits l.initial.arrived l.initial.departures l.initial.answers l.initial.last l.initial.tally l.cells l.links l.calendar l.words l.bits l.arrived l.departures l.answers l.last l.tally l.i
