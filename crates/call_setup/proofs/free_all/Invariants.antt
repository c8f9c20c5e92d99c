-- `call_setup::free_all` meets its contract: the words before w are those in which spaces 0 to N-1 are free, at each turn.
use Rattle.call_setup.proofs.Fulls.{Full}
use Rattle.call_setup.proofs.free_all.Given as goal

abbrev pub invariant-loop-w : goal.invariant-loop-w
invariant-loop-w l = Full l.n l.initial.bits l.bits l.w
