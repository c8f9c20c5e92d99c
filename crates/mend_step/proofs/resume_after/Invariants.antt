-- `resume_after`: the places passed don't meet the rule, so the search from p goes on from q.
use Prim.Native.Nat.{◌-◌}
use mathlib.Core.Path.{◌≡◌}
use lib.ListN.{length}
use Rattle.mend_step.specs.Salvage.{first_of, resume}
use Rattle.mend_step.proofs.resume_after.Given as goal

abbrev pub invariant-loop-q : goal.invariant-loop-q
invariant-loop-q l = resume l.trace l.total l.p ≡ first_of l.trace l.total (length l.trace - l.q) l.q
