-- `call_audit::fill_spaces` gives each of the n spaces that is not free 1: those below x are done, at each turn.
use mathlib.Core.Path.{◌≡◌}
use Prim.Native.Nat.{ℕ}
use lib.ListN.{get_or}
use Rattle.call_audit.specs.Budgets.{inside}
use Rattle.call_audit.proofs.fill_spaces.Given as goal

abbrev pub invariant-loop-x : goal.invariant-loop-x
invariant-loop-x l = (k : ℕ) → get_or l.b k 0 ≡ inside l.bits k l.x
