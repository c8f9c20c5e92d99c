-- `list_fill::fill_trace` makes steps while there is room: the invariant is the steps so far, the measure the run's weight.
use Prim.Native.Nat.{ℕ, ◌≤◌}
use mathlib.Core.Bool.{Bool}
use mathlib.Core.List.{List}
use lib.ListN.{length}
use Rattle.list_whole.specs.declared.Memory.{Memory}
use Rattle.list_whole.specs.declared.Run.{Run}
use Rattle.list_whole.specs.Fill.{Ran}
use Rattle.list_whole.specs.Lent.{world_in, SameMemory}
use Rattle.list_whole.proofs.Weight.{weight}
use Rattle.list_fill.proofs.fill_trace.Given as goal

-- the steps so far
pub record Filling (more : Bool) (trace : List ℕ) (run₀ : Run) (m₀ : Memory) (out₀ : List ℕ) (run : Run) (m : Memory) (out : List ℕ) (used : ℕ) : Type 0 where
  pub steps : ℕ
  pub ran : Ran more trace steps (world_in run₀ m₀) out₀ 0 (world_in run m) out used
  pub within : used ≤ length out₀
  pub same : SameMemory m₀ m

abbrev pub invariant-loop-out : goal.invariant-loop-out
invariant-loop-out l = Filling l.more l.trace l.initial.now l.initial.memory l.initial.out l.now l.memory l.out l.used

abbrev pub decreases-loop-out : goal.decreases-loop-out
decreases-loop-out l = weight (length l.trace) (world_in l.now l.memory)
