-- `list_fill::pause` makes count slots of a pause: after i turns, i steps.
use Prim.Native.Nat.{ℕ, ◌+◌, ◌*◌, ◌≤◌}
use mathlib.Core.Path.{◌≡◌}
use mathlib.Core.Bool.{Bool, false}
use mathlib.Core.List.{List}
use Rattle.list_whole.specs.declared.Memory.{Memory}
use Rattle.list_whole.specs.declared.Run.{Run}
use Rattle.list_whole.specs.Fill.{Ran}
use Rattle.list_whole.specs.Lent.{world_in, SameMemory}
use Rattle.list_fill.proofs.pause.Given as goal

-- after i slots
pub record Paused (trace : List ℕ) (run₀ : Run) (m₀ : Memory) (out₀ : List ℕ) (used : ℕ) (run : Run) (m : Memory) (out : List ℕ) (end i : ℕ) : Type 0 where
  pub ran : (more : Bool) → Ran more trace i (world_in run₀ m₀) out₀ used (world_in run m) out end
  pub few : end ≤ used + i * 64
  pub left : run.left + i ≡ run₀.left
  pub going : run.done ≡ false
  pub same : SameMemory m₀ m

abbrev pub invariant-loop : goal.invariant-loop
invariant-loop l = Paused l.trace l.initial.now l.initial.memory l.initial.out l.used l.now l.memory l.out l.end l.counter
