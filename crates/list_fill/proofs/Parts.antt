-- A fill that was made with the parts in a struct.
use Prim.Native.Nat.{ℕ}
use mathlib.Core.Path.{◌≡◌}
use mathlib.Core.Bool.{Bool}
use mathlib.Core.List.{List}
use Rattle.list_whole.specs.declared.Memory.{Memory}
use Rattle.list_whole.specs.declared.Run.{Run}
use Rattle.list_whole.specs.Run.{World, world_of}
use Rattle.list_whole.specs.Fill.{FillOf}
use Rattle.list_whole.specs.Lent.{world_in}

-- each part ended as the struct has it
pub filled_back : {more : Bool} {trace out out' : List ℕ} {used : ℕ} {before : World} {run : Run} (m : Memory) {c l k w g a : List ℕ}
    → c ≡ m.cells.now → l ≡ m.links.now → k ≡ m.calendar.now → w ≡ m.words.now → g ≡ m.bits.now → a ≡ m.arrived.now
    → FillOf more trace before out (world_in run m) out' used
    → FillOf more trace before out (world_of run c l k w g a) out' used
filled_back m e1 e2 e3 e4 e5 e6 f = rw (e1, e2, e3, e4, e5, e6) f
