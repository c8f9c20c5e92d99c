-- A link read once another has been written, or not: the overlay's reading is the reading of the links as they will be.
use Prim.Native.Nat.{ℕ, ◌<◌}
use mathlib.Core.Path.{◌≡◌, refl}
use mathlib.Core.Logic.{◌≢◌}
use mathlib.Core.Bool.{Bool, true, false}
use mathlib.Core.List.{List}
use lib.ListN.{length, get_or, length-set}
use lib.Seq.{get_or-set_same, get_or-set_other}
use Rattle.mem_lists.specs.Spaces.{linked}

pub linked_off : (on : Bool) (i y : ℕ) (l : List ℕ) (x : ℕ) → on ≡ false → get_or (linked on i y l) x 0 ≡ get_or l x 0
unfolding linked
linked_off on i y l x e = rw e

pub linked_own : (on : Bool) (i y : ℕ) (l : List ℕ) (x : ℕ) → on ≡ true → x ≡ i → x < length l
    → get_or (linked on i y l) x 0 ≡ y
unfolding linked
linked_own on i y l x e q h = rw (e, ← q) (get_or-set_same l x y 0 h)

pub linked_other : (on : Bool) (i y : ℕ) (l : List ℕ) (x : ℕ) → on ≡ true → x ≢ i
    → get_or (linked on i y l) x 0 ≡ get_or l x 0
unfolding linked
linked_other on i y l x e ne = rw e (get_or-set_other l i x y 0 ne)

pub linked_length : (on : Bool) (i y : ℕ) (l : List ℕ) → length (linked on i y l) ≡ length l
unfolding linked
linked_length true i y l = simp length-set
linked_length false i y l = refl
