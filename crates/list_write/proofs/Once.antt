-- What a listing handed over may leave: after so many fills one result only, and where it was all handed over there is one
-- number of fills. What stays open is the writer's: at which fill it says no.
use Prim.Native.Nat.{ℕ}
use mathlib.Core.Path.{◌≡◌, subst}
use mathlib.Core.Bool.{Bool, true}
use mathlib.Core.List.{List}
use Rattle.list_whole.specs.Run.{World}
use Rattle.list_whole.specs.Fill.{Fills}
use Rattle.list_whole.proofs.Once.{fills_once, fills_count}
use Rattle.list_write.specs.Listed.{Left, Handed}

module _ (input : List ℕ) {w : World} {out a-out b-out : List ℕ} {a-left b-left : Left} {x y : Bool} where
  -- what was handed over, the run with the memories, and the buffer
  pub handed_once : (a : Handed input w out a-left a-out x) (b : Handed input w out b-left b-out y) → a.count ≡ b.count
      → (a.text ≡ b.text) × (a-left a.run ≡ b-left b.run) × (a-out ≡ b-out)
  handed_once a b e =
      fills_once input (subst (λ (k : ℕ). Fills input w out k a.text (a-left a.run) a-out) e a.fills) b.fills

  -- two that say yes handed over as many fills
  pub handed_whole : (a : Handed input w out a-left a-out x) (b : Handed input w out b-left b-out y) → x ≡ true → y ≡ true
      → a.count ≡ b.count
  handed_whole a b p q = fills_count input a.fills (a.whole p).0 b.fills (b.whole q).0
