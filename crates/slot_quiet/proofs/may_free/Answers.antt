-- `slot_quiet::may_free` meets its contract: a free space may not be freed, and of any other the words alone are judged.
use Prim.Native.Nat.{ℕ}
use mathlib.Core.Path.{◌≡◌, refl, sym, ◌∙◌}
use mathlib.Core.Bool.{Bool, true, false, ◌&&◌}
use mathlib.Core.List.{List}
use Rattle.meaning.specs.Bits.{is_free_space, spaces_fit}
use Rattle.slot_plan.specs.Plan.{may_be_freed}
use Rattle.slot_quiet.proofs.may_free.Goals as goal

module _ (N free x : ℕ) (bits : List ℕ) where
  already : is_free_space bits x ≡ true → false ≡ may_be_freed N free bits x
  unfolding may_be_freed
  already e = rw e (go (spaces_fit N free bits))
    where
      go : (b : Bool) → false ≡ b && false
      go true = refl
      go false = refl

  held : is_free_space bits x ≡ false → spaces_fit N free bits ≡ may_be_freed N free bits x
  unfolding may_be_freed
  held e = rw e (go (spaces_fit N free bits))
    where
      go : (b : Bool) → b ≡ b && true
      go true = refl
      go false = refl

pub returns-then-is_free : goal.returns-then-is_free
returns-then-is_free c = already _ _ _ _ (sym c.is_free.ensures ∙ c.if-is_free.true)

pub returns : goal.returns
returns c = c.fits.ensures ∙ held _ _ _ _ (sym c.is_free.ensures ∙ c.if-is_free.false)
