-- The seat of an accepted cell by its tests, and whether a space is free once another one is taken.
use Prim.Native.Nat.{ℕ}
use mathlib.Core.Path.{◌≡◌, refl, sym, ◌∙◌, ap}
use mathlib.Core.Logic.{◌≢◌}
use mathlib.Core.Bool.{Bool, true, false, ◌&&◌}
use mathlib.Core.List.{List}
use Rattle.std.specs.Prelude.{None}
use borrow.Author.Tests.{eq-eqb, ne_eqb}
use Rattle.meaning.specs.declared.Record.{Record}
use Rattle.meaning.specs.Plain.{when◌then◌else◌}
use Rattle.meaning.specs.Bits.{is_free_space, spaces_fit, lowest_free, taken}
use Rattle.meaning.proofs.BitsLaws.{taken_own, taken_other}
use Rattle.mem_lists.specs.Spaces.{seat_of}
use Rattle.slot_plan.specs.Plan.{seat_now}

module _ (k : Record) (D : ℕ) (calendar bits : List ℕ) where
  pub none_free : k.free ≡ 0 → None ≡ seat_now k D calendar bits
  unfolding seat_now
  none_free e = rw (eq-eqb k.free 0 e) (go (spaces_fit k.n k.free bits))
    where
      go : (b : Bool) → None ≡ (when b && false then seat_of k.n calendar k.turn D (lowest_free bits) else None)
      go true = refl
      go false = refl

  pub unfit_spaces : spaces_fit k.n k.free bits ≡ false → None ≡ seat_now k D calendar bits
  unfolding seat_now
  unfit_spaces e = rw e

  pub takes_lowest : (x : ℕ) → k.free ≢ 0 → spaces_fit k.n k.free bits ≡ true → x ≡ lowest_free bits
      → seat_of k.n calendar k.turn D x ≡ seat_now k D calendar bits
  unfolding seat_now
  takes_lowest x some fits e = rw (fits, ne_eqb k.free 0 some) (ap (seat_of k.n calendar k.turn D) e)

module _ (bits : List ℕ) (x y : ℕ) (free : is_free_space bits x ≡ true) where
  pub same_space : y ≡ x → false ≡ is_free_space (taken bits x) y
  same_space e = sym (ap (is_free_space (taken bits x)) e ∙ taken_own bits x free)

  pub other_space : y ≢ x → is_free_space bits y ≡ is_free_space (taken bits x) y
  other_space ne = sym (taken_other bits x free y ne)
