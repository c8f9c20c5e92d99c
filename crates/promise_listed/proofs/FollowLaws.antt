-- A step of the old form follows one of the new: through tests that both make, through those that one makes alone, and step after step.
use Prim.Native.Nat.{ℕ}
use mathlib.Core.Path.{◌≡◌, refl, sym, subst}
use mathlib.Core.Bool.{Bool, true, false}
use mathlib.Core.List.{List}
use Rattle.meaning.specs.Plain.{when◌then◌else◌, Out, refused, next, needs, ◌and_then◌}
use Rattle.meaning.specs.State.{Ends}
use Rattle.meaning.specs.Work.{Work}
use Rattle.meaning_listed.specs.Listed.{ListedWork, work_with}
use Rattle.promise_listed.specs.Tied.{over, TiedAt, Follows}

abbrev pub Any : Ends → Type 0
Any free = Unit {0}

module _ (n : ℕ) (b : List ℕ) (P : Ends → Type 0) where
  pub needs_both : (c : Bool) (x : Out Work) (y : Out ListedWork) → (c ≡ true → Follows n b P x y) → Follows n b P (needs c x) (needs c y)
  needs_both true x y h = h refl
  needs_both false x y h = tt

  -- a test of the new form alone
  pub needs_new : (c : Bool) (x : Out Work) (y : Out ListedWork) → (c ≡ true → Follows n b P x y) → Follows n b P (needs c x) y
  needs_new true x y h = h refl
  needs_new false x y h = tt

  pub if_both : (c : Bool) (x x' : Out Work) (y y' : Out ListedWork) → (c ≡ true → Follows n b P x y) → (c ≡ false → Follows n b P x' y')
      → Follows n b P (when c then x else x') (when c then y else y')
  if_both true x x' y y' h k = h refl
  if_both false x x' y y' h k = k refl

  pub any_both : {A : Type 0} (u : Out A) (g : A → Out Work) (h : A → Out ListedWork) → ((a : A) → Follows n b P (g a) (h a))
      → Follows n b P (u and_then g) (u and_then h)
  any_both refused g h k = tt
  any_both (next a) g h k = k a

  pub then_both : (Q : Ends → Type 0) (x : Out Work) (y : Out ListedWork) (g : Work → Out Work) (h : ListedWork → Out ListedWork)
      → Follows n b P x y
      → ((w : Work) (list : List ℕ) (free : Ends) → TiedAt w.state list free → P free → Follows n b Q (g w) (h (over n b w list free)))
      → Follows n b Q (x and_then g) (y and_then h)
  then_both Q refused y g h p k = tt
  then_both Q (next w) y g h p k =
      subst (λ (t : Out ListedWork). Follows n b Q (g w) (t and_then h)) (sym p.is) (k w p.list p.free p.tied p.holds)

  -- the same for a step of both forms, beside which the Free List stays as it is
  module _ (free : Ends) where
    abbrev on : Out Work → Out ListedWork
    on y = y and_then λ v. next (work_with v free)

    pub needs_on : (c : Bool) (x y : Out Work) → (c ≡ true → Follows n b P x (on y)) → Follows n b P (needs c x) (on (needs c y))
    needs_on true x y h = h refl
    needs_on false x y h = tt

    pub if_on : (c : Bool) (x x' y y' : Out Work) → (c ≡ true → Follows n b P x (on y)) → (c ≡ false → Follows n b P x' (on y'))
        → Follows n b P (when c then x else x') (on (when c then y else y'))
    if_on true x x' y y' h k = h refl
    if_on false x x' y y' h k = k refl

    pub any_on : {A : Type 0} (u : Out A) (g h : A → Out Work) → ((a : A) → Follows n b P (g a) (on (h a)))
        → Follows n b P (u and_then g) (on (u and_then h))
    any_on refused g h k = tt
    any_on (next a) g h k = k a
