-- How a test and a chain of steps pass on that one side is the stored other side.
use Prim.Native.Nat.{ℕ}
use native.Mathlib.Omega.{arith}
use mathlib.Core.Path.{◌≡◌, refl, ◌∙◌, ap}
use mathlib.Core.Bool.{Bool, true, false, ◌&&◌}
use Rattle.meaning.specs.Plain.{when◌then◌else◌, Out, refused, next, needs, ◌and_then◌}
use Rattle.meaning_runs.proofs.OutLaws.{AllOut}

abbrev pub map_out : {A B : Type 0} → (A → B) → Out A → Out B
map_out f refused = refused
map_out f (next x) = next (f x)

pub both_true : (a b : Bool) → a && b ≡ true → (a ≡ true) × (b ≡ true)
both_true true b p = (refl, p)
both_true false b p = absurd (let y : ◌≡◌ {A = ℕ} 0 1 = cc in omega arith)

pub if_both : {A B : Type 0} (f : A → B) (b : Bool) (x y : B) (x' y' : A) → (b ≡ true → x ≡ f x') → (b ≡ false → y ≡ f y')
    → (when b then x else y) ≡ f (when b then x' else y')
if_both f true x y x' y' h k = h refl
if_both f false x y x' y' h k = k refl

module _ {A : Type 0} (f : A → A) where
  pub needs_map : (b : Bool) (x y : Out A) → (b ≡ true → x ≡ map_out f y) → needs b x ≡ map_out f (needs b y)
  needs_map true x y h = h refl
  needs_map false x y h = refl

  pub if_map : (b : Bool) (x y x' y' : Out A) → (b ≡ true → x ≡ map_out f x') → (b ≡ false → y ≡ map_out f y')
      → (when b then x else y) ≡ map_out f (when b then x' else y')
  if_map b x y x' y' h k = if_both (map_out f) b x y x' y' h k

pub then_map : {A B : Type 0} (f : A → A) (g : B → B) (x : Out A) (h k : A → Out B) → ((a : A) → h (f a) ≡ map_out g (k a))
    → (map_out f x and_then h) ≡ map_out g (x and_then k)
then_map f g refused h k e = refl
then_map f g (next a) h k e = e a

-- where the steps so far agree, and P holds of what they found
pub then_agrees : {A : Type 0} (f : A → A) (P : A → Type 0) (x y : Out A) (h k : A → Out A) → x ≡ map_out f y → AllOut P y
    → ((a : A) → P a → h (f a) ≡ map_out f (k a))
    → (x and_then h) ≡ map_out f (y and_then k)
then_agrees f P x refused h k e p same = ap (λ o. o and_then h) e
then_agrees f P x (next a) h k e p same = ap (λ o. o and_then h) e ∙ same a p

pub then_same : {A B : Type 0} (g : B → B) (x : Out A) (h k : A → Out B) → ((a : A) → h a ≡ map_out g (k a))
    → (x and_then h) ≡ map_out g (x and_then k)
then_same g refused h k e = refl
then_same g (next a) h k e = e a
