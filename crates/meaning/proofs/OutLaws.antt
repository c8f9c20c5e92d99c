-- What holds of the outcome of a chain of steps: each test and each step passes it on. Refused steps have no outcome.
use mathlib.Core.Path.{◌≡◌, refl}
use mathlib.Core.Bool.{Bool, true, false}
use Rattle.meaning.specs.Plain.{when◌then◌else◌, Out, refused, next, needs, ◌and_then◌}

abbrev pub AllOut : {A : Type 0} → (A → Type 0) → Out A → Type 0
AllOut P refused = Unit {0}
AllOut P (next x) = P x

pub if_holds : {A : Type 0} (P : A → Type 0) (b : Bool) (x y : A) → (b ≡ true → P x) → (b ≡ false → P y) → P (when b then x else y)
if_holds P true x y h k = h refl
if_holds P false x y h k = k refl

pub needs_all : {A : Type 0} (P : A → Type 0) (b : Bool) (x : Out A) → (b ≡ true → AllOut P x) → AllOut P (needs b x)
needs_all P true x h = h refl
needs_all P false x h = tt

pub if_all : {A : Type 0} (P : A → Type 0) (b : Bool) (x y : Out A) → (b ≡ true → AllOut P x) → (b ≡ false → AllOut P y)
    → AllOut P (when b then x else y)
if_all P true x y h k = h refl
if_all P false x y h k = k refl

pub then_all : {A B : Type 0} (P : A → Type 0) (Q : B → Type 0) (x : Out A) (f : A → Out B) → AllOut P x
    → ((a : A) → P a → AllOut Q (f a))
    → AllOut Q (x and_then f)
then_all P Q refused f p h = tt
then_all P Q (next a) f p h = h a p

pub any_all : {A B : Type 0} (Q : B → Type 0) (x : Out A) (f : A → Out B) → ((a : A) → AllOut Q (f a)) → AllOut Q (x and_then f)
any_all Q refused f h = tt
any_all Q (next a) f h = h a
