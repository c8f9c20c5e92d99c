-- Lists of spaces in the links, with what stands in them: `sp` gives each thing the space that it has. A proof device.
--
--   is k x          == 1 where x is k, otherwise 0
--   inside k n      == 1 where k is below n, otherwise 0
--   cnt sp k q      == how often the space k stands in q
--   Strung sp l e q == the links l lead through the spaces of q, from head to tail of e
use Rattle.std.specs.Prelude.{ℕ, ◌≡◌, List, [], ◌∷◌, get_or}
use Rattle.meaning.specs.Plain.{when◌then◌else◌, ◌<?◌, ◌=?◌}
use Rattle.meaning.specs.Numbers.{empty}
use Rattle.meaning.specs.State.{Ends}
use Rattle.theory_queues.specs.Queue.{sum}

unfoldable pub is : ℕ → ℕ → ℕ
is k x = when k =? x then 1 else 0

unfoldable pub inside : ℕ → ℕ → ℕ
inside k n = when k <? n then 1 else 0

-- a space as it stands for itself
abbrev pub self : ℕ → ℕ
self k = k

module _ {C : Type 0} (sp : C → ℕ) where
  abbrev pub cnt : ℕ → List C → ℕ
  cnt k q = sum (λ c. is k (sp c)) q

  abbrev pub Follow : List ℕ → C → List C → Type 0
  Follow l x [] = Unit {0}
  Follow l x (y ∷ ys) = (get_or l (sp x) 0 ≡ sp y) × Follow l y ys

  abbrev pub last_of : C → List C → C
  last_of x [] = x
  last_of x (y ∷ ys) = last_of y ys

  abbrev pub Strung : List ℕ → Ends → List C → Type 0
  Strung l e [] = (e.head ≡ empty) × (e.tail ≡ empty)
  Strung l e (x ∷ xs) = (e.head ≡ sp x) × (e.tail ≡ sp (last_of x xs)) × Follow l x xs
