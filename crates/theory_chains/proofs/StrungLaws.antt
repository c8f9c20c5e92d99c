-- A list of spaces in the links: what its head and tail are, that its tests of refusal 3 pass, that a link written
-- elsewhere keeps it, and that its head can be taken.
use Prim.Native.Nat.{ℕ, ◌≤◌, ◌<◌}
use mathlib.Core.Path.{◌≡◌, refl, sym, ap, ◌∙◌}
use mathlib.Core.Logic.{◌≢◌}
use mathlib.Core.Bool.{true, false}
use mathlib.Core.List.{List, [], ◌∷◌}
use native.Mathlib.Omega.{arith}
use borrow.Author.Tests.{eq-eqb, ne_eqb, lt-ltb}
use lib.ListN.{get_or, set}
use lib.Seq.{get_or-set_other}
use Rattle.meaning.specs.Plain.{next}
use Rattle.meaning.specs.Numbers.{empty}
use Rattle.meaning.specs.State.{Ends}
use Rattle.meaning.specs.Lists.{empty_list, is_empty, ends_fit, take_head}
use Rattle.meaning.proofs.ListsLaws.{fit_marked, fit_empty}
use Rattle.theory_chains.specs.Strung.{inside, cnt, Follow, last_of, Strung}
use Rattle.theory_chains.proofs.CountLaws.{is_yes, is_same, inside_le, inside_lt}

module _ {C : Type 0} (sp : C → ℕ) where
  -- k is none of the spaces of x ∷ xs whose link is read: all but the last
  abbrev pub Off : ℕ → C → List C → Type 0
  Off k x [] = Unit {0}
  Off k x (y ∷ ys) = (sp x ≢ k) × Off k y ys

  pub off_zero : (k : ℕ) (x : C) (xs : List C) → cnt sp k (x ∷ xs) ≡ 0 → Off k x xs
  off_zero k x [] h = tt
  off_zero k x (y ∷ ys) h = (λ e. omega (arith, is_yes k (sp x) (sym e)), off_zero k y ys (omega arith))

  pub last_in : (x : C) (xs : List C) → 1 ≤ cnt sp (sp (last_of sp x xs)) (x ∷ xs)
  last_in x [] = omega (arith, is_same (sp x))
  last_in x (y ∷ ys) = omega (arith, last_in y ys)

  pub off_last : (x : C) (xs : List C) → cnt sp (sp (last_of sp x xs)) (x ∷ xs) ≤ 1 → Off (sp (last_of sp x xs)) x xs
  off_last x [] h = tt
  off_last x (y ∷ ys) h = (
    λ e. omega (arith, is_yes (sp (last_of sp y ys)) (sp x) (sym e), last_in y ys),
    off_last y ys (omega arith),
  )

  pub follow_set : (l : List ℕ) (k v : ℕ) (x : C) (xs : List C) → Off k x xs → Follow sp l x xs → Follow sp (set l k v) x xs
  follow_set l k v x [] o c = tt
  follow_set l k v x (y ∷ ys) o c = (get_or-set_other l k (sp x) v 0 o.0 ∙ c.0, follow_set l k v y ys o.1 c.1)

  -- a link written at a space that is not in the list
  pub strung_set : (l : List ℕ) (k v : ℕ) (e : Ends) (q : List C) → cnt sp k q ≡ 0 → Strung sp l e q
      → Strung sp (set l k v) e q
  strung_set l k v e [] z c = c
  strung_set l k v e (x ∷ xs) z c = (c.0, c.1, follow_set l k v x xs (off_zero k x xs z) c.2)

  module _ (N : ℕ) (low : N ≤ empty) where
    -- the spaces of q are below N, each at most once
    abbrev pub Within : List C → Type 0
    Within q = (k : ℕ) → cnt sp k q ≤ inside k N

    pub head_lt : (x : C) (xs : List C) → Within (x ∷ xs) → sp x < N
    head_lt x xs p = inside_lt (sp x) N (omega (arith, p (sp x), is_same (sp x)))

    pub last_lt : (x : C) (xs : List C) → Within (x ∷ xs) → sp (last_of sp x xs) < N
    last_lt x xs p = inside_lt (sp (last_of sp x xs)) N (omega (arith, p (sp (last_of sp x xs)), last_in x xs))

    pub head_some : (l : List ℕ) (e : Ends) (x : C) (xs : List C) → Within (x ∷ xs) → Strung sp l e (x ∷ xs)
        → e.head ≢ empty
    head_some l e x xs p c z = omega (arith, c.0, head_lt x xs p)

    pub marked : (l : List ℕ) (e : Ends) (x : C) (xs : List C) → Within (x ∷ xs) → Strung sp l e (x ∷ xs)
        → is_empty e ≡ false
    marked l e x xs p c = ne_eqb e.head empty (head_some l e x xs p c)

    pub bare : (l : List ℕ) (e : Ends) → Strung sp l e [] → is_empty e ≡ true
    bare l e c = eq-eqb e.head empty c.0

    pub ends_fit_lem : (l : List ℕ) (e : Ends) (q : List C) → Within q → Strung sp l e q → ends_fit N e ≡ true
    ends_fit_lem l e [] p c =
        ap (ends_fit N) {x = e} {y = empty_list} (λ i. record { head = c.0 i; tail = c.1 i }) ∙ fit_empty N
    ends_fit_lem l e (x ∷ xs) p c =
        fit_marked N e.head e.tail (omega (arith, c.0, head_lt x xs p)) (omega (arith, c.1, last_lt x xs p))

    -- the head is taken
    pub record TakenOff (l : List ℕ) (e : Ends) (xs : List C) : Type 0 where
      pub left : Ends
      pub goes : take_head N l e ≡ next (record { space = e.head; left = left })
      pub rest : Strung sp l left xs

    pub take_off : (l : List ℕ) (e : Ends) (x : C) (xs : List C) → Within (x ∷ xs) → Strung sp l e (x ∷ xs)
        → TakenOff l e xs
    unfolding take_head
    take_off l e x [] p c =
        record { left = empty_list; goes = rw (eq-eqb e.head e.tail (c.0 ∙ sym c.1)); rest = (refl, refl) }
    take_off l e x (y ∷ ys) p c =
        record {
          left = record { head = get_or l e.head 0; tail = e.tail };
          goes = rw (ne_eqb e.head e.tail apart, lt-ltb (get_or l e.head 0) N (omega (arith, follower, below)));
          rest = (follower, c.1, c.2.1);
        }
      where
        follower : get_or l e.head 0 ≡ sp y
        follower = ap (λ (k : ℕ). get_or l k 0) c.0 ∙ c.2.0

        below : sp y < N
        below = head_lt y ys (λ k. omega (arith, p k))

        apart : e.head ≢ e.tail
        apart z = (off_last x (y ∷ ys) (omega (arith, p (sp (last_of sp y ys)), inside_le (sp (last_of sp y ys)) N))).0
            (sym c.0 ∙ z ∙ c.1)
