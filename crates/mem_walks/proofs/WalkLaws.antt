-- One chain walked: the walk says yes exactly when the links lead from the head to the tail over spaces that both budgets
-- cover (walk-sound, walk-complete), since each turn takes the same as the list does.
use Prim.Native.Nat.{ℕ, zero, suc, ◌<◌}
use mathlib.Core.Path.{◌≡◌, refl, sym, ap, ◌∙◌}
use mathlib.Core.Bool.{Bool, true, false}
use mathlib.Core.List.{List, [], ◌∷◌, ◌++◌, map}
use native.Mathlib.Omega.{arith}
use lib.ListN.{get_or}
use borrow.Author.Tests.{ltb-true, lt-ltb, eqb-true, eqb-false, eq-eqb, ne_eqb}
use Rattle.meaning.specs.Plain.{◌<?◌, ◌=?◌}
use Rattle.meaning.specs.Audit.{Leads}
use Rattle.mem_walks.specs.Budget.{spent, spend_all, Covers, sum}
use Rattle.mem_walks.specs.Walk.{Walked, walked, walk_of, walk}
use Rattle.mem_walks.proofs.Choice.{if_elim, false_true}
use Rattle.mem_walks.proofs.BudgetLaws.{sum_spent}

pub map_append : (nm : ℕ → ℕ) (xs ys : List ℕ) → map nm (xs ++ ys) ≡ map nm xs ++ map nm ys
map_append nm [] ys = refl
map_append nm (x ∷ xs) ys = ap (λ (l : List ℕ). nm x ∷ l) (map_append nm xs ys)

-- The four ways through one turn

module _ (l : List ℕ) (nm : ℕ → ℕ) (t x : ℕ) (b w : List ℕ) where
  walk_taken : 0 <? get_or b x 0 ≡ false → walk l nm t x b w ≡ walked false (spent b x) w
  unfolding walk walk_of
  walk_taken h = rw h

  walk_named : 0 <? get_or b x 0 ≡ true → 0 <? get_or w (nm x) 0 ≡ false
      → walk l nm t x b w ≡ walked false (spent b x) (spent w (nm x))
  unfolding walk walk_of
  walk_named h g = rw (h, g)

  walk_end : 0 <? get_or b x 0 ≡ true → 0 <? get_or w (nm x) 0 ≡ true → x ≡ t
      → walk l nm t x b w ≡ walked true (spent b x) (spent w (nm x))
  unfolding walk walk_of
  walk_end h g e = rw (h, g, eq-eqb x t e)

  walk_on : 0 <? get_or b x 0 ≡ true → 0 <? get_or w (nm x) 0 ≡ true → (x ≡ t → ⊥)
      → walk l nm t x b w ≡ walk l nm t (get_or l x 0) (spent b x) (spent w (nm x))
  unfolding walk walk_of
  walk_on h g e =
      let less : sum b ≡ suc (sum (spent b x)) = omega (arith, sum_spent b x (ltb-true 0 (get_or b x 0) h)) in
      rw (h, g, ne_eqb x t e)
      (ap (λ (f : ℕ). walk_of l nm t f (get_or l x 0) (spent b x) (spent w (nm x))) less)

-- The same, as the code meets them: r and p are what the two takings answer, b' and w' what they leave

module _ (l : List ℕ) (nm : ℕ → ℕ) (t x : ℕ) (b w b' : List ℕ) (r : Bool)
    (taken : (r ≡ 0 <? get_or b x 0) × (b' ≡ spent b x)) where
  pub turn_taken : r ≡ false → walked false b' w ≡ walk l nm t x b w
  turn_taken h =
      ap (λ (z : List ℕ). walked false z w) taken.1 ∙ sym (walk_taken l nm t x b w (sym taken.0 ∙ h))

  module _ (w' : List ℕ) (p : Bool) (named : (p ≡ 0 <? get_or w (nm x) 0) × (w' ≡ spent w (nm x))) (h : r ≡ true) where
    left : (a : Bool) → walked a b' w' ≡ walked a (spent b x) (spent w (nm x))
    left a = rw (taken.1, named.1)

    pub turn_named : p ≡ false → walked false b' w' ≡ walk l nm t x b w
    turn_named g = left false ∙ sym (walk_named l nm t x b w (sym taken.0 ∙ h) (sym named.0 ∙ g))

    pub turn_end : p ≡ true → x ≡ t → walked true b' w' ≡ walk l nm t x b w
    turn_end g e = left true ∙ sym (walk_end l nm t x b w (sym taken.0 ∙ h) (sym named.0 ∙ g) e)

    pub turn_on : p ≡ true → (x ≡ t → ⊥) → (y : ℕ) → y ≡ get_or l x 0 → walk l nm t y b' w' ≡ walk l nm t x b w
    turn_on g e y n =
        rw (taken.1, named.1, n) (sym (walk_on l nm t x b w (sym taken.0 ∙ h) (sym named.0 ∙ g) e))

pub turn_less : (x : ℕ) (b b' : List ℕ) (r : Bool) → (r ≡ 0 <? get_or b x 0) × (b' ≡ spent b x) → r ≡ true → sum b' < sum b
turn_less x b b' r taken h =
    rw taken.1 (omega (arith, sum_spent b x (ltb-true 0 (get_or b x 0) (sym taken.0 ∙ h))))

-- What a yes means, and that it is given

module _ (l : List ℕ) (nm : ℕ → ℕ) (t : ℕ) where
  pub record Goes (x : ℕ) (b w : List ℕ) (r : Walked) : Type 0 where
    pub rest : List ℕ
    pub leads : Leads l t x rest
    pub fits_spaces : Covers b (x ∷ rest)
    pub fits_cells : Covers w (map nm (x ∷ rest))
    pub spaces_left : r.spaces ≡ spend_all b (x ∷ rest)
    pub cells_left : r.waits ≡ spend_all w (map nm (x ∷ rest))

  goes : (f x : ℕ) (b w : List ℕ) → (walk_of l nm t f x b w).ok ≡ true → Goes x b w (walk_of l nm t f x b w)
  unfolding walk_of
  goes zero x b w = λ h. false_true h
  goes (suc f) x b w =
      let P : Walked → Type 0 = λ r. r.ok ≡ true → Goes x b w r in
      if_elim P (0 <? get_or b x 0) _ _
      (λ h. if_elim P (0 <? get_or w (nm x) 0) _ _
      (λ g. if_elim P (x =? t) _ _
      (λ e o. record {
        rest = [];
        leads = eqb-true x t e;
        fits_spaces = (ltb-true 0 (get_or b x 0) h, tt);
        fits_cells = (ltb-true 0 (get_or w (nm x) 0) g, tt);
        spaces_left = refl;
        cells_left = refl;
      })
      (λ e o.
      let i = goes f (get_or l x 0) (spent b x) (spent w (nm x)) o in
      record {
        rest = get_or l x 0 ∷ i.rest;
        leads = (eqb-false x t e, refl, i.leads);
        fits_spaces = (ltb-true 0 (get_or b x 0) h, i.fits_spaces);
        fits_cells = (ltb-true 0 (get_or w (nm x) 0) g, i.fits_cells);
        spaces_left = i.spaces_left;
        cells_left = i.cells_left;
      }))
      (λ g o. false_true o))
      (λ h o. false_true o)

  pub walk_sound : (x : ℕ) (b w : List ℕ) → (walk l nm t x b w).ok ≡ true → Goes x b w (walk l nm t x b w)
  unfolding walk
  walk_sound x b w h = goes (suc (sum b)) x b w h

  pub walk_complete : (x : ℕ) (xs b w : List ℕ) → Leads l t x xs → Covers b (x ∷ xs) → Covers w (map nm (x ∷ xs))
      → walk l nm t x b w ≡ walked true (spend_all b (x ∷ xs)) (spend_all w (map nm (x ∷ xs)))
  walk_complete x [] b w e c d =
      walk_end l nm t x b w (lt-ltb 0 (get_or b x 0) c.0) (lt-ltb 0 (get_or w (nm x) 0) d.0) e
  walk_complete x (y ∷ ys) b w e c d =
      walk_on l nm t x b w (lt-ltb 0 (get_or b x 0) c.0) (lt-ltb 0 (get_or w (nm x) 0) d.0) e.0
      ∙ ap (λ (k : ℕ). walk l nm t k (spent b x) (spent w (nm x))) e.1
      ∙ walk_complete y ys (spent b x) (spent w (nm x)) e.2 c.1 d.1
