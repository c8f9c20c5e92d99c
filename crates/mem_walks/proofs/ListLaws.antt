-- A list by its head and tail, walked: a yes is its chain and what that takes off both budgets, and a chain that both
-- budgets cover gets a yes (list-sound, list-complete).
use Prim.Native.Nat.{ℕ, ◌+◌, ◌*◌}
use mathlib.Core.Path.{◌≡◌, refl, sym, ap, ◌∙◌}
use mathlib.Core.Bool.{true}
use mathlib.Core.List.{List, [], ◌∷◌, ◌++◌, map}
use native.Mathlib.Omega.{arith}
use lib.ListN.{get_or}
use borrow.Author.Tests.{eqb-true, eq-eqb, ne_eqb}
use Rattle.meaning.specs.Plain.{◌=?◌}
use Rattle.meaning.specs.Numbers.{empty}
use Rattle.meaning.specs.State.{Ends}
use Rattle.meaning.specs.Lists.{is_empty, entry_at}
use Rattle.meaning.specs.Audit.{Chain}
use Rattle.mem_walks.specs.Budget.{spend_all, Covers}
use Rattle.mem_walks.specs.Walk.{Walked, walked, ends_of, walk, list_of}
use Rattle.mem_walks.specs.Stored.{NoMark}
use Rattle.mem_walks.proofs.Choice.{if_elim}
use Rattle.mem_walks.proofs.BudgetLaws.{paid, covers_append, spend_append}
use Rattle.mem_walks.proofs.WalkLaws.{walk_sound, walk_complete}

-- the spaces xs and the VCs vs are taken, and what r says is left
pub record Takes (b w xs vs : List ℕ) (r : Walked) : Type 0 where
  pub fits_spaces : Covers b xs
  pub fits_cells : Covers w vs
  pub spaces_left : r.spaces ≡ spend_all b xs
  pub cells_left : r.waits ≡ spend_all w vs

pub takes_more : (b w xs vs ys us : List ℕ) (r s : Walked) → Takes b w xs vs r → Takes r.spaces r.waits ys us s
    → Takes b w (xs ++ ys) (vs ++ us) s
takes_more b w xs vs ys us r s p n =
    record {
      fits_spaces = covers_append b xs ys p.fits_spaces (rw (← p.spaces_left) n.fits_spaces);
      fits_cells = covers_append w vs us p.fits_cells (rw (← p.cells_left) n.fits_cells);
      spaces_left = n.spaces_left ∙ ap (λ (z : List ℕ). spend_all z ys) p.spaces_left ∙ sym (spend_append b xs ys);
      cells_left = n.cells_left ∙ ap (λ (z : List ℕ). spend_all z us) p.cells_left ∙ sym (spend_append w vs us);
    }

pub no_mark_left : (b xs : List ℕ) → Covers b xs → NoMark b → NoMark (spend_all b xs)
no_mark_left b xs c n = omega (arith, paid b xs c empty)

module _ (l : List ℕ) (nm : ℕ → ℕ) where
  pub record Listed (e : Ends) (b w : List ℕ) (r : Walked) : Type 0 where
    pub spaces_of_lem : List ℕ
    pub chain : Chain l e spaces_of_lem
    pub takes : Takes b w spaces_of_lem (map nm spaces_of_lem) r

  pub list_sound : (e : Ends) (b w : List ℕ) → (list_of l nm e b w).ok ≡ true → Listed e b w (list_of l nm e b w)
  unfolding list_of
  list_sound e b w =
      let P : Walked → Type 0 = λ r. r.ok ≡ true → Listed e b w r in
      if_elim P (is_empty e) _ _
      (λ h o. record {
        spaces_of_lem = [];
        chain = (eqb-true e.head empty h, eqb-true e.tail empty o);
        takes = record {
          fits_spaces = tt;
          fits_cells = tt;
          spaces_left = refl;
          cells_left = refl;
        };
      })
      (λ h o.
      let g = walk_sound l nm e.tail e.head b w o in
      record {
        spaces_of_lem = e.head ∷ g.rest;
        chain = (refl, g.leads);
        takes = record {
          fits_spaces = g.fits_spaces;
          fits_cells = g.fits_cells;
          spaces_left = g.spaces_left;
          cells_left = g.cells_left;
        };
      })

  pub list_complete : (e : Ends) (xs b w : List ℕ) → NoMark b → Chain l e xs → Covers b xs → Covers w (map nm xs)
      → list_of l nm e b w ≡ walked true (spend_all b xs) (spend_all w (map nm xs))
  unfolding list_of
  list_complete e [] b w n c d f = rw (eq-eqb e.head empty c.0, eq-eqb e.tail empty c.1)
  list_complete e (x ∷ xs) b w n c d f =
      let some : e.head ≡ empty → ⊥ =
      λ z. omega (arith, d.0, ap (λ (k : ℕ). get_or b k 0) (sym c.0 ∙ z)) in
      rw (ne_eqb e.head empty some)
      (ap (λ (k : ℕ). walk l nm e.tail k b w) c.0 ∙ walk_complete l nm e.tail x xs b w c.1 d f)

  -- the two ways through the code of a list
  pub list_empty : (h t : ℕ) (b w : List ℕ) → h ≡ empty → walked (t =? empty) b w ≡ list_of l nm (ends_of h t) b w
  unfolding list_of
  list_empty h t b w e = rw (eq-eqb h empty e)

  pub list_some : (h t : ℕ) (b w : List ℕ) → (h ≡ empty → ⊥)
      → walk l nm t h b w ≡ list_of l nm (ends_of h t) b w
  unfolding list_of
  list_some h t b w e = rw (ne_eqb h empty e)

-- a head and tail that were read are a calendar entry
pub ends_entry : (calendar : List ℕ) (e h t : ℕ) → h ≡ get_or calendar (2 * e) 0 → t ≡ get_or calendar (2 * e + 1) 0
    → ends_of h t ≡ entry_at calendar e
unfolding entry_at
ends_entry calendar e h t p q = rw (p, q)
