-- The tests that find what departs: the connection that a header names, and the Output List once entry T has joined it.
use Prim.Native.Nat.{ℕ, ◌+◌, ◌*◌, ◌≤◌, ◌<◌}
use mathlib.Core.Path.{◌≡◌, refl, sym, ◌∙◌, ap, subst}
use mathlib.Core.Logic.{◌≢◌}
use mathlib.Core.Bool.{true, false}
use mathlib.Core.List.{List}
use Rattle.std.specs.Prelude.{Option, Some, None, MatchOption}
use native.Mathlib.Omega.{arith}
use borrow.Author.Tests.{eq-eqb, ne_eqb}
use lib.ListN.{get_or, set}
use lib.Seq.{get_or-set_other}
use Rattle.meaning.specs.declared.Record.{Record}
use Rattle.meaning.specs.Numbers.{empty}
use Rattle.meaning.specs.State.{Ends}
use Rattle.mem_lists.specs.Spaces.{ends_of, linked}
use Rattle.mem_lists.specs.Leaver.{may_go, goes_as}
use Rattle.slot_plan.specs.Plan.{joined_links, joined_head}
use Rattle.meaning.specs.Lists.{ends_fit, entry_at}
use Rattle.burst_depart.specs.declared.Leave.{Leave}
use Rattle.burst_depart.specs.Leaving.{Left, PlannedUnmarked, PlannedMarked, Planned, Linked}

-- ---- the connection of this number, one test after the other
module _ (N : ℕ) (words : List ℕ) (c : ℕ) where
  pub goes_zero : c ≡ 0 → 0 ≡ goes_as N words c
  unfolding goes_as
  goes_zero e = simp (eq-eqb c 0 e)

  pub goes_stays : c ≢ 0 → may_go N words c ≡ false → 0 ≡ goes_as N words c
  unfolding goes_as
  goes_stays ne e = simp (ne_eqb c 0 ne, e)

  pub goes_goes : c ≢ 0 → may_go N words c ≡ true → c ≡ goes_as N words c
  unfolding goes_as
  goes_goes ne e = simp (ne_eqb c 0 ne, e)

pub low_in : (a n m : ℕ) → a < n → m ≡ n → a < m
low_in a n m low e = omega arith

pub left_count : (M N : ℕ) (links : List ℕ) (x tail next tail' : ℕ) → M ≡ N → Left M links x tail next tail' → Left N links x tail next tail'
left_count M N links x tail next tail' e l =
    record { one = l.one; more = λ far. ((l.more far).0, omega (arith, e, (l.more far).1), (l.more far).2) }

-- ---- entry T joins the Output List
module _ (k : Record) (entry : Ends) where
  pub joined_alone : k.outhead ≡ empty → entry.head ≡ joined_head k entry
  unfolding joined_head
  joined_alone e = rw (eq-eqb k.outhead empty e) refl

  pub joined_some : k.outhead ≢ empty → k.outhead ≡ joined_head k entry
  unfolding joined_head
  joined_some ne = rw (ne_eqb k.outhead empty ne) refl

  module _ (links : List ℕ) where
    links_alone : k.outhead ≡ empty → links ≡ joined_links k entry links
    unfolding joined_links linked
    links_alone e = rw (eq-eqb k.outhead empty e) refl

    links_joined : k.outhead ≢ empty → set links k.outtail entry.head ≡ joined_links k entry links
    unfolding joined_links linked
    links_joined ne = rw (ne_eqb k.outhead empty ne) refl

    pub rest_alone : (x tail next tail' : ℕ) → k.outhead ≡ empty → Left k.n links x tail next tail'
        → Left k.n (joined_links k entry links) x tail next tail'
    rest_alone x tail next tail' e l = subst (λ (m : List ℕ). Left k.n m x tail next tail') (links_alone e) l

    pub rest_joins : (x tail next tail' : ℕ) → k.outhead ≢ empty → Left k.n (set links k.outtail entry.head) x tail next tail'
        → Left k.n (joined_links k entry links) x tail next tail'
    rest_joins x tail next tail' ne l = subst (λ (m : List ℕ). Left k.n m x tail next tail') (links_joined ne) l

-- ---- an entry by its two numbers
pub entry_by : (calendar : List ℕ) (T h t : ℕ) → h ≡ get_or calendar (2 * T) 0 → t ≡ get_or calendar (2 * T + 1) 0
    → entry_at calendar T ≡ ends_of h t
unfolding entry_at
entry_by calendar T h t e q = rw (e, q) refl

-- ---- where the likely way is left, the lists are not linked
module _ (k : Record) (links : List ℕ) (entry : Ends) where
  not_below : (x y N : ℕ) → N ≤ x → y ≡ x → y < N → ⊥
  not_below x y N high e low = omega arith

  pub alone_unlinked : k.outhead ≡ empty → entry.head ≢ empty → entry.head ≢ entry.tail → k.n ≤ get_or links entry.head 0
      → Linked k links entry → ⊥
  alone_unlinked e marked far high l =
      not_below _ _ k.n high
      (ap (λ (m : List ℕ). get_or m (joined_head k entry) 0) (sym (links_alone k entry links e)) ∙ ap (λ (x : ℕ). get_or links x 0) (sym (joined_alone k entry e)))
      (l.link (λ q. marked (joined_alone k entry e ∙ q)) (λ q. far (joined_alone k entry e ∙ (q ∙ rw (ne_eqb entry.head empty marked) refl))))

  pub joined_unlinked : k.outhead ≢ empty → entry.head ≢ empty
      → (k.outhead ≢ entry.tail → k.n ≤ get_or (set links k.outtail entry.head) k.outhead 0)
      → Linked k links entry → ⊥
  joined_unlinked ne marked high l =
      not_below _ _ k.n (high (l.apart marked ne))
      (ap (λ (m : List ℕ). get_or m (joined_head k entry) 0) (sym (links_joined k entry links ne)) ∙ ap (λ (x : ℕ). get_or (set links k.outtail entry.head) x 0) (sym (joined_some k entry ne)))
      (l.link (λ q. ne (joined_some k entry ne ∙ q)) (λ q. l.apart marked ne (joined_some k entry ne ∙ (q ∙ rw (ne_eqb entry.head empty marked) refl))))

  pub output_unlinked : entry.head ≡ empty → k.outhead ≢ empty → k.outhead ≢ k.outtail → k.n ≤ get_or links k.outhead 0
      → Linked k links entry → ⊥
  output_unlinked e ne far high l =
      not_below _ _ k.n high
      (ap (λ (m : List ℕ). get_or m (joined_head k entry) 0) (sym (links_joined k entry links ne))
      ∙ (ap (λ (x : ℕ). get_or (set links k.outtail entry.head) x 0) (sym (joined_some k entry ne))
      ∙ get_or-set_other links k.outtail k.outhead entry.head 0 far))
      (l.link (λ q. ne (joined_some k entry ne ∙ q)) (λ q. far (joined_some k entry ne ∙ (q ∙ rw (eq-eqb entry.head empty e) refl))))

-- ---- where entry T is not marked, and where it is, that plan is the whole one
module _ (k : Record) (links : List ℕ) (entry : Ends) (fits : ends_fit k.n entry ≡ true) where
  pub planned_unmarked : entry.head ≡ empty → (result : Option (Option Leave))
      → MatchOption result ((k.outhead ≢ empty) × (k.outhead ≢ k.outtail) × (k.n ≤ get_or links k.outhead 0))
      (λ found. MatchOption found (k.outhead ≡ empty) (λ o. PlannedUnmarked k links o))
      → MatchOption result (Linked k links entry → ⊥) (λ found. Planned k links entry found)
  planned_unmarked e None why = output_unlinked k links entry e why.0 why.1 why.2
  planned_unmarked e (Some found) p = record { entry_fits = fits; unmarked = λ q. p; marked = λ ne. absurd (ne e) }

  pub planned_marked : entry.head ≢ empty → (result : Option (Option Leave))
      → MatchOption result (Linked k links entry → ⊥) (λ found. MatchOption found ⊥ (λ o. PlannedMarked k links entry o))
      → MatchOption result (Linked k links entry → ⊥) (λ found. Planned k links entry found)
  planned_marked ne None why = why
  planned_marked ne (Some found) p = record { entry_fits = fits; unmarked = λ e. absurd (ne e); marked = λ q. p }
