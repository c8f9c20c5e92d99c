-- What departs on a likely way: what is left of its list and the connection that was found give what the slot's definition says, in
-- memory as it is and once a cell has been accepted.
use Prim.Native.Nat.{ℕ, ◌≤◌, ◌<◌}
use mathlib.Core.Path.{◌≡◌, refl, sym, ◌∙◌, ap, subst}
use Rattle.std.specs.Prelude.{Option, Some, None, MatchOption}
use mathlib.Core.Logic.{◌≢◌}
use mathlib.Core.Bool.{Bool, true, false, not}
use mathlib.Core.List.{List}
use native.Mathlib.Omega.{arith}
use native.Mathlib.Decide.{ℕ_discrete}
use borrow.Author.Tests.{lt-ltb, eqb-true, eqb-false, eq-eqb, ne_eqb}
use lib.ListN.{length, get_or}
use Rattle.meaning.specs.declared.Record.{Record}
use Rattle.meaning.specs.Plain.{when◌then◌else◌, ◌=?◌}
use Rattle.meaning.specs.Numbers.{empty, cell_start}
use Rattle.meaning.specs.Bits.{is_free_space, taken}
use Rattle.meaning.specs.State.{Ends}
use Rattle.meaning.specs.Header.{header_at}
use Rattle.meaning.specs.Lists.{ends_fit, entry_at}
use Rattle.meaning.proofs.BitsLaws.{taken_other}
use Rattle.meaning.proofs.ListsLaws.{fit_marked, fit_empty}
use Rattle.leaf_header.specs.Name.{numbered}
use Rattle.mem_lists.specs.declared.Off.{Off}
use Rattle.mem_lists.specs.Spaces.{ends_of, linked, off_as, off_of}
use Rattle.mem_lists.specs.Leaver.{may_go, goes_as, leaver_of, off_from, leaver_after, off_after}
use Rattle.mem_lists.proofs.LeaverLaws.{leaver_is}
use Rattle.mem_lists.proofs.LinkLaws.{linked_off, linked_own, linked_other, linked_length}
use Rattle.mem_lists.proofs.OffLaws.{off_is, from_same}
use Rattle.slot_plan.specs.Plan.{joined_links, joined_head, seat_ends}
use Rattle.slot_plan.proofs.Found as found
use Rattle.burst_arrive.specs.declared.Spot.{Spot}
use Rattle.burst_arrive.specs.Arriving.{seat_at}
use Rattle.burst_depart.specs.declared.Leave.{Leave}
use Rattle.burst_depart.proofs.PlanLaws.{joined_some}
use Rattle.burst_depart.specs.Leaving.{Left, PlannedUnmarked, PlannedMarked, Planned, Regular, RegularNow, RegularThen, leave_with, Goes, Leaves, OffHere, OffThen, entry_then}

-- ---- what is left of a list
module _ (N : ℕ) (links : List ℕ) (x tail next tail' : ℕ) (l : Left N links x tail next tail') where
  left_from : (u : ℕ) → u ≢ 0 → Some (off_as x u (ends_of next tail')) ≡ off_from N u x next tail
  unfolding off_from
  left_from u ne = go (x =? tail) refl
    where
      go : (b : Bool) → x =? tail ≡ b → Some (off_as x u (ends_of next tail')) ≡ off_from N u x next tail
      go true e = let o = l.one (eqb-true x tail e) in simp (ne_eqb u 0 ne, e, o.0, o.1)
      go false e = let m = l.more (eqb-false x tail e) in simp (ne_eqb u 0 ne, e, lt-ltb next N m.1, m.2)

  pub left_off : (z kind : ℕ) (cells words : List ℕ) (u : ℕ) → leaver_of N z kind cells words x ≡ u → u ≢ 0
      → Some (off_as x u (ends_of next tail')) ≡ off_of N z kind cells links words x tail
  left_off z kind cells words u is ne =
      (left_from u ne ∙ ap (λ (g : ℕ). off_from N g x next tail) (sym is))
      ∙ off_is N z kind cells links words x tail next (λ far. (l.more far).0)

  -- the same once a cell has been accepted
  pub left_after : (z kind : ℕ) (cells words : List ℕ) (own s u : ℕ) → leaver_after N z kind cells words own s x ≡ u → u ≢ 0
      → Some (off_as x u (ends_of next tail')) ≡ off_after N z kind cells links words own s x tail
  unfolding off_after
  left_after z kind cells words own s u is ne =
      (left_from u ne ∙ ap (λ (g : ℕ). off_from N g x next tail) (sym is))
      ∙ from_same N (leaver_after N z kind cells words own s x) x next (get_or links x 0) tail (λ far. (l.more far).0)

  -- other links, but this one
  pub left_links : (links' : List ℕ) → get_or links' x 0 ≡ get_or links x 0 → Left N links' x tail next tail'
  left_links links' e =
      record { one = l.one; more = λ far. ((l.more far).0 ∙ sym e, (l.more far).1, (l.more far).2) }

  pub left_fit : tail < N → ends_fit N (ends_of next tail') ≡ true
  left_fit low = go (x =? tail) refl
    where
      go : (b : Bool) → x =? tail ≡ b → ends_fit N (ends_of next tail') ≡ true
      go true e = let o = l.one (eqb-true x tail e) in rw (o.0, o.1) (fit_empty N)
      go false e = let m = l.more (eqb-false x tail e) in rw m.2 (fit_marked N next tail m.1 low)

-- ---- the connection that was found, once a cell of the connection own stands in another space
goes_is : (N : ℕ) (words : List ℕ) (c : ℕ) → goes_as N words c ≢ 0 → goes_as N words c ≡ c
unfolding goes_as
goes_is N words c = go (c =? 0) (may_go N words c)
  where
    go : (a b : Bool) → (when a then 0 else when b then c else 0) ≢ 0 → (when a then 0 else when b then c else 0) ≡ c
    go true b ne = absurd (ne refl)
    go false true ne = refl
    go false false ne = absurd (ne refl)

module _ (N z kind own s : ℕ) (cells words : List ℕ) (x : ℕ) where
  abbrev number : ℕ
  number = numbered kind z (header_at kind cells (cell_start x))

  leaver_then : x ≢ s → (u : ℕ) → leaver_of N z kind cells words x ≡ u → u ≢ 0 → leaver_after N z kind cells words own s x ≡ u
  unfolding leaver_after
  leaver_then ne u is ok = go (number =? own) refl
    where
      seen : goes_as N words number ≡ u
      seen = leaver_is N z kind cells words x ∙ is

      go : (b : Bool) → number =? own ≡ b → leaver_after N z kind cells words own s x ≡ u
      go true e =
          rw (ne_eqb x s ne, e)
          (sym (eqb-true number own e) ∙ (sym (goes_is N words number (λ q. ok (sym seen ∙ q))) ∙ seen))
      go false e = rw (ne_eqb x s ne, e) seen

  -- the cell itself
  pub leaver_own : x ≡ s → leaver_after N z kind cells words own s x ≡ own
  unfolding leaver_after
  leaver_own e = rw (eq-eqb x s e) refl

-- ---- its link, once another has been written
link_then : (joins : Bool) (i y : ℕ) (named : Bool) (s h : ℕ) (l : List ℕ) (x : ℕ) → x < length l → x ≢ s
    → get_or (linked joins i y (linked named s h l)) x 0 ≡ get_or (linked joins i y l) x 0
link_then joins i y named s h l x low ne = outer joins refl
  where
    inner : (b : Bool) → named ≡ b → get_or (linked named s h l) x 0 ≡ get_or l x 0
    inner true e = linked_other named s h l x e ne
    inner false e = linked_off named s h l x e

    at : joins ≡ true → Dec (x ≡ i) → get_or (linked joins i y (linked named s h l)) x 0 ≡ get_or (linked joins i y l) x 0
    at e (yes q) =
        linked_own joins i y (linked named s h l) x e q (rw (linked_length named s h l) low)
        ∙ sym (linked_own joins i y l x e q low)
    at e (no q) =
        linked_other joins i y (linked named s h l) x e q
        ∙ (inner named refl ∙ sym (linked_other joins i y l x e q))

    outer : (b : Bool) → joins ≡ b → get_or (linked joins i y (linked named s h l)) x 0 ≡ get_or (linked joins i y l) x 0
    outer true e = at e (ℕ_discrete x i)
    outer false e =
        linked_off joins i y (linked named s h l) x e ∙ (inner named refl ∙ sym (linked_off joins i y l x e))

-- ---- what departs, in memory as it is and as it then is
module _ (k : Record) (cells links words : List ℕ) (joins : Bool) (entry : Ends) (x next tail' u : ℕ)
    (is : leaver_of k.n k.v k.kind cells words x ≡ u) (ok : u ≢ 0)
    (head : x ≡ joined_head k entry)
    (l : Left k.n (linked joins k.outtail entry.head links) x entry.tail next tail')
  where
    abbrev joined : List ℕ
    joined = linked joins k.outtail entry.head links

    pub off_here : OffHere k cells links words joins entry (off_as x u (ends_of next tail'))
    off_here =
        left_off k.n joined x entry.tail next tail' l k.v k.kind cells words u is ok
        ∙ ap (λ (y : ℕ). off_of k.n k.v k.kind cells joined words y entry.tail) head

    module _ (p : Spot) (low : x < length links) (far : x ≢ p.x) where
      abbrev stored : List ℕ
      stored = linked joins k.outtail entry.head (linked (not (p.head =? empty)) p.x p.head links)

      pub off_then_lem : OffThen k p cells links words joins entry (off_as x u (ends_of next tail'))
      off_then_lem =
          left_after k.n stored x entry.tail next tail'
          (left_links k.n joined x entry.tail next tail' l stored
          (link_then joins k.outtail entry.head (not (p.head =? empty)) p.x p.head links x low far))
          k.v k.kind cells words p.vci p.x u (leaver_then k.n k.v k.kind p.vci p.x cells words x far u is ok) ok
          ∙ ap (λ (y : ℕ). off_after k.n k.v k.kind cells stored words p.vci p.x y entry.tail) head

-- ---- a plan with its connection
module _ (k : Record) (links bits : List ℕ) (entry : Ends) (o : Leave) (u : ℕ) (Is : Bool → Ends → Off → Type 0)
    (plan : Planned k links entry (Some o)) (held : is_free_space bits o.space ≡ false)
    (off : (joins : Bool) (e : Ends) → o.space ≡ joined_head k e
    → Left k.n (linked joins k.outtail e.head links) o.space e.tail o.next o.tail
    → Is joins e (off_as o.space u (ends_of o.next o.tail)))
  where
    goes_unmarked : entry.head ≡ empty → PlannedUnmarked k links o → Goes k bits entry (leave_with o u) Is
    unfolding joined_head linked
    goes_unmarked e p =
        record {
          marked = λ q. found.no (sym p.marked ∙ q);
          unmarked = λ q.
              (e, p.some, p.follows, off false (ends_of 0 k.outtail) (p.space ∙ rw (ne_eqb k.outhead empty p.some) refl) p.rest);
          space_low = p.space_low;
          not_free = held;
          left_fits = p.left_fits;
        }

    goes_marked : entry.head ≢ empty → PlannedMarked k links entry o → Goes k bits entry (leave_with o u) Is
    unfolding joined_links
    goes_marked ne p =
        record {
          marked = λ q. (ne, p.follows, off (not (k.outhead =? empty)) entry p.space p.rest);
          unmarked = λ q. found.no (sym q ∙ p.marked);
          space_low = p.space_low;
          not_free = held;
          left_fits = p.left_fits;
        }

    pub plan_leaves : Leaves k bits entry (Some (leave_with o u)) Is
    plan_leaves = record { entry_fits = plan.entry_fits; departs = go (ℕ_discrete entry.head empty) }
      where
        go : Dec (entry.head ≡ empty) → Goes k bits entry (leave_with o u) Is
        go (yes e) = goes_unmarked e (plan.unmarked e)
        go (no ne) = goes_marked ne (plan.marked ne)

-- ---- a plan by which nothing departs
pub plan_none : (k : Record) (links bits : List ℕ) (entry : Ends) (Is : Bool → Ends → Off → Type 0)
    → Planned k links entry None → Leaves k bits entry None Is
plan_none k links bits entry Is plan =
    record { entry_fits = plan.entry_fits; departs = go (ℕ_discrete entry.head empty) }
  where
    go : Dec (entry.head ≡ empty) → (entry.head ≡ empty) × (k.outhead ≡ empty)
    go (yes e) = (e, plan.unmarked e)
    go (no ne) = absurd (plan.marked ne)

-- ---- what a plan shows of the space that departs
pub plan_low : (k : Record) (links : List ℕ) (entry : Ends) (o : Leave) → Planned k links entry (Some o) → o.space < k.n
plan_low k links entry o plan = go (ℕ_discrete entry.head empty)
  where
    go : Dec (entry.head ≡ empty) → o.space < k.n
    go (yes e) = (plan.unmarked e).space_low
    go (no ne) = (plan.marked ne).space_low

-- ---- a plan that is not kept: its space is free, or names no connection of which a cell may depart
pub plan_head : (k : Record) (links : List ℕ) (entry : Ends) (o : Leave) → Planned k links entry (Some o) → joined_head k entry ≡ o.space
plan_head k links entry o plan = go (ℕ_discrete entry.head empty)
  where
    go : Dec (entry.head ≡ empty) → joined_head k entry ≡ o.space
    go (yes e) = let p = plan.unmarked e in sym (p.space ∙ joined_some k entry p.some)
    go (no ne) = sym (plan.marked ne).space

-- the space that would depart, x, is an entry of the Output List once it is joined
module _ (k : Record) (cells links words bits : List ℕ) (entry : Ends) (x : ℕ) (is : joined_head k entry ≡ x) (few : k.n ≤ 1024) (low : x < k.n)
    (r : Regular k cells links words bits entry)
  where
    some : joined_head k entry ≢ empty
    some e = omega (arith, sym is ∙ e, low, few)

    pub not_held : is_free_space bits x ≡ true → ⊥
    not_held free = found.no (sym (ap (is_free_space bits) (sym is) ∙ r.held some) ∙ free)

    pub not_named : leaver_of k.n k.v k.kind cells words x ≡ 0 → ⊥
    not_named none = r.of_connection some (ap (leaver_of k.n k.v k.kind cells words) is ∙ none)

-- ---- the plan with the connection that was found
module _ (k : Record) (cells links words bits : List ℕ) (entry : Ends) (o : Leave) (u : ℕ)
    (plan : Planned k links entry (Some o)) (held : is_free_space bits o.space ≡ false)
    (is : leaver_of k.n k.v k.kind cells words o.space ≡ u) (ok : u ≢ 0)
  where
    pub quiet_leaves : Leaves k bits entry (Some (leave_with o u)) (OffHere k cells links words)
    quiet_leaves =
        plan_leaves k links bits entry o u (OffHere k cells links words) plan held
        (λ joins f head l. off_here k cells links words joins f o.space o.next o.tail u is ok head l)

    -- where a cell has been accepted: its space was free, so it is another one than departs
    module _ (p : Spot) (free : is_free_space bits p.x ≡ true) where
      other : o.space ≢ p.x
      other q = found.no (sym held ∙ ap (is_free_space bits) q ∙ free)

      still_held : is_free_space (taken bits p.x) o.space ≡ false
      still_held = taken_other bits p.x free o.space other ∙ held

      pub later_leaves : o.space < length links → Leaves k (taken bits p.x) entry (Some (leave_with o u)) (OffThen k p cells links words)
      later_leaves low =
          plan_leaves k links (taken bits p.x) entry o u (OffThen k p cells links words) plan still_held
          (λ joins f head l. off_then_lem k cells links words joins f o.space o.next o.tail u is ok head l p low other)

-- ---- where the cell joined entry T, and where it joined another: T's ends are then the cell's, or as they were
module _ (k : Record) (p : Spot) (cells links calendar words bits : List ℕ) where
  pub accept_now : entry_then k p calendar ≡ seat_ends (seat_at p) → p.d ≡ 0 → (result : Option (Option Leave))
      → MatchOption result (RegularNow k p cells links words bits → ⊥)
      (λ found. Leaves k (taken bits p.x) (seat_ends (seat_at p)) found (OffThen k p cells links words))
      → MatchOption result (RegularThen k p cells links calendar words bits → ⊥)
      (λ found. Leaves k (taken bits p.x) (entry_then k p calendar) found (OffThen k p cells links words))
  accept_now e zero None why =
      λ r.
      why
      (record {
        alone = λ q. r.alone q zero;
        other = λ ne. subst (λ (f : Ends). Regular k cells links words bits f) e (r.other (λ q. absurd (ne q)));
      })
  accept_now e zero (Some found) l =
      subst (λ (f : Ends). Leaves k (taken bits p.x) f found (OffThen k p cells links words)) (sym e) l

  pub accept_later : entry_then k p calendar ≡ entry_at calendar k.turn → p.d ≢ 0 → (result : Option (Option Leave))
      → MatchOption result (Regular k cells links words bits (entry_at calendar k.turn) → ⊥)
      (λ found. Leaves k (taken bits p.x) (entry_at calendar k.turn) found (OffThen k p cells links words))
      → MatchOption result (RegularThen k p cells links calendar words bits → ⊥)
      (λ found. Leaves k (taken bits p.x) (entry_then k p calendar) found (OffThen k p cells links words))
  accept_later e ne None why =
      λ r. why (subst (λ (f : Ends). Regular k cells links words bits f) e (r.other (λ q. ne)))
  accept_later e ne (Some found) l =
      subst (λ (f : Ends). Leaves k (taken bits p.x) f found (OffThen k p cells links words)) (sym e) l
