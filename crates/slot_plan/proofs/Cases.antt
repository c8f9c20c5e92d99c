-- The cases of a slot's code, each over plain lists: steps 4 and 5 of a work after step 3, by what was read of entry T,
-- the Output List, what departs and the words of free spaces.
use Prim.Native.Nat.{ℕ, ◌+◌, ◌*◌, ◌≤◌, ◌<◌}
use mathlib.Core.Path.{◌≡◌, refl, sym, ◌∙◌, ap}
use mathlib.Core.Logic.{◌≢◌}
use mathlib.Core.Bool.{Bool, true, false, ◌&&◌}
use mathlib.Core.List.{List}
use Rattle.std.specs.Prelude.{Option, Some, None}
use native.Mathlib.Omega.{arith}
use borrow.Author.Tests.{eq-eqb, ne_eqb, eqb-true, eqb-false}
use lib.ListN.{length, get_or}
use Rattle.meaning.specs.declared.Record.{Record}
use Rattle.meaning.specs.Plain.{when◌then◌else◌, ◌=?◌, refused, next, ◌and_then◌}
use Rattle.meaning.specs.Numbers.{empty, excess}
use Rattle.meaning.specs.State.{Ends, output_list}
use Rattle.meaning.specs.Lists.{empty_list, is_empty, ends_fit, entry_at, write_entry}
use Rattle.meaning.specs.Work.{Work}
use Rattle.meaning.specs.Slot.{step4, step5}
use Rattle.meaning.proofs.ListsLaws.{fit_head, fit_empty, entry_read, entry_other}
use Rattle.slot_arrive.specs.declared.Fall.{Fall}
use Rattle.slot_arrive.specs.declared.Judged.{Judged}
use Rattle.slot_arrive.specs.Arrival.{fallen}
use Rattle.mem_lists.specs.declared.Seat.{Seat}
use Rattle.mem_lists.specs.declared.Off.{Off}
use Rattle.mem_lists.specs.Spaces.{ends_of, off_of}
use Rattle.mem_lists.proofs.After.{Kept, kept_fall}
use Rattle.slot_plan.specs.Plan.{rotated, quiet_work, seat_ends, left_by, may_be_freed, leaving, joined_links, joined_head, off_marked, off_unmarked, leaving_marked, leaving_output, leaving_unmarked}
use Rattle.slot_plan.proofs.Leave.{leave_unfit, leave_marked, leave_output, leave_none}
use Rattle.slot_plan.proofs.Off.{off_kept}

both : (a b : Bool) → a ≡ true → b ≡ true → a && b ≡ true
both a b p q = rw (p, q)

second : (a b : Bool) → b ≡ false → a && b ≡ false
second true b e = e
second false b e = refl

-- ---- steps 4 and 5 of any work, entry being entry T
module _ (w : Work) (entry : Ends) (is : entry_at w.state.calendar w.state.ctl.turn ≡ entry) where
  abbrev N : ℕ
  N = w.state.ctl.n

  pub unfit_entry : ends_fit N entry ≡ false → (step4 w and_then step5) ≡ refused
  unfit_entry e = leave_unfit w (rw (is, e))

  pub unfit_output : ends_fit N (output_list w.state) ≡ false → (step4 w and_then step5) ≡ refused
  unfit_output e = leave_unfit w (second (ends_fit N (entry_at w.state.calendar w.state.ctl.turn)) (ends_fit N (output_list w.state)) e)

  module _ (entry_fits : ends_fit N entry ≡ true) (output_fits : ends_fit N (output_list w.state) ≡ true) where
    fits : ends_fit N (entry_at w.state.calendar w.state.ctl.turn) && ends_fit N (output_list w.state) ≡ true
    fits = both _ _ (ap (ends_fit N) is ∙ entry_fits) output_fits

    pub marked : entry.head ≢ empty → (step4 w and_then step5) ≡ leaving_marked w entry
    marked ne = leave_marked w fits (ap is_empty is ∙ ne_eqb entry.head empty ne) ∙ ap (leaving_marked w) is

    pub output : entry.head ≡ empty → w.state.ctl.outhead ≢ empty → (step4 w and_then step5) ≡ leaving_output w
    output e ne = leave_output w fits (ap is_empty is ∙ eq-eqb entry.head empty e) (ne_eqb _ _ ne)

    pub none : entry.head ≡ empty → w.state.ctl.outhead ≡ empty → (step4 w and_then step5) ≡ next w
    none e o = leave_none w fits (ap is_empty is ∙ eq-eqb entry.head empty e) (eq-eqb _ _ o)

-- ---- where entry T is empty: the Output List alone says which case it is
module _ (w : Work) where
  pub unmarked_unfit : ends_fit w.state.ctl.n (output_list w.state) ≡ false → leaving_unmarked w ≡ refused
  unfolding leaving_unmarked
  unmarked_unfit e = rw e

  module _ (fits : ends_fit w.state.ctl.n (output_list w.state) ≡ true) where
    pub unmarked_none : w.state.ctl.outhead ≡ empty → leaving_unmarked w ≡ next w
    unfolding leaving_unmarked
    unmarked_none e = rw (fits, eq-eqb _ _ e)

    pub unmarked_output : w.state.ctl.outhead ≢ empty → leaving_unmarked w ≡ leaving_output w
    unfolding leaving_unmarked
    unmarked_output ne = rw (fits, ne_eqb _ _ ne)

  pub unmarked : entry_at w.state.calendar w.state.ctl.turn ≡ empty_list → (step4 w and_then step5) ≡ leaving_unmarked w
  unmarked is = go (ends_fit w.state.ctl.n (output_list w.state)) (w.state.ctl.outhead =? empty) refl refl
    where
      go : (f e : Bool) → ends_fit w.state.ctl.n (output_list w.state) ≡ f → w.state.ctl.outhead =? empty ≡ e
          → (step4 w and_then step5) ≡ leaving_unmarked w
      go false e p q = unfit_output w empty_list is p ∙ sym (unmarked_unfit p)
      go true true p q =
          none w empty_list is (fit_empty _) p refl (eqb-true _ _ q) ∙ sym (unmarked_none p (eqb-true _ _ q))
      go true false p q =
          output w empty_list is (fit_empty _) p refl (eqb-false _ _ q) ∙ sym (unmarked_output p (eqb-false _ _ q))

-- ---- what departs, or not
pub leaving_go : (w : Work) (links calendar bits : List ℕ) (o : Off)
    → may_be_freed w.state.ctl.n w.state.ctl.free w.state.bits o.space ≡ true
    → leaving w links calendar bits (Some o) ≡ next (left_by w links calendar bits o)
unfolding leaving
leaving_go w links calendar bits o q = rw q

pub leaving_none : (w : Work) (links calendar bits : List ℕ) → leaving w links calendar bits None ≡ refused
unfolding leaving
leaving_none w links calendar bits = refl

pub leaving_unfit : (w : Work) (links calendar bits : List ℕ) (o : Off)
    → may_be_freed w.state.ctl.n w.state.ctl.free w.state.bits o.space ≡ false
    → leaving w links calendar bits (Some o) ≡ refused
unfolding leaving
leaving_unfit w links calendar bits o q = rw q

-- ---- the head of the Output List, once entry T has joined it
pub joined_low : (k : Record) (entry : Ends) → ends_fit k.n (ends_of k.outhead k.outtail) ≡ true → entry.head < k.n → joined_head k entry < k.n
unfolding joined_head
joined_low k entry f h = go (k.outhead =? empty) refl
  where
    go : (b : Bool) → k.outhead =? empty ≡ b → (when b then entry.head else k.outhead) < k.n
    go true q = h
    go false q = fit_head k.n (ends_of k.outhead k.outtail) f (eqb-false k.outhead empty q)

pub output_head : (k : Record) (entry : Ends) → k.n ≤ 1024 → k.outhead < k.n → joined_head k entry ≡ k.outhead
unfolding joined_head
output_head k entry small low = rw (ne_eqb k.outhead empty (λ q. omega arith))

pub output_low : (k : Record) (entry : Ends) → k.n ≤ 1024 → k.outhead < k.n → joined_head k entry < k.n
output_low k entry small low = rw (output_head k entry small low) low

-- ---- entry T once an accepted cell has joined its own
module _ (calendar : List ℕ) (a : Seat) (T : ℕ) where
  abbrev joined : Ends
  joined = entry_at (write_entry calendar a.e (seat_ends a)) T

  far_entry : a.e ≢ T → entry_at (write_entry calendar a.e (seat_ends a)) T ≡ ends_of (get_or calendar (2 * T) 0) (get_or calendar (2 * T + 1) 0)
  unfolding entry_at
  far_entry ne = entry_other calendar a.e (seat_ends a) T (λ q. ne (sym q))

  own_entry : a.e ≡ T → 2 * T + 2 ≤ length calendar → entry_at (write_entry calendar a.e (seat_ends a)) T ≡ seat_ends a
  unfolding seat_ends
  own_entry e inside = rw e (entry_read calendar T (seat_ends a) inside)

  pub own_head : a.e ≡ T → 2 * T + 2 ≤ length calendar → a.x ≡ joined.head
  unfolding seat_ends
  own_head e inside = ap (λ (x : Ends). x.head) (sym (own_entry e inside))

  pub own_tail : (t : ℕ) → t ≡ (seat_ends a).tail → a.e ≡ T → 2 * T + 2 ≤ length calendar → t ≡ joined.tail
  own_tail t is e inside = is ∙ ap (λ (x : Ends). x.tail) (sym (own_entry e inside))

  pub far_head : a.e ≢ T → get_or calendar (2 * T) 0 ≡ joined.head
  far_head ne = ap (λ (x : Ends). x.head) (sym (far_entry ne))

  pub far_tail : a.e ≢ T → get_or calendar (2 * T + 1) 0 ≡ joined.tail
  far_tail ne = ap (λ (x : Ends). x.tail) (sym (far_entry ne))

-- ---- where no cell is accepted, what departs is what the words before steps 2 and 3 show
module _ (k : Record) (b : Option Fall) (j : Judged) (cells links calendar words bits arrived : List ℕ) where
  abbrev w : Work
  w = quiet_work k j cells links calendar (rotated k b words) bits arrived

  pub rotated_kept : Kept words (rotated k b words)
  unfolding rotated fallen
  rotated_kept = elim b as (λ (x : Option Fall). Kept words (rotated k x words)) [
    | Some f ↦ kept_fall true k.rotation f.s f.second k.t words
    | None ↦ record { long = refl; opened = λ u. refl; waiting = λ u. refl }
  ]

  pub quiet_kept : Kept words (fallen (j.verdict =? excess) j.vci j.s j.second k.t (rotated k b words))
  unfolding fallen
  quiet_kept =
      let one = rotated_kept in
      let two = kept_fall (j.verdict =? excess) j.vci j.s j.second k.t (rotated k b words) in
      record {
        long = two.long ∙ one.long;
        opened = λ u. two.opened u ∙ one.opened u;
        waiting = λ u. two.waiting u ∙ one.waiting u;
      }

  pub quiet_marked_off : (entry : Ends)
      → off_marked w entry ≡ off_of k.n k.v k.kind cells (joined_links k entry links) words (joined_head k entry) entry.tail
  unfolding off_marked quiet_work
  quiet_marked_off entry = off_kept k.n k.v k.kind cells (joined_links k entry links) words (joined_head k entry) entry.tail _ quiet_kept

  pub quiet_output_off : off_unmarked w ≡ off_of k.n k.v k.kind cells links words k.outhead k.outtail
  unfolding off_unmarked quiet_work
  quiet_output_off = off_kept k.n k.v k.kind cells links words k.outhead k.outtail _ quiet_kept
