-- What departs once an accepted cell has its seat: by what was found the slot is refused, nothing departs, or o does, as steps 4 and 5
-- say.
use Prim.Native.Nat.{ℕ, ◌≤◌, ◌<◌}
use mathlib.Core.Path.{◌≡◌, refl, sym, ◌∙◌, ap, subst}
use mathlib.Core.Logic.{◌≢◌}
use mathlib.Core.Bool.{Bool, true, false, not}
use mathlib.Core.List.{List}
use Rattle.std.specs.Prelude.{Option, Some, None}
use Rattle.std.proofs.lemmas.Option.{none-some, same_Some}
use native.Mathlib.Omega.{arith}
use borrow.Author.Tests.{eq-eqb, ne_eqb, eqb-true, eqb-false, not-true}
use lib.ListN.{get_or}
use Rattle.meaning.specs.declared.Record.{Record}
use Rattle.meaning.specs.Plain.{when◌then◌else◌, ◌<?◌, ◌=?◌, Out, refused, next, ◌and_then◌}
use Rattle.meaning.specs.Numbers.{most_n, connections_in, empty, waiting_place}
use Rattle.meaning.specs.Bits.{is_free_space, taken}
use Rattle.meaning.specs.State.{Ends, state_of}
use Rattle.meaning.specs.Lists.{ends_fit, entry_at, write_entry}
use Rattle.meaning.specs.Work.{Work}
use Rattle.meaning.specs.Slot.{step4, step5}
use Rattle.meaning.proofs.ListsLaws.{fit_head, fit_tail}
use Rattle.slot_arrive.specs.declared.Fall.{Fall}
use Rattle.slot_arrive.specs.declared.Judged.{Judged}
use Rattle.slot_arrive.specs.Arrival.{filled}
use Rattle.mem_lists.specs.declared.Seat.{Seat}
use Rattle.mem_lists.specs.declared.Off.{Off}
use Rattle.mem_lists.specs.Spaces.{ends_of, linked, off_as}
use Rattle.mem_lists.specs.Leaver.{leaver_after, off_from, off_after}
use Rattle.slot_plan.specs.Plan.{rotated, accept_work, seat_ends, joined_head}
use Rattle.slot_plan.specs.Works.{accept_left}
use Rattle.slot_plan.specs.Facts.{Sized, Accepted, Seated, OffStored}
use Rattle.slot_plan.proofs.Found.{no}
use Rattle.slot_plan.proofs.Cases.{joined_low}
use Rattle.slot_plan.proofs.AcceptCases.{accept_marked_none, accept_marked_held, accept_marked_goes, accept_output_none, accept_output_held, accept_output_goes, accept_shows, accept_space, seated_unfit, seated_marked, seated_output, seated_none}
use Rattle.slot_accept.specs.declared.departure.Departing.{Departing}
use Rattle.slot_accept.specs.Going.{going_as, going_with, going_unmarked, going_marked, going_of, off_then}

module _ (k : Record) (b : Option Fall) (j : Judged) (a : Seat) (cell cells links calendar words bits arrived : List ℕ)
    (z : Sized (state_of k cells links calendar words bits arrived)) (acc : Accepted k j cell words) (seat : Seated k a bits)
    (output_fits : ends_fit k.n (ends_of k.outhead k.outtail) ≡ true) where
  abbrev entry : Ends
  entry = entry_at (write_entry calendar a.e (seat_ends a)) k.turn

  abbrev work : Work
  work = accept_work k j a cell cells links calendar (rotated k b words) bits arrived

  abbrev steps : Out Work
  steps = step4 work and_then step5

  -- what a found departure says of the steps
  pub record Says (g : Option (Option Departing)) : Type 0 where
    pub refuses : g ≡ None → steps ≡ refused
    pub stays : g ≡ Some None → steps ≡ next work
    pub leaves : (d : Departing) → g ≡ Some (Some d)
        → steps ≡ next (accept_left (state_of k cells links calendar words bits arrived) b j a cell d.off d.joins d.from d.clears)
    pub connection : (d : Departing) → g ≡ Some (Some d)
        → (d.off.vci < connections_in k.v) × (1 ≤ get_or (filled j.vci j.s j.second k.t j.waiting (rotated k b words)) (waiting_place d.off.vci) 0)
    pub space_low : (d : Departing) → g ≡ Some (Some d) → d.off.space < most_n
    pub held : (d : Departing) → g ≡ Some (Some d) → is_free_space (taken bits a.x) d.off.space ≡ false
    pub tail_low : (d : Departing) → g ≡ Some (Some d) → d.joins ≡ true → k.outtail < k.n

  never : {A B : Type 0} {x : B} → None ≡ Some x → A
  never {x = x} q = absurd (none-some x q)

  stuck_says : steps ≡ refused → Says None
  stuck_says e =
      record {
        refuses = λ q. e;
        stays = λ q. never q;
        leaves = λ d q. never q;
        connection = λ d q. never q;
        space_low = λ d q. never q;
        held = λ d q. never q;
        tail_low = λ d q. never q;
      }

  -- o departs, if it may
  with_says : (joins : Bool) (e : Ends) (from : ℕ) (clears : Bool) (found : Option Off) → OffStored k j a cells links words joins e found
      → (joins ≡ true → k.outtail < k.n)
      → ((o : Off) → found ≡ Some o → o.space < most_n)
      → (found ≡ None → steps ≡ refused)
      → ((o : Off) → found ≡ Some o → is_free_space (taken bits a.x) o.space ≡ true → steps ≡ refused)
      → ((o : Off) → found ≡ Some o → is_free_space (taken bits a.x) o.space ≡ false
      → steps ≡ next (accept_left (state_of k cells links calendar words bits arrived) b j a cell o joins from clears))
      → Says (going_with bits a found joins from clears)
  unfolding going_with
  with_says joins e from clears None is low space none held goes = stuck_says (none refl)
  with_says joins e from clears (Some o) is low space none held goes = go (is_free_space (taken bits a.x) o.space) refl
    where
      here : Departing
      here = going_as o joins from clears

      go : (f : Bool) → is_free_space (taken bits a.x) o.space ≡ f → Says (when f then None else Some (Some (going_as o joins from clears)))
      go true ef = stuck_says (held o refl ef)
      go false ef =
          record {
            refuses = λ q. never (sym q);
            stays = λ q. never (sym (same_Some _ _ q));
            leaves = λ d q.
                let P : Departing → Type 0 =
                λ x. steps ≡ next (accept_left (state_of k cells links calendar words bits arrived) b j a cell x.off x.joins x.from x.clears) in
                subst P (same_Some _ _ (same_Some _ _ q)) (goes o refl ef);
            connection = λ d q.
                let P : Departing → Type 0 =
                λ x. (x.off.vci < connections_in k.v) × (1 ≤ get_or (filled j.vci j.s j.second k.t j.waiting (rotated k b words)) (waiting_place x.off.vci) 0) in
                subst P (same_Some _ _ (same_Some _ _ q)) (accept_shows k b j a cell cells links calendar words bits arrived z acc seat joins e o is);
            space_low = λ d q. let P : Departing → Type 0 = λ x. x.off.space < most_n in subst P (same_Some _ _ (same_Some _ _ q)) (space o refl);
            held = λ d q.
                let P : Departing → Type 0 = λ x. is_free_space (taken bits a.x) x.off.space ≡ false in
                subst P (same_Some _ _ (same_Some _ _ q)) ef;
            tail_low = λ d q. let P : Departing → Type 0 = λ x. x.joins ≡ true → k.outtail < k.n in subst P (same_Some _ _ (same_Some _ _ q)) low;
          }

  joins_low : not (k.outhead =? empty) ≡ true → k.outtail < k.n
  joins_low e = fit_tail k.n (ends_of k.outhead k.outtail) output_fits (eqb-false k.outhead empty (not-true _ e))

  module _ (entry_fits : ends_fit k.n entry ≡ true) where
    marked_says : entry.head ≢ empty → Says (going_marked k j a entry cells links words bits)
    unfolding going_marked
    marked_says ne =
        let on = seated_marked k b j a cell cells links calendar words bits arrived entry.head entry.tail refl refl entry_fits output_fits ne in
        let o = off_then k j a cells links words (not (k.outhead =? empty)) entry in
        let low = joined_low k entry output_fits (fit_head k.n entry entry_fits ne) in
        with_says (not (k.outhead =? empty)) entry entry.head true o refl joins_low
        (λ y q. let space = accept_space k b j a cell cells links calendar words bits arrived z acc seat _ entry y (sym q) in omega (arith, space, low, z.n_high))
        (λ q. on ∙ accept_marked_none k b j a cell cells links calendar words bits arrived z acc seat entry o refl q)
        (λ y q f. on ∙ accept_marked_held k b j a cell cells links calendar words bits arrived z acc seat entry o refl y q f)
        (λ y q f. on ∙ accept_marked_goes k b j a cell cells links calendar words bits arrived z acc seat entry o refl y q f)

    output_says : entry.head ≡ empty → k.outhead ≢ empty
        → Says (going_with bits a (off_then k j a cells links words false (ends_of 0 k.outtail)) false 0 false)
    output_says e ne =
        let on = seated_output k b j a cell cells links calendar words bits arrived entry.head entry.tail refl refl entry_fits output_fits e ne in
        let o = off_then k j a cells links words false (ends_of 0 k.outtail) in
        let low = fit_head k.n (ends_of k.outhead k.outtail) output_fits ne in
        with_says false (ends_of 0 k.outtail) 0 false o refl (λ q. no q)
        (λ y q. let space = accept_space k b j a cell cells links calendar words bits arrived z acc seat _ (ends_of 0 k.outtail) y (sym q) in
        omega (arith, space, joined_low k (ends_of 0 k.outtail) output_fits (omega (arith, z.n_low)), z.n_high))
        (λ q. on ∙ accept_output_none k b j a cell cells links calendar words bits arrived z acc seat low o refl q)
        (λ y q f. on ∙ accept_output_held k b j a cell cells links calendar words bits arrived z acc seat low o refl y q f)
        (λ y q f. on ∙ accept_output_goes k b j a cell cells links calendar words bits arrived z acc seat low o refl y q f)

    unmarked_says : entry.head ≡ empty → Says (going_unmarked k j a cells links words bits)
    unfolding going_unmarked
    unmarked_says e = go (k.outhead =? empty) refl
      where
        go : (m : Bool) → k.outhead =? empty ≡ m
            → Says (when m then Some None else going_with bits a (off_then k j a cells links words false (ends_of 0 k.outtail)) false 0 false)
        go true q =
            record {
              refuses = λ r. never (sym r);
              stays = λ r. seated_none k b j a cell cells links calendar words bits arrived entry.head entry.tail refl refl entry_fits output_fits e (eqb-true _ _ q);
              leaves = λ d r. never (same_Some _ _ r);
              connection = λ d r. never (same_Some _ _ r);
              space_low = λ d r. never (same_Some _ _ r);
              held = λ d r. never (same_Some _ _ r);
              tail_low = λ d r. never (same_Some _ _ r);
            }
        go false q = output_says e (eqb-false _ _ q)

  pub going_says : (g : Option (Option Departing)) → g ≡ going_of k j a cells links calendar words bits → Says g
  unfolding going_of
  going_says g is = rw is (go (ends_fit k.n entry) (entry.head =? empty) refl refl)
    where
      go : (f m : Bool) → ends_fit k.n entry ≡ f → entry.head =? empty ≡ m
          → Says (when f then (when m then going_unmarked k j a cells links words bits else going_marked k j a entry cells links words bits) else None)
      go true true ef em = unmarked_says ef (eqb-true _ _ em)
      go true false ef em = marked_says ef (eqb-false _ _ em)
      go false m ef em = stuck_says (seated_unfit k b j a cell cells links calendar words bits arrived entry.head entry.tail refl refl ef)

-- ---- what departs once the cell is stored is the head of the joined list
pub then_space : (k : Record) (j : Judged) (a : Seat) (cells links words : List ℕ) (joins : Bool) (e : Ends) (o : Off)
    → OffStored k j a cells links words joins e (Some o)
    → o.space ≡ joined_head k e
unfolding off_after off_from
then_space k j a cells links words joins e o is = go (u =? 0) (x =? e.tail) (get_or l x 0 <? k.n) (sym is)
  where
    x : ℕ
    x = joined_head k e

    l : List ℕ
    l = linked joins k.outtail e.head (linked (not (a.head =? empty)) a.x a.head links)

    u : ℕ
    u = leaver_after k.n k.v k.kind cells words j.vci a.x x

    go : (m n f : Bool)
        → (when m then None else when n then Some (off_as x u (ends_of empty empty)) else when f then Some (off_as x u (ends_of (get_or l x 0) e.tail)) else None) ≡ Some o
        → o.space ≡ x
    go true n f q = absurd (none-some o q)
    go false true f q = ap (λ (y : Off). y.space) (sym (same_Some _ _ q))
    go false false true q = ap (λ (y : Off). y.space) (sym (same_Some _ _ q))
    go false false false q = absurd (none-some o q)

-- ---- the departure by its tests
module _ (bits : List ℕ) (a : Seat) (found : Option Off) (joins : Bool) (from : ℕ) (clears : Bool) where
  abbrev with : Option Off → Option (Option Departing)
  with x = going_with bits a x joins from clears

  pub with_none : found ≡ None → None ≡ going_with bits a found joins from clears
  unfolding going_with
  with_none e = ap with (sym e)

  pub with_held : (o : Off) → found ≡ Some o → is_free_space (taken bits a.x) o.space ≡ true → None ≡ going_with bits a found joins from clears
  unfolding going_with
  with_held o e f = here f ∙ ap with (sym e)
    where
      here : is_free_space (taken bits a.x) o.space ≡ true → None ≡ with (Some o)
      here q = rw q

  pub with_goes : (o : Off) → found ≡ Some o → is_free_space (taken bits a.x) o.space ≡ false
      → Some (Some (going_as o joins from clears)) ≡ going_with bits a found joins from clears
  unfolding going_with
  with_goes o e f = here f ∙ ap with (sym e)
    where
      here : is_free_space (taken bits a.x) o.space ≡ false → Some (Some (going_as o joins from clears)) ≡ with (Some o)
      here q = rw q

-- ---- the whole by its tests, entry T being read from x to y
module _ (k : Record) (j : Judged) (a : Seat) (cells links calendar words bits : List ℕ) (x y : ℕ)
    (first : x ≡ (entry_at (write_entry calendar a.e (seat_ends a)) k.turn).head) (last : y ≡ (entry_at (write_entry calendar a.e (seat_ends a)) k.turn).tail) where
  abbrev read : Ends
  read = entry_at (write_entry calendar a.e (seat_ends a)) k.turn

  same : ends_of x y ≡ read
  same = λ i. record { head = first i; tail = last i }

  pub going_unfit : ends_fit k.n (ends_of x y) ≡ false → None ≡ going_of k j a cells links calendar words bits
  unfolding going_of
  going_unfit e = rw (ap (ends_fit k.n) (sym same) ∙ e)

  pub going_unmarked_is : ends_fit k.n (ends_of x y) ≡ true → x ≡ empty → going_unmarked k j a cells links words bits ≡ going_of k j a cells links calendar words bits
  unfolding going_of
  going_unmarked_is e h = rw (ap (ends_fit k.n) (sym same) ∙ e, eq-eqb read.head empty (sym first ∙ h))

  pub going_marked_is : ends_fit k.n (ends_of x y) ≡ true → x ≢ empty → going_marked k j a (ends_of x y) cells links words bits ≡ going_of k j a cells links calendar words bits
  unfolding going_of
  going_marked_is e h =
      ap (λ (p : Ends). going_marked k j a p cells links words bits) same
      ∙ rw (ap (ends_fit k.n) (sym same) ∙ e, ne_eqb read.head empty (λ q. h (first ∙ q)))
