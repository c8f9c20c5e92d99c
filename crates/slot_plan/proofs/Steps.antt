-- Steps 2 and 3 as the code finds them, and what they leave to steps 4 and 5: the words' owner is brought up to date, the
-- cell is judged, and an accepted one has its seat.
use Prim.Native.Nat.{ℕ, ◌+◌, ◌≤◌, ◌<◌}
use mathlib.Core.Path.{◌≡◌, refl, sym, ◌∙◌, ap}
use mathlib.Core.Logic.{◌≢◌}
use mathlib.Core.Bool.{Bool, true, false}
use mathlib.Core.List.{List}
use Rattle.std.specs.Prelude.{Option, Some, None}
use Rattle.std.proofs.lemmas.Option.{none-some}
use borrow.Author.Tests.{eqb-false}
use lib.ListN.{length}
use Rattle.meaning.specs.declared.Record.{Record}
use Rattle.meaning.specs.Plain.{◌=?◌, Out, refused, next, ◌and_then◌}
use Rattle.meaning.specs.Numbers.{lets_in, words_per_connection, connection_place}
use Rattle.meaning.specs.Bits.{is_free_space, spaces_fit, lowest_free}
use Rattle.meaning.specs.State.{state_of, record_with}
use Rattle.meaning.specs.Lists.{ends_fit}
use Rattle.meaning.specs.Work.{Work, work_of, bare_answer}
use Rattle.meaning.proofs.BitsLaws.{lowest_free_lem, lowest_below}
use Rattle.meaning.specs.Slot.{step2, step3, step4, step5}
use Rattle.slot_arrive.specs.declared.Fall.{Fall}
use Rattle.slot_arrive.specs.declared.Judged.{Judged}
use Rattle.slot_arrive.specs.Arrival.{brought_of, judged_of}
use Rattle.mem_lists.specs.declared.Seat.{Seat}
use Rattle.mem_lists.specs.Spaces.{ends_of, seat_of}
use Rattle.slot_plan.specs.Plan.{with_ends, rotated, rotated_work, quiet_work, seating, seat_now, accept_work}
use Rattle.slot_plan.specs.Facts.{Seated}
use Rattle.slot_plan.proofs.Found.{seat_shows}
use Rattle.slot_plan.proofs.Cases.{unfit_output}
use Rattle.slot_plan.proofs.Rotate.{rotate_is, judged_same}
use Rattle.slot_plan.proofs.Arrive.{arriving, arrive_is}
use Rattle.slot_plan.proofs.Seat.{seat_is}

-- ---- the accepted cell and its seat
module _ (k : Record) (j : Judged) (cell cells links calendar words bits arrived : List ℕ) (turn : k.turn < k.n) (near : j.d < k.n) (found : Option Seat) where
  abbrev seats : ℕ → Out Work
  seats x = seating k j x cell cells links calendar words bits arrived

  abbrev seated : Option Seat → Out Work
  seated None = refused
  seated (Some s) = next (accept_work k j s cell cells links calendar words bits arrived)

  -- the same after steps 4 and 5
  abbrev went : Out Work → Out Work
  went o = o and_then step4 and_then step5

  -- it takes space x, which is free
  module _ (x : ℕ) (fits : spaces_fit k.n k.free bits ≡ true) (some : k.free ≢ 0) (free : is_free_space bits x ≡ true)
      (is : found ≡ seat_of k.n calendar k.turn j.d x) where
    pub seating_goes : (a : Seat) → found ≡ Some a → (seats x and_then step4 and_then step5) ≡ (step4 (accept_work k j a cell cells links calendar words bits arrived) and_then step5)
    seating_goes a e =
        ap went (seat_is k j x cell cells links calendar words bits arrived turn near fits some free ∙ ap seated (sym is ∙ e))

    pub seating_shows : x < k.n → (a : Seat) → found ≡ Some a → Seated k a bits
    seating_shows low a e = seat_shows k calendar bits j.d x turn near a (sym is ∙ e) low fits some free

  -- it takes the lowest free space, if there is one
  module _ (is : found ≡ seat_now k j.d calendar bits) where
    now_is : seats (lowest_free bits) ≡ seated found
    unfolding seating seat_now
    now_is = rw is (go (spaces_fit k.n k.free bits) (k.free =? 0) refl refl)
      where
        go : (f z : Bool) → spaces_fit k.n k.free bits ≡ f → k.free =? 0 ≡ z → seats (lowest_free bits) ≡ seated (seat_now k j.d calendar bits)
        go true true ef ez = rw (ef, ez)
        go true false ef ez =
            let some = eqb-false k.free 0 ez in
            seat_is k j (lowest_free bits) cell cells links calendar words bits arrived turn near ef some (lowest_free_lem k.n k.free bits ef some)
            ∙ rw (ef, ez)
        go false z ef ez = rw ef

    pub now_none : found ≡ None → (seats (lowest_free bits) and_then step4 and_then step5) ≡ refused
    now_none e = ap went (now_is ∙ ap seated e)

    pub now_goes : (a : Seat) → found ≡ Some a
        → (seats (lowest_free bits) and_then step4 and_then step5) ≡ (step4 (accept_work k j a cell cells links calendar words bits arrived) and_then step5)
    now_goes a e = ap went (now_is ∙ ap seated e)

    pub now_shows : (a : Seat) → found ≡ Some a → Seated k a bits
    unfolding seat_now
    now_shows a e = go (spaces_fit k.n k.free bits) (k.free =? 0) refl refl (sym is ∙ e)
      where
        go : (f z : Bool) → spaces_fit k.n k.free bits ≡ f → k.free =? 0 ≡ z
            → seat_now k j.d calendar bits ≡ Some a
            → Seated k a bits
        go true true ef ez = rw (ef, ez) (λ q. absurd (none-some a q))
        go true false ef ez =
            let some = eqb-false k.free 0 ez in
            rw (ef, ez)
            (λ q. seat_shows k calendar bits j.d (lowest_free bits) turn near a q (lowest_below k.n k.free bits ef some) ef some (lowest_free_lem k.n k.free bits ef some))
        go false z ef ez = rw ef (λ q. absurd (none-some a q))

    pub now_unfit : (a : Seat) → found ≡ Some a → ends_fit k.n (ends_of k.outhead k.outtail) ≡ false
        → (seats (lowest_free bits) and_then step4 and_then step5) ≡ refused
    unfolding accept_work with_ends record_with
    now_unfit a e f = now_goes a e ∙ unfit_output (accept_work k j a cell cells links calendar words bits arrived) _ refl f

-- ---- steps 2 and 3
module _ (k : Record) (x : ℕ) (cell cells links calendar words bits arrived : List ℕ) where
  abbrev from2 : Out Work
  from2 = step2 (work_of (state_of k cells links calendar words bits arrived) (bare_answer 0)) and_then step3 x cell and_then step4 and_then step5

  pub rotating_none : None ≡ brought_of k.n k.v k.t words k.rotation → from2 ≡ refused
  rotating_none e = ap (λ (o : Out Work). o and_then step3 x cell and_then step4 and_then step5) (rotate_is k cells links calendar words bits arrived None e)

  module _ (b : Option Fall) (is : Some b ≡ brought_of k.n k.v k.t words k.rotation) (found : Option Judged)
      (judged : found ≡ judged_of k.n k.v k.kind k.t words cell) (inside : connection_place k.rotation + words_per_connection ≤ length words) where
    rotates : step2 (work_of (state_of k cells links calendar words bits arrived) (bare_answer 0)) ≡ next (rotated_work k cells links calendar (rotated k b words) bits arrived)
    rotates = rotate_is k cells links calendar words bits arrived (Some b) is

    judges : step3 x cell (rotated_work k cells links calendar (rotated k b words) bits arrived) ≡ arriving k found x cell cells links calendar (rotated k b words) bits arrived
    judges =
        arrive_is k x cell cells links calendar (rotated k b words) bits arrived
        ∙ ap (λ (y : Option Judged). arriving k y x cell cells links calendar (rotated k b words) bits arrived) (judged_same k words cell b is inside ∙ sym judged)

    arrives : (y : Option Judged) → found ≡ y → from2 ≡ (arriving k y x cell cells links calendar (rotated k b words) bits arrived and_then step4 and_then step5)
    arrives y e =
        ap (λ (o : Out Work). o and_then step3 x cell and_then step4 and_then step5) rotates
        ∙ ap (λ (o : Out Work). o and_then step4 and_then step5)
        (judges ∙ ap (λ (q : Option Judged). arriving k q x cell cells links calendar (rotated k b words) bits arrived) e)

    pub arriving_none : found ≡ None → from2 ≡ refused
    unfolding arriving
    arriving_none e = arrives None e

    pub arriving_accepted : (j : Judged) → found ≡ Some j → lets_in j.verdict ≡ true
        → from2 ≡ (seating k j x cell cells links calendar (rotated k b words) bits arrived and_then step4 and_then step5)
    unfolding arriving
    arriving_accepted j e v = arrives (Some j) e ∙ rw v

    pub arriving_quiet : (j : Judged) → found ≡ Some j → lets_in j.verdict ≡ false
        → from2 ≡ (step4 (quiet_work k j cells links calendar (rotated k b words) bits arrived) and_then step5)
    unfolding arriving
    arriving_quiet j e v = arrives (Some j) e ∙ rw v
