-- A slot in which no cell is let in, over plain lists: from what was found of steps 2 and 3 and of what departs, and from what was
-- written, to what steps 4 and 5 leave.
use Prim.Native.Nat.{ℕ, ◌+◌, ◌*◌, ◌/◌, ◌≤◌, ◌<◌}
use mathlib.Core.Path.{◌≡◌, refl, sym, ◌∙◌, ap}
use mathlib.Core.Logic.{◌≢◌}
use mathlib.Core.Bool.{Bool, true, false, not}
use mathlib.Core.List.{List}
use native.Mathlib.Omega.{arith}
use borrow.Author.Tests.{ne_eqb}
use lib.ListN.{length, get_or, take, drop}
use Rattle.meaning.specs.declared.Record.{Record}
use Rattle.meaning.specs.declared.Served.{Served}
use Rattle.meaning.specs.Plain.{when◌then◌else◌, ◌=?◌, next, ◌and_then◌}
use Rattle.meaning.specs.Numbers.{connections_in, empty, waiting_place}
use Rattle.meaning.specs.Bits.{spaces_fit, given, unmarked}
use Rattle.meaning.specs.State.{Ends, state_of, record_with, write_cell}
use Rattle.meaning.specs.Lists.{empty_list, ends_fit, entry_at, write_entry}
use Rattle.meaning.specs.Work.{Work, work_of, answer_of}
use Rattle.meaning.specs.Slot.{step4, step5}
use Rattle.meaning.specs.Line.{cells_allowed}
use Rattle.meaning.proofs.BitsLaws.{given_fits}
use Rattle.slot_arrive.specs.declared.Fall.{Fall}
use Rattle.slot_arrive.specs.declared.Judged.{Judged}
use Rattle.slot_arrive.specs.Arrival.{one_less}
use Rattle.mem_lists.specs.Spaces.{ends_of, linked, off_of}
use Rattle.slot_plan.specs.Plan.{with_ends, output_ends, rotated, quiet_work, may_be_freed, joined_links, joined_head}
use Rattle.slot_plan.proofs.Cases.{marked, output, none, quiet_kept}
use Rattle.slot_plan.proofs.QuietCases.{quiet_served, marked_goes, output_goes}
use Rattle.slot_plan.proofs.Ends.{quiet_left_lem}
use Rattle.slot_plan.proofs.Off.{off_shows}
use Rattle.burst_out.specs.Handout.{write_answer}
use Rattle.burst_out.proofs.ShowLaws.{shown_cell, shown_none}
use Rattle.burst_way.specs.declared.Way.{Way}
use Rattle.burst_way.specs.Way.{way_with, slot_record}
use Rattle.burst_depart.specs.declared.Leave.{Leave}
use Rattle.burst_depart.specs.Leaving.{Goes, off_at, OffHere}
use Rattle.std.specs.Prelude.{Option, Some, IfSome}
use Rattle.burst_likely.specs.Served.{Ready, HandedTo, Done, went_way, followed, words_fallen}
use Rattle.burst_likely.proofs.ClearLaws.{clear_length, clear_free, clear_fits}
use Rattle.burst_likely.proofs.EitherLaws.{allowed_long, followed_joined, followed_none, follows_low}

-- a departing space is below N
pub below_long : (N long x : ℕ) → long ≡ 53 * N → x < N → x < long / 53
below_long N long x e low = omega (arith, e, low)

module _ (w : Way) (b : Option Fall) (j : Judged) (cells links calendar words bits arrived departures answers : List ℕ) (i : ℕ)
    (ready : Ready w cells links calendar words bits arrived) (lent : HandedTo departures answers i) where
  abbrev k : Record
  k = slot_record w

  abbrev entry : Ends
  entry = entry_at calendar w.turn

  abbrev falling : List ℕ
  falling = words_fallen w b j words

  abbrev work : Work
  work = quiet_work k j cells links calendar (rotated k b words) bits arrived

  allowed : cells_allowed (length cells) ≡ true
  allowed = let s = ready.sized in allowed_long w.n (length cells) s.n_low s.n_high s.cells_long_lem

  entry_is : entry_at work.state.calendar work.state.ctl.turn ≡ entry
  unfolding quiet_work
  entry_is = refl

  -- nothing departs
  none_is : ends_fit k.n entry ≡ true → entry.head ≡ empty → k.outhead ≡ empty → (step4 work and_then step5) ≡ next work
  unfolding quiet_work
  none_is fits e out = none work entry entry_is fits ready.output_fits e out

  same_ends : k ≡ with_ends k k.free (output_ends k)
  unfolding with_ends record_with
  same_ends = refl

  pub none_done : (words' answers' : List ℕ) → ends_fit w.n entry ≡ true → (entry.head ≡ empty) × (w.outhead ≡ empty)
      → words' ≡ falling
      → answers' ≡ write_answer answers i (answer_of 0 j.verdict j.vci 0 65535 0)
      → Done k (step4 work and_then step5) (went_way w (record { free = w.free; outhead = w.outhead; outtail = w.outtail })) cells links calendar words' bits arrived departures departures answers answers' i
  none_done words' answers' fits e written told =
      record {
        answer = answer_of 0 j.verdict j.vci 0 65535 0;
        number = refl;
        is = none_is fits e.0 e.1
            ∙ ap next (sym (quiet_served k b j cells links calendar words bits arrived (record { ctl = k; answer = answer_of 0 j.verdict j.vci 0 65535 0 }) words' refl refl written));
        shown = sym (shown_none departures i lent.departure cells allowed 65535 refl);
        told = told;
        free = k.free;
        output = output_ends k;
        ends = same_ends;
        spaces_fit_lem = ready.spaces_fit_lem;
        output_fits = ready.output_fits;
      }

  -- o departs
  module _ (o : Leave) (fits : ends_fit w.n entry ≡ true) (goes : Goes k bits entry o (OffHere k cells links words)) where
    abbrev left : Ends
    left = ends_of o.next o.tail

    abbrev linking : List ℕ
    linking = followed o.follows w.outtail links

    unmarked_off : OffHere k cells links words false (ends_of 0 k.outtail) (off_at o) → k.outhead ≢ empty
        → Some (off_at o) ≡ off_of k.n k.v k.kind cells links words k.outhead k.outtail
    unfolding linked joined_head
    unmarked_off is ne =
        is ∙ ap (λ (x : ℕ). off_of k.n k.v k.kind cells links words x k.outtail) (simp (ne_eqb k.outhead empty ne))

    -- its connection has a cell waiting
    pub off_low : (o.vci < connections_in w.v) × (1 ≤ get_or words (waiting_place o.vci) 0)
    off_low = go o.marked refl
      where
        go : (m : Bool) → o.marked ≡ m → (o.vci < connections_in w.v) × (1 ≤ get_or words (waiting_place o.vci) 0)
        go true e = off_shows k.n k.v k.kind cells _ words _ _ (off_at o) (sym (goes.marked e).2)
        go false e = off_shows k.n k.v k.kind cells _ words _ _ (off_at o) (sym (goes.unmarked e).3)

    pub less_waits : 1 ≤ get_or falling (waiting_place o.vci) 0
    less_waits = rw ((quiet_kept k b j cells links calendar words bits arrived).waiting o.vci) off_low.1

    -- the links that are written are there
    pub follow_low : IfSome o.follows (λ head. (w.outtail < w.n) × (head < w.n))
    follow_low = go o.marked refl
      where
        go : (m : Bool) → o.marked ≡ m → IfSome o.follows (λ head. (w.outtail < w.n) × (head < w.n))
        go true e = let g = goes.marked e in follows_low k entry o.follows g.1 ready.output_fits fits g.0
        go false e = rw (goes.unmarked e).2 tt

    -- its space may be freed
    may_free : may_be_freed k.n k.free bits o.space ≡ true
    unfolding may_be_freed
    may_free = rw (ready.spaces_fit_lem, goes.not_free)

    leaves_ends : slot_record (way_with w w.t w.turn w.rotation (w.free + 1) o.next o.tail) ≡ with_ends k (k.free + 1) left
    unfolding with_ends record_with
    leaves_ends = refl

    abbrev leaver : Served
    leaver = record { ctl = with_ends k (k.free + 1) left; answer = answer_of 0 j.verdict j.vci 0 o.space o.vci }

    -- the work after step 5, from the links, the calendar and the bits as step 4 leaves them
    abbrev gone : List ℕ → List ℕ → List ℕ → Work
    gone links₁ calendar₁ bits₁ = work_of (state_of leaver.ctl cells links₁ calendar₁ (one_less o.vci falling) (given bits₁ o.space) arrived) leaver.answer

    marked_is : entry.head ≢ empty → OffHere k cells links words (not (k.outhead =? empty)) entry (off_at o)
        → (links₁ : List ℕ) → links₁ ≡ linked (not (k.outhead =? empty)) k.outtail entry.head links
        → (step4 work and_then step5) ≡ next (gone links₁ (write_entry calendar k.turn empty_list) (unmarked bits k.turn))
    unfolding quiet_work joined_links
    marked_is ne is links₁ e =
        marked work entry entry_is fits ready.output_fits ne
        ∙ marked_goes k b j cells links calendar words bits arrived entry.head entry.tail (Some (off_at o)) is (off_at o) refl may_free
        ∙ ap next
        (sym (quiet_left_lem k b j (off_at o) cells links calendar words bits arrived leaver _ links₁ (write_entry calendar k.turn empty_list) falling _ _ _
        (refl, refl)
        e
        refl
        refl
        refl))

    output_is : entry.head ≡ empty → k.outhead ≢ empty → OffHere k cells links words false (ends_of 0 k.outtail) (off_at o)
        → (links₁ : List ℕ) → links₁ ≡ linked false k.outtail 0 links
        → (step4 work and_then step5) ≡ next (gone links₁ calendar bits)
    unfolding quiet_work
    output_is q ne is links₁ e =
        output work entry entry_is fits ready.output_fits q ne
        ∙ output_goes k b j cells links calendar words bits arrived (Some (off_at o)) (unmarked_off is ne) (off_at o) refl may_free
        ∙ ap next
        (sym (quiet_left_lem k b j (off_at o) cells links calendar words bits arrived leaver _ links₁ calendar falling _ _ _
        (refl, refl)
        e
        refl
        refl
        refl))

    leave_is : (step4 work and_then step5) ≡ next (gone linking (when o.marked then write_entry calendar k.turn empty_list else calendar) (when o.marked then unmarked bits k.turn else bits))
    leave_is = go o.marked refl
      where
        go : (m : Bool) → o.marked ≡ m
            → (step4 work and_then step5) ≡ next (gone linking (when m then write_entry calendar k.turn empty_list else calendar) (when m then unmarked bits k.turn else bits))
        go true e =
            let g = goes.marked e in
            marked_is g.0 g.2 linking (followed_joined k entry links o.follows g.1)
        go false e =
            let g = goes.unmarked e in
            output_is g.0 g.1 g.3 linking (followed_none k entry links o.follows g.2)

    given_fit : spaces_fit w.n (w.free + 1) (given (when o.marked then unmarked bits w.turn else bits) o.space) ≡ true
    given_fit =
        let low = goes.space_low in
        let most = ready.sized.n_high in
        given_fits (when o.marked then unmarked bits w.turn else bits) o.space (omega (arith, low, most))
        (clear_length bits w.turn o.marked ∙ ready.sized.bits_long)
        (clear_free bits w.turn o.marked o.space ∙ goes.not_free) w.n w.free goes.space_low
        (clear_fits bits w.turn o.marked w.n w.free ∙ ready.spaces_fit_lem)

    pub leave_done : (w' : Way) (links' calendar' words' bits' departures' answers' : List ℕ)
        → w' ≡ way_with w w.t w.turn w.rotation (w.free + 1) o.next o.tail
        → links' ≡ linking
        → calendar' ≡ (when o.marked then write_entry calendar w.turn empty_list else calendar)
        → words' ≡ one_less o.vci falling
        → bits' ≡ given (when o.marked then unmarked bits w.turn else bits) o.space
        → departures' ≡ write_cell departures i (take 53 (drop (53 * o.space) cells))
        → answers' ≡ write_answer answers i (answer_of 0 j.verdict j.vci 0 o.space o.vci)
        → Done k (step4 work and_then step5) w' cells links' calendar' words' bits' arrived departures departures' answers answers' i
    leave_done w' links' calendar' words' bits' departures' answers' same l e f g d a =
        rw same (record {
          answer = answer_of 0 j.verdict j.vci 0 o.space o.vci;
          number = refl;
          is = leave_is ∙ rw (leaves_ends, l, e, f, g);
          shown = d ∙ sym (shown_cell departures i lent.departure cells allowed o.space (below_long w.n (length cells) o.space ready.sized.cells_long_lem goes.space_low));
          told = a;
          free = k.free + 1;
          output = left;
          ends = leaves_ends;
          spaces_fit_lem = rw g given_fit;
          output_fits = goes.left_fits;
        })
