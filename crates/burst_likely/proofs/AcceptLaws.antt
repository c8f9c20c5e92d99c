-- A cell that is let in on a likely way: what was found and what is written are steps 4 and 5 of it, whether or not a cell departs.
use Prim.Native.Nat.{ℕ, ◌+◌, ◌-◌, ◌*◌, ◌/◌, ◌≤◌, ◌<◌}
use mathlib.Core.Path.{◌≡◌, refl, sym, ◌∙◌, ap, subst}
use mathlib.Core.Bool.{Bool, true, false, not}
use mathlib.Core.List.{List}
use native.Mathlib.Omega.{arith}
use lib.ListN.{length, get_or, set, take, drop}
use Rattle.meaning.specs.declared.Record.{Record}
use Rattle.meaning.specs.declared.Answer.{Answer}
use Rattle.meaning.specs.declared.Served.{Served}
use Rattle.meaning.specs.Plain.{when◌then◌else◌, ◌=?◌, next, ◌and_then◌}
use Rattle.meaning.specs.Arrival.{sent_as}
use Rattle.meaning.specs.Numbers.{bit_words, connections_in, empty, waiting_place}
use Rattle.meaning.specs.Bits.{is_free_space, spaces_fit, taken, given, marked, unmarked}
use Rattle.meaning.specs.State.{Ends, write_cell}
use Rattle.meaning.specs.Lists.{empty_list, ends_fit, entry_at, write_entry}
use Rattle.meaning.specs.Line.{cells_allowed}
use Rattle.meaning.specs.Work.{Work, answer_of}
use Rattle.meaning.specs.Slot.{step4, step5}
use Rattle.meaning.proofs.BitsLaws.{taken_length, taken_fits, given_fits}
use Rattle.meaning.proofs.TaggedLaws.{sent_length}
use Rattle.meaning.proofs.MarksLaws.{marked_length, marked_free, marked_fits}
use Rattle.meaning.proofs.ListsLaws.{fit_head}
use Rattle.slot_arrive.specs.declared.Fall.{Fall}
use Rattle.slot_arrive.specs.declared.Judged.{Judged}
use Rattle.slot_arrive.specs.Arrival.{one_less}
use Rattle.mem_lists.specs.declared.Off.{Off}
use Rattle.mem_lists.specs.declared.Seat.{Seat}
use Rattle.mem_lists.specs.Spaces.{ends_of, linked}
use Rattle.slot_plan.specs.Plan.{output_ends, rotated, accept_work, seat_ends, left_by}
use Rattle.slot_plan.specs.Facts.{Seated, OffStored}
use Rattle.slot_plan.proofs.AcceptCases.{accept_marked_goes, accept_output_goes, accept_shows, seated_marked, seated_output, seated_none}
use Rattle.slot_plan.proofs.Ends.{accept_served, accept_left_lem}
use Rattle.burst_out.specs.Handout.{write_answer}
use Rattle.burst_out.proofs.ShowLaws.{shown_cell, shown_none}
use Rattle.burst_way.specs.declared.Way.{Way}
use Rattle.burst_way.specs.Way.{way_with, slot_record}
use Rattle.burst_arrive.specs.declared.Spot.{Spot}
use Rattle.burst_arrive.specs.Arriving.{seat_at}
use Rattle.burst_arrive.proofs.SpotLaws.{entry_below}
use Rattle.burst_depart.specs.declared.Leave.{Leave}
use Rattle.burst_depart.specs.Leaving.{Goes, OffThen, off_at}
use Rattle.std.specs.Prelude.{Option, Some, IfSome}
use Rattle.burst_likely.specs.Served.{Ready, Spotted, Done, followed, words_filled}
use Rattle.burst_likely.proofs.ClearLaws.{clear_length, clear_free, clear_fits}
use Rattle.burst_likely.proofs.StoreLaws.{stored_long}
use Rattle.burst_likely.proofs.EitherLaws.{allowed_long, followed_joined, followed_none, follows_low, ends_with}

module _ (w : Way) (b : Option Fall) (j : Judged) (p : Spot) (cell cells links calendar words bits arrived : List ℕ) (ready : Ready w cells links calendar words bits arrived)
    (spot : Spotted (slot_record w) j calendar words bits cell p) where
  abbrev k : Record
  k = slot_record w

  abbrev a : Seat
  a = seat_at p

  -- the links, the calendar, the words, the bits and the arrival slots once the cell is stored
  abbrev links₃ : List ℕ
  links₃ = linked (not (p.head =? empty)) p.x p.head links

  abbrev calendar₃ : List ℕ
  calendar₃ = write_entry calendar p.e (seat_ends a)

  abbrev words₃ : List ℕ
  words₃ = words_filled w b j words

  abbrev bits₃ : List ℕ
  bits₃ = marked (taken bits p.x) p.e

  abbrev arrived₃ : List ℕ
  arrived₃ = set arrived p.x w.t

  abbrev entry : Ends
  entry = entry_at calendar₃ w.turn

  abbrev work : Work
  work = accept_work k j a cell cells links calendar (rotated k b words) bits arrived

  is_seated : Seated k a bits
  is_seated =
      record {
        x_low = spot.seats.x_low;
        e_low = entry_below w.n w.turn p.d p.e ready.sized.turn_low (let near = spot.is_accepted_lem.near in let same = spot.of_delay in omega (arith, near, same)) spot.seats.e_is;
        entry_fits = spot.seats.entry_fits;
        spaces_fit_lem = ready.spaces_fit_lem;
        some_free = spot.seats.some_free;
        is_free = spot.seats.is_free;
      }

  -- the words of free spaces fit again once the cell's is taken
  taken_fit : spaces_fit w.n (w.free - 1) bits₃ ≡ true
  taken_fit =
      marked_fits (taken bits p.x) p.e w.n (w.free - 1)
      ∙ taken_fits bits p.x spot.seats.is_free w.n w.free ready.sized.bits_long ready.spaces_fit_lem

  pub taken_long : length bits₃ ≡ bit_words
  taken_long = marked_length (taken bits p.x) p.e ∙ taken_length bits p.x ∙ ready.sized.bits_long

  -- the cell memory keeps its length
  cells_long_lem : (cells' : List ℕ) → cells' ≡ write_cell cells p.x (sent_as j.verdict cell) → length cells' ≡ 53 * w.n
  cells_long_lem = stored_long w.n p.x cells (sent_as j.verdict cell) ready.sized.cells_long_lem spot.seats.x_low (sent_length j.verdict cell ∙ spot.is_accepted_lem.cell_long)

  cells_allowed_lem : (cells' : List ℕ) → cells' ≡ write_cell cells p.x (sent_as j.verdict cell) → cells_allowed (length cells') ≡ true
  cells_allowed_lem cells' e = allowed_long w.n (length cells') ready.sized.n_low ready.sized.n_high (cells_long_lem cells' e)

  module _ (entry_fits : ends_fit w.n entry ≡ true) where
    -- ---- nothing departs
    none_goes : entry.head ≡ empty → w.outhead ≡ empty → (step4 work and_then step5) ≡ next work
    none_goes e o =
        seated_none k b j a cell cells links calendar words bits arrived entry.head entry.tail refl refl entry_fits ready.output_fits e o

    abbrev none_answer : Answer
    none_answer = answer_of 0 j.verdict j.vci j.d 65535 0

    pub none_done : (w' : Way) (cells' links' calendar' words' bits' arrived' departures answers answers' : List ℕ) (i : ℕ) → entry.head ≡ empty → w.outhead ≡ empty
        → w' ≡ way_with w w.t w.turn w.rotation (w.free - 1) w.outhead w.outtail
        → cells' ≡ write_cell cells p.x (sent_as j.verdict cell)
        → links' ≡ links₃
        → calendar' ≡ calendar₃
        → words' ≡ words₃
        → bits' ≡ bits₃
        → arrived' ≡ arrived₃
        → answers' ≡ write_answer answers i none_answer
        → 53 * i + 53 ≤ length departures
        → Done k (step4 work and_then step5) w' cells' links' calendar' words' bits' arrived' departures departures answers answers' i
    none_done w' cells' links' calendar' words' bits' arrived' departures answers answers' i e o way c l d f g h told inside =
        record {
          answer = none_answer;
          number = refl;
          is = none_goes e o ∙ ap next (sym (accept_served k b j a cell cells links calendar words bits arrived served cells' links' calendar' words' bits' arrived' (ends_with w w' _ _ _ way) refl c l d f g h));
          shown = sym (shown_none departures i inside cells' (cells_allowed_lem cells' c) 65535 refl);
          told = told;
          free = w.free - 1;
          output = output_ends k;
          ends = ends_with w w' _ _ _ way;
          spaces_fit_lem = rw g taken_fit;
          output_fits = ready.output_fits;
        }
      where
        served : Served
        served = record { ctl = slot_record w'; answer = none_answer }

    -- ---- o departs
    module _ (o : Leave) (goes : Goes k (taken bits p.x) entry o (OffThen k p cells links words)) where
      -- the departing cell's connection is the one that step 3 found
      stored : (joins : Bool) (e : Ends) (x : Off) → OffThen k p cells links words joins e x → OffStored k j a cells links words joins e (Some x)
      stored joins e x is = rw (← spot.of_connection_lem) is

      abbrev links₄ : List ℕ
      links₄ = followed o.follows w.outtail links₃

      abbrev calendar₄ : List ℕ
      calendar₄ = when o.marked then write_entry calendar₃ w.turn empty_list else calendar₃

      abbrev bits₄ : List ℕ
      bits₄ = when o.marked then unmarked bits₃ w.turn else bits₃

      marked_goes : o.marked ≡ true → (step4 work and_then step5) ≡ next (left_by work links₄ (write_entry calendar₃ w.turn empty_list) (unmarked bits₃ w.turn) (off_at o))
      marked_goes m =
          let g = goes.marked m in
          seated_marked k b j a cell cells links calendar words bits arrived entry.head entry.tail refl refl entry_fits ready.output_fits g.0
          ∙ accept_marked_goes k b j a cell cells links calendar words bits arrived ready.sized spot.is_accepted_lem is_seated entry (Some (off_at o)) (stored _ _ _ g.2) (off_at o) refl goes.not_free
          ∙ ap (λ (l : List ℕ). next (left_by work l (write_entry calendar₃ w.turn empty_list) (unmarked bits₃ w.turn) (off_at o)))
          (sym (followed_joined k entry links₃ o.follows g.1))

      output_goes : o.marked ≡ false → (step4 work and_then step5) ≡ next (left_by work links₄ calendar₃ bits₃ (off_at o))
      output_goes m =
          let g = goes.unmarked m in
          seated_output k b j a cell cells links calendar words bits arrived entry.head entry.tail refl refl entry_fits ready.output_fits g.0 g.1
          ∙ accept_output_goes k b j a cell cells links calendar words bits arrived ready.sized spot.is_accepted_lem is_seated
          (fit_head w.n (output_ends k) ready.output_fits g.1) (Some (off_at o)) (stored _ _ _ g.3) (off_at o) refl goes.not_free
          ∙ ap (λ (l : List ℕ). next (left_by work l calendar₃ bits₃ (off_at o)))
          (sym (followed_none k entry links₃ o.follows g.2))

      leave_goes : (step4 work and_then step5) ≡ next (left_by work links₄ calendar₄ bits₄ (off_at o))
      leave_goes = go o.marked refl
        where
          go : (m : Bool) → o.marked ≡ m
              → (step4 work and_then step5)
              ≡ next (left_by work links₄ (when m then write_entry calendar₃ w.turn empty_list else calendar₃) (when m then unmarked bits₃ w.turn else bits₃) (off_at o))
          go true m = marked_goes m
          go false m = output_goes m

      -- what the writes need
      pub leave_shows : (o.vci < connections_in w.v) × (1 ≤ get_or words₃ (waiting_place o.vci) 0)
      leave_shows = go o.marked refl
        where
          go : (m : Bool) → o.marked ≡ m → (o.vci < connections_in w.v) × (1 ≤ get_or words₃ (waiting_place o.vci) 0)
          go true m =
              accept_shows k b j a cell cells links calendar words bits arrived ready.sized spot.is_accepted_lem is_seated (not (w.outhead =? empty)) entry (off_at o) (stored _ _ _ (goes.marked m).2)
          go false m =
              accept_shows k b j a cell cells links calendar words bits arrived ready.sized spot.is_accepted_lem is_seated false (ends_of 0 w.outtail) (off_at o) (stored _ _ _ (goes.unmarked m).3)

      pub follow_low : IfSome o.follows (λ head. (w.outtail < w.n) × (head < w.n))
      follow_low = go o.marked refl
        where
          go : (m : Bool) → o.marked ≡ m → IfSome o.follows (λ head. (w.outtail < w.n) × (head < w.n))
          go true m = let g = goes.marked m in follows_low k entry o.follows g.1 ready.output_fits entry_fits g.0
          go false m = rw (goes.unmarked m).2 tt

      -- the space that departs is given back, and the words fit again
      again : w.free - 1 + 1 ≡ w.free
      again = let one = spot.seats.some_free in omega (arith, one)

      pub still_held : is_free_space bits₃ o.space ≡ false
      still_held = marked_free (taken bits p.x) p.e o.space ∙ goes.not_free

      given_fit : spaces_fit w.n w.free (given bits₄ o.space) ≡ true
      given_fit =
          let low = goes.space_low in
          let most = ready.sized.n_high in
          subst (λ (n : ℕ). spaces_fit w.n n (given bits₄ o.space) ≡ true) again
          (given_fits bits₄ o.space (omega (arith, low, most)) (clear_length bits₃ w.turn o.marked ∙ taken_long)
          (clear_free bits₃ w.turn o.marked o.space ∙ still_held) w.n (w.free - 1) goes.space_low
          (clear_fits bits₃ w.turn o.marked w.n (w.free - 1) ∙ taken_fit))

      abbrev leave_answer : Answer
      leave_answer = answer_of 0 j.verdict j.vci j.d o.space o.vci

      pub leave_done : (w' : Way) (cells' links₁ links' calendar₁ calendar' words₁ words' bits₁ bits' arrived' departures departures' answers answers' : List ℕ) (i : ℕ)
          → w' ≡ way_with w w.t w.turn w.rotation w.free o.next o.tail
          → cells' ≡ write_cell cells p.x (sent_as j.verdict cell)
          → links₁ ≡ links₃
          → links' ≡ followed o.follows w.outtail links₁
          → calendar₁ ≡ calendar₃
          → calendar' ≡ (when o.marked then write_entry calendar₁ w.turn empty_list else calendar₁)
          → words₁ ≡ words₃
          → words' ≡ one_less o.vci words₁
          → bits₁ ≡ bits₃
          → bits' ≡ given (when o.marked then unmarked bits₁ w.turn else bits₁) o.space
          → arrived' ≡ arrived₃
          → departures' ≡ write_cell departures i (take 53 (drop (53 * o.space) cells'))
          → answers' ≡ write_answer answers i leave_answer
          → 53 * i + 53 ≤ length departures
          → Done k (step4 work and_then step5) w' cells' links' calendar' words' bits' arrived' departures departures' answers answers' i
      leave_done w' cells' links₁ links' calendar₁ calendar' words₁ words' bits₁ bits' arrived' departures departures' answers answers' i way c l₁ l d₁ d f₁ f g₁ g h shown told inside =
          record {
            answer = leave_answer;
            number = refl;
            is = leave_goes
                ∙ ap next
                (sym
                (accept_left_lem k b j a (off_at o) cell cells links calendar words bits arrived served cells' links₄ links' calendar₄ calendar' words₁ words' bits₄ (when o.marked then unmarked bits₁ w.turn else bits₁) bits' arrived'
                spot.seats.some_free
                (ends_with w w' _ _ _ way, refl) c
                (l ∙ ap (λ (x : List ℕ). followed o.follows w.outtail x) l₁)
                (d ∙ ap (λ (x : List ℕ). when o.marked then write_entry x w.turn empty_list else x) d₁) f₁ f
                (ap (λ (x : List ℕ). when o.marked then unmarked x w.turn else x) g₁) g h));
            shown = shown ∙ sym (shown_cell departures i inside cells' (cells_allowed_lem cells' c) o.space low);
            told = told;
            free = w.free;
            output = ends_of o.next o.tail;
            ends = ends_with w w' _ _ _ way;
            spaces_fit_lem = rw (g, g₁) given_fit;
            output_fits = goes.left_fits;
          }
        where
          served : Served
          served = record { ctl = slot_record w'; answer = leave_answer }

          low : o.space < length cells' / 53
          low = let long = cells_long_lem cells' c in let below = goes.space_low in omega (arith, long, below)
