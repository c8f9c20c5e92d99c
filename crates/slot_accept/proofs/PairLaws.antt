-- The two pairs that an accepted cell's slot tests, the Output List's and entry T's as the cell leaves it: where one does
-- not fit the slot is refused.
use Prim.Native.Nat.{ℕ}
use mathlib.Core.Path.{◌≡◌, sym, ◌∙◌}
use mathlib.Core.Bool.{false}
use mathlib.Core.List.{List}
use Rattle.std.specs.Prelude.{Option, Some}
use Rattle.meaning.specs.declared.Record.{Record}
use Rattle.meaning.specs.declared.Served.{Served}
use Rattle.meaning.specs.Plain.{◌and_then◌}
use Rattle.meaning.specs.Numbers.{empty}
use Rattle.meaning.specs.Bits.{lowest_free}
use Rattle.meaning.specs.State.{state_of, Ends}
use Rattle.meaning.specs.Lists.{empty_list, ends_fit, entry_at, write_entry}
use Rattle.meaning.specs.Work.{bare_answer}
use Rattle.meaning.specs.Slot.{step4, step5, finish}
use Rattle.slot_arrive.specs.declared.Fall.{Fall}
use Rattle.slot_arrive.specs.declared.Judged.{Judged}
use Rattle.mem_lists.specs.declared.Seat.{Seat}
use Rattle.mem_lists.specs.Spaces.{ends_of}
use Rattle.slot_plan.specs.Plan.{rotated, seating, seat_now, accept_work, seat_ends, served_work}
use Rattle.slot_plan.specs.Facts.{Sized, Accepted}
use Rattle.slot_plan.proofs.Ends.{as_came}
use Rattle.slot_plan.proofs.Steps.{now_unfit}
use Rattle.slot_plan.proofs.AcceptCases.{seated_unfit}

-- a list of which head and tail were read, and both are 65,535
pub both_read : (e : Ends) (head tail : ℕ) → head ≡ e.head → tail ≡ e.tail → head ≡ empty → tail ≡ empty → e ≡ empty_list
both_read e head tail p q h t = λ i. record { head = (sym p ∙ h) i; tail = (sym q ∙ t) i }

-- refused, and nothing is written
module _ (r k : Record) (b : Option Fall) (j : Judged) (a : Seat) (cell cells links calendar words bits arrived : List ℕ) (s : Served)
    (refuses : (s.ctl ≡ r) × (s.answer ≡ bare_answer 3)) where
  pub output_unfit : Sized (state_of k cells links calendar words bits arrived) → Accepted k j cell words
      → (found : Option Seat)
      → found ≡ seat_now k j.d calendar bits
      → found ≡ Some a
      → ends_fit k.n (ends_of k.outhead k.outtail) ≡ false
      → served_work s cells links calendar words bits arrived
      ≡ finish (state_of r cells links calendar words bits arrived) (seating k j (lowest_free bits) cell cells links calendar (rotated k b words) bits arrived and_then step4 and_then step5)
  output_unfit z acc found is some unfit =
      as_came r cells links calendar words bits arrived _ s refuses
      (now_unfit k j cell cells links calendar (rotated k b words) bits arrived z.turn_low acc.near found is a some unfit)

  pub entry_unfit : (x y : ℕ) → x ≡ (entry_at (write_entry calendar a.e (seat_ends a)) k.turn).head
      → y ≡ (entry_at (write_entry calendar a.e (seat_ends a)) k.turn).tail
      → ends_fit k.n (ends_of x y) ≡ false
      → served_work s cells links calendar words bits arrived
      ≡ finish (state_of r cells links calendar words bits arrived) (step4 (accept_work k j a cell cells links calendar (rotated k b words) bits arrived) and_then step5)
  entry_unfit x y first last unfit =
      as_came r cells links calendar words bits arrived _ s refuses
      (seated_unfit k b j a cell cells links calendar words bits arrived x y first last unfit)
