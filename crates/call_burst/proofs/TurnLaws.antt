-- One slot of a burst, by how it ends; and the slots that follow it.
use Prim.Native.Nat.{ℕ, suc, ◌+◌, ◌<◌}
use mathlib.Core.Path.{◌≡◌, refl, sym, ◌∙◌, ap, subst}
use mathlib.Core.Logic.{◌≢◌}
use mathlib.Core.Bool.{Bool, true, false, not}
use mathlib.Core.List.{List, ◌∷◌}
use native.Mathlib.Omega.{arith}
use native.Mathlib.Numerals.{add-one}
use borrow.Author.Tests.{eq-eqb, ne_eqb, eqb-false}
use lib.ListN.{length, get_or, drop}
use lib.Seq.{drop-cons}
use Rattle.meaning.specs.Plain.{when◌then◌else◌, ◌=?◌}
use Rattle.meaning.specs.State.{State}
use Rattle.meaning.specs.Work.{Work}
use Rattle.meaning.specs.Slot.{slot}
use Rattle.burst_out.specs.Handout.{shown_into, write_answer}
use Rattle.call_burst.specs.Burst.{Stretch, stretch_of, size_fits, cell_lent, served, stopped, slot_done, one_slot, slots}
use Rattle.slot_steps.proofs.EndLaws.{Answered}
use Rattle.call_slot.proofs.Answered.{slot_answered}

-- slot i, of this size, after these departures and answers
module _ (arrivals : List ℕ) (size : ℕ) (s : State) (departures answers : List ℕ) (i : ℕ) where
  abbrev B : Stretch
  B = stretch_of s departures answers 0 i

  pub turn_unfit : size_fits size ≡ false → stretch_of s departures answers 9 i ≡ one_slot arrivals size B
  unfolding one_slot stopped
  turn_unfit f = rw f

  -- what the slot gave, its cell lent
  module _ (f : size_fits size ≡ true) (w : Work) (e : w ≡ slot s (cell_lent arrivals i size)) where
    one_is : slot_done B w ≡ one_slot arrivals size B
    unfolding one_slot
    one_is = rw f (ap (slot_done B) e)

    pub answered : Answered s w
    answered = subst (Answered s) (sym e) (slot_answered s (cell_lent arrivals i size))

    pub turn_stops : w.answer.number ≢ 0
        → stretch_of w.state departures answers w.answer.number i ≡ one_slot arrivals size B
    unfolding slot_done stopped
    turn_stops ne = stop ∙ one_is
      where
        stop : stretch_of w.state departures answers w.answer.number i ≡ slot_done B w
        stop = rw (ne_eqb w.answer.number 0 ne, answered.as_came ne)

    pub turn_serves : w.answer.number ≡ 0 → (departures' answers' : List ℕ)
        → departures' ≡ shown_into departures i w.state.cells w.answer.space
        → answers' ≡ write_answer answers i w.answer
        → stretch_of w.state departures' answers' 0 (i + 1) ≡ one_slot arrivals size B
    unfolding slot_done served
    turn_serves z departures' answers' d a = serve ∙ one_is
      where
        serve : stretch_of w.state departures' answers' 0 (i + 1) ≡ slot_done B w
        serve = rw (eq-eqb w.answer.number 0 z, d, a)

-- a slot that was not stopped was served
counted : (b : Stretch) (w : Work) (t : Bool) → (w.answer.number =? 0) ≡ t
    → (when not t then stopped b w.answer.number else served b w).number ≡ 0
    → (when not t then stopped b w.answer.number else served b w).done ≡ b.done + 1
unfolding stopped served
counted b w true e h = refl
counted b w false e h = absurd (eqb-false w.answer.number 0 e h)

pub slot_counted : (arrivals : List ℕ) (size : ℕ) (b : Stretch) → (one_slot arrivals size b).number ≡ 0
    → (one_slot arrivals size b).done ≡ b.done + 1
unfolding one_slot slot_done stopped
slot_counted arrivals size b = go (size_fits size)
  where
    w : Work
    w = slot b.state (cell_lent arrivals b.done size)

    go : (t : Bool) → (when not t then stopped b 9 else slot_done b w).number ≡ 0
        → (when not t then stopped b 9 else slot_done b w).done ≡ b.done + 1
    go true h = counted b w (w.answer.number =? 0) refl h
    go false h = absurd (omega arith)

-- and keeps N and V
kept : (b : Stretch) (w : Work) (t : Bool) → (w.state.ctl.n ≡ b.state.ctl.n) × (w.state.ctl.v ≡ b.state.ctl.v)
    → ((when not t then stopped b w.answer.number else served b w).state.ctl.n ≡ b.state.ctl.n)
    × ((when not t then stopped b w.answer.number else served b w).state.ctl.v ≡ b.state.ctl.v)
unfolding stopped served
kept b w true e = e
kept b w false e = (refl, refl)

pub slot_kept : (arrivals : List ℕ) (size : ℕ) (b : Stretch)
    → ((one_slot arrivals size b).state.ctl.n ≡ b.state.ctl.n) × ((one_slot arrivals size b).state.ctl.v ≡ b.state.ctl.v)
unfolding one_slot slot_done stopped
slot_kept arrivals size b = go (size_fits size)
  where
    w : Work
    w = slot b.state (cell_lent arrivals b.done size)

    go : (t : Bool) → ((when not t then stopped b 9 else slot_done b w).state.ctl.n ≡ b.state.ctl.n) × ((when not t then stopped b 9 else slot_done b w).state.ctl.v ≡ b.state.ctl.v)
    go true =
        let h = slot_answered b.state (cell_lent arrivals b.done size) in
        kept b w (w.answer.number =? 0) (h.n_is, h.v_is)
    go false = (refl, refl)

-- the sizes from the i-th on
module _ (arrivals sizes : List ℕ) (i : ℕ) (low : i < length sizes) (b after : Stretch) (e : after ≡ one_slot arrivals (get_or sizes i 0) b) where
  abbrev rest : Stretch → Stretch
  rest x = when x.number =? 0 then slots arrivals (drop (suc i) sizes) x else x

  slots_rest : slots arrivals (drop i sizes) b ≡ rest after
  unfolding slots
  slots_rest = ap (λ (l : List ℕ). slots arrivals l b) (drop-cons sizes i 0 low) ∙ opened ∙ ap rest (sym e)
    where
      opened : slots arrivals (get_or sizes i 0 ∷ drop (suc i) sizes) b ≡ rest (one_slot arrivals (get_or sizes i 0) b)
      opened = refl

  pub slots_stop : after.number ≢ 0 → after ≡ slots arrivals (drop i sizes) b
  slots_stop ne = sym (slots_rest ∙ stop)
    where
      stop : rest after ≡ after
      stop = rw (ne_eqb after.number 0 ne)

  pub slots_on : after.number ≡ 0 → slots arrivals (drop (i + 1) sizes) after ≡ slots arrivals (drop i sizes) b
  slots_on z = on ∙ sym slots_rest
    where
      on : slots arrivals (drop (i + 1) sizes) after ≡ rest after
      on = rw (add-one, eq-eqb after.number 0 z)

  pub slots_counted : after.number ≡ 0 → after.done ≡ b.done + 1
  slots_counted z = ap (λ (x : Stretch). x.done) e ∙ slot_counted arrivals (get_or sizes i 0) b (sym (ap (λ (x : Stretch). x.number) e) ∙ z)
