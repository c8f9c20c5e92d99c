-- A burst of one slot, lent the slot's own part of each buffer, is that slot of the burst.
use Prim.Native.Nat.{ℕ, ◌+◌, ◌-◌, ◌*◌, ◌≤◌, ◌<◌}
use mathlib.Core.Path.{◌≡◌, refl, ◌∙◌, ap, ap₂}
use mathlib.Core.Bool.{Bool, true, false, not}
use mathlib.Core.List.{List, [], ◌∷◌, ◌++◌}
use native.Mathlib.Omega.{arith}
use lib.ListN.{length, get_or, take, drop}
use native.Mathlib.Nat.{add-sub_cancel_left}
use lib.Seq.{drop-cons, drop-drop}
use borrow.Author.Tests.{eq-eqb, le-leb}
use Rattle.meaning.specs.Plain.{when◌then◌else◌, ◌=?◌}
use Rattle.meaning.specs.Numbers.{ranges_hold}
use Rattle.meaning.specs.State.{State}
use Rattle.meaning.specs.Work.{Work}
use Rattle.meaning.specs.Slot.{slot}
use Rattle.call_burst.specs.Burst.{Stretch, stretch_of, size_fits, cell_lent, served, stopped, slot_done, one_slot, slots, lengths_fit, burst}
use Rattle.call_burst.specs.Promise.{SlotLent}
use Rattle.call_burst.specs.Way.{Shaped}
use Rattle.call_burst.proofs.ShowLaws.{size_most}
use Rattle.call_tallied.proofs.Parts.{put, part, part_long, put_same, answer_put, shown_put, lent_part}

-- one size gives one slot
slots_one : (arrivals : List ℕ) (size : ℕ) (b : Stretch) → slots arrivals (size ∷ []) b ≡ one_slot arrivals size b
unfolding slots
slots_one arrivals size b = go ((one_slot arrivals size b).number =? 0)
  where
    go : (t : Bool) → (when t then one_slot arrivals size b else one_slot arrivals size b) ≡ one_slot arrivals size b
    go true = refl
    go false = refl

size_one : (sizes : List ℕ) (i : ℕ) → i < length sizes → part sizes i 1 ≡ get_or sizes i 0 ∷ []
size_one sizes i h = ap (take 1) (drop-cons sizes i 0 h)

-- a slot counts as one where it was served
done_most : (arrivals : List ℕ) (size : ℕ) (b : Stretch) → (one_slot arrivals size b).done ≤ b.done + 1
unfolding one_slot slot_done stopped served
done_most arrivals size b = go (size_fits size) (w.answer.number =? 0)
  where
    w : Work
    w = slot b.state (cell_lent arrivals b.done size)

    go : (f t : Bool) → (when not f then stopped b 9 else when not t then stopped b w.answer.number else served b w).done ≤ b.done + 1
    go false t = omega arith
    go true false = omega arith
    go true true = omega arith

module _ (s : State) (arrivals sizes departures answers : List ℕ) (i : ℕ) (long : Shaped s.ctl s.cells s.links s.calendar s.words s.bits s.arrived) (lent : SlotLent arrivals departures answers i) (low : i < length sizes) where
  abbrev size : ℕ
  size = get_or sizes i 0

  abbrev arrivals₁ : List ℕ
  arrivals₁ = part arrivals (53 * i) 53

  abbrev departures₁ : List ℕ
  departures₁ = part departures (53 * i) 53

  abbrev answers₁ : List ℕ
  answers₁ = part answers (6 * i) 6

  abbrev one : Stretch
  one = stretch_of s departures₁ answers₁ 0 0

  ranges : ranges_hold s.ctl.n s.ctl.v ≡ true
  unfolding ranges_hold
  ranges = simp (le-leb _ _ long.n_low, le-leb _ _ long.n_high, le-leb _ _ long.v_low, le-leb _ _ long.v_high)

  fit : lengths_fit s.ctl.n s.ctl.v (length s.cells) (length s.links) (length s.calendar) (length s.words) (length s.bits) (length s.arrived) (length arrivals₁) 1 (length departures₁) (length answers₁) ≡ true
  unfolding lengths_fit
  fit =
      simp (
        eq-eqb _ _ long.cells_long_lem,
        eq-eqb _ _ long.links_long,
        eq-eqb _ _ long.calendar_long,
        eq-eqb _ _ long.words_long,
        eq-eqb _ _ long.bits_long,
        eq-eqb _ _ long.arrived_long,
        eq-eqb _ _ (part_long arrivals (53 * i) 53 lent.arrival),
        eq-eqb _ _ (part_long departures (53 * i) 53 lent.departure),
        eq-eqb _ _ (part_long answers (6 * i) 6 lent.answer),
      )

  -- it is not refused
  goes : burst s arrivals₁ (part sizes i 1) departures₁ answers₁ ≡ one_slot arrivals₁ size one
  unfolding burst
  goes = rw (size_one sizes i low, ranges, fit) (slots_one arrivals₁ size one)

  -- the whole that what a slot of the parts left makes
  pub whole : Stretch → Stretch
  whole r = stretch_of r.state (put departures (53 * i) 53 r.departures) (put answers (6 * i) 6 r.answers) r.number (i + r.done)

  abbrev all : Stretch
  all = stretch_of s departures answers 0 i

  stop_whole : (number : ℕ) → whole (stopped one number) ≡ stopped all number
  unfolding stopped whole
  stop_whole number =
      ap₂ (λ (d a : List ℕ). stretch_of s d a number (i + 0)) (put_same departures (53 * i) 53) (put_same answers (6 * i) 6)
      ∙ ap (λ (n : ℕ). stretch_of s departures answers number n) (omega arith)

  serve_whole : (w : Work) → whole (served one w) ≡ served all w
  unfolding served whole
  serve_whole w =
      ap₂ (λ (d a : List ℕ). stretch_of w.state d a 0 (i + (0 + 1)))
      (shown_put departures i w.state.cells w.answer.space lent.departure)
      (answer_put answers i w.answer lent.answer)

  done_whole : (w : Work) → whole (slot_done one w) ≡ slot_done all w
  unfolding slot_done
  done_whole w = go (w.answer.number =? 0)
    where
      go : (t : Bool) → whole (when not t then stopped one w.answer.number else served one w)
          ≡ (when not t then stopped all w.answer.number else served all w)
      go true = serve_whole w
      go false = stop_whole w.answer.number

  -- a slot of the parts is that slot
  slot_whole : whole (one_slot arrivals₁ size one) ≡ one_slot arrivals size all
  unfolding one_slot
  slot_whole = go (size_fits size) refl
    where
      go : (f : Bool) → size_fits size ≡ f
          → whole (when not f then stopped one 9 else slot_done one (slot s (cell_lent arrivals₁ 0 size)))
          ≡ (when not f then stopped all 9 else slot_done all (slot s (cell_lent arrivals i size)))
      go true e =
          done_whole (slot s (cell_lent arrivals₁ 0 size))
          ∙ ap (λ (cell : List ℕ). slot_done all (slot s cell)) (lent_part arrivals i size (size_most size e))
      go false e = stop_whole 9

  pub one_whole : whole (burst s arrivals₁ (part sizes i 1) departures₁ answers₁) ≡ one_slot arrivals size all
  one_whole = ap whole goes ∙ slot_whole

  -- the same in the words of the borrow checker: parts by their ends
  pub turned : (s' : State) (d a : List ℕ) (number done : ℕ)
      → stretch_of s' d a number done
      ≡ burst s (take (53 * i + 53 - 53 * i) (drop (53 * i) arrivals)) (take (i + 1 - i) (drop i sizes)) (take (53 * i + 53 - 53 * i) (drop (53 * i) departures)) (take (6 * i + 6 - 6 * i) (drop (6 * i) answers))
      → stretch_of s' (take (53 * i) departures ++ (d ++ drop (53 * i + 53 - 53 * i) (drop (53 * i) departures))) (take (6 * i) answers ++ (a ++ drop (6 * i + 6 - 6 * i) (drop (6 * i) answers))) number (i + done)
      ≡ one_slot arrivals size all
  unfolding whole
  turned s' d a number done e =
      simp (add-sub_cancel_left, drop-drop) (ap whole (simp (add-sub_cancel_left) at e) ∙ one_whole)

  -- it serves one slot at most
  pub one_most : (s' : State) (d a : List ℕ) (number done : ℕ)
      → stretch_of s' d a number done
      ≡ burst s (take (53 * i + 53 - 53 * i) (drop (53 * i) arrivals)) (take (i + 1 - i) (drop i sizes)) (take (53 * i + 53 - 53 * i) (drop (53 * i) departures)) (take (6 * i + 6 - 6 * i) (drop (6 * i) answers))
      → done ≤ 1
  one_most s' d a number done e =
      let g = ap (λ (r : Stretch). r.done) (simp (add-sub_cancel_left) at e ∙ goes) in omega (arith, g, done_most arrivals₁ size one)
