-- A burst after a run from a fresh state, slot for slot: each slot that is lent no cell or 53 octets is served, since the
-- invariant holds, so the burst goes on to its first other size.
use Prim.Native.Nat.{ℕ, suc, ◌+◌, ◌*◌, ◌≤◌}
use mathlib.Core.Path.{◌≡◌, refl, sym, ap, ◌∙◌}
use mathlib.Core.Bool.{Bool, true, false, ◌&&◌}
use mathlib.Core.List.{List, [], ◌∷◌, ◌++◌, map, append_assoc}
use native.Mathlib.Omega.{arith}
use native.Mathlib.Nat.{add-zero}
use borrow.Author.Tests.{eq-eqb}
use lib.ListN.{length, take, drop, length-append, length-drop}
use lib.Seq.{length-take-le, drop-drop}
use Rattle.meaning.specs.Plain.{when◌then◌else◌}
use Rattle.meaning.specs.Work.{Work}
use Rattle.meaning.specs.Slot.{slot}
use Rattle.meaning_runs.specs.Run.{on_slot, Run, call_at, call, calls}
use Rattle.theory_invariant.proofs.CheckLaws.{slot_served}
use Rattle.theory_invariant.proofs.RunLaws.{Kept, call_kept}
use Rattle.promises.specs.Checked.{Lent}
use Rattle.call_slot.proofs.Answered.{slot_answered}
use Rattle.burst_out.specs.Handout.{write_answer, Shows}
use Rattle.call_burst.specs.Burst.{Stretch, stretch_of, size_fits, cell_lent, served, stopped, slot_done, one_slot, slots}
use Rattle.call_burst.proofs.ShowLaws.{slot_shows, size_most}
use Rattle.promise_polled.specs.Polled.{lent_to, up_to, all_fit, handed_out, six_of, answered}
use Rattle.promise_polled.proofs.WrittenLaws.{out_of, out_put, out_long, answer_put}

-- a size of 0 or 53 lends no cell or 53 octets
pub take_lent : (size : ℕ) (arr : List ℕ) → 53 ≤ length arr → size_fits size ≡ true → Lent (take size arr)
unfolding size_fits
take_lent size arr room fits =
    rw (length-take-le size arr (omega (arith, size_most size fits, room))) fits

module _ (N z kind : ℕ) where
  -- what a slot leaves to be shown
  pub slot_leaves : (r : Run) → Kept N z kind r → (cell : List ℕ) → Lent cell
      → ((slot r.state cell).answer.number ≡ 0) × Shows (slot r.state cell).state.cells (slot r.state cell).answer.space
  unfolding call call_at slot
  slot_leaves r k cell lent =
      let done = (slot_served N z kind r.events r.state k.inv cell lent).number in (
        done,
        slot_shows r.state (slot r.state cell) (slot r.state cell).state.cells (slot_answered r.state cell) done
            ((call_kept N z kind r (on_slot cell) k).inv.stage.has.cells_long_lem ∙ sym k.inv.stage.has.cells_long_lem),
      )

  -- one slot
  module _ (arrivals : List ℕ) (r : Run) (k : Kept N z kind r) (fd d fa a : List ℕ) (i size : ℕ) (fits : size_fits size ≡ true)
      (arr : List ℕ) (arr_is : arr ≡ drop (53 * i) arrivals) (long : 53 ≤ length arr) (fd-long : length fd ≡ 53 * i)
      (d-long : 53 ≤ length d) (fa-long : length fa ≡ 6 * i) (a-long : 6 ≤ length a) where
    abbrev w : Work
    w = slot r.state (take size arr)

    pub served_is : one_slot arrivals size (stretch_of r.state (fd ++ d) (fa ++ a) 0 i)
        ≡ stretch_of w.state (fd ++ out_of w d ++ drop 53 d) (fa ++ six_of w.answer ++ drop 6 a) 0 (i + 1)
    unfolding one_slot slot_done served cell_lent
    served_is =
        let gives = slot_leaves r k (take size arr) (take_lent size arr long fits) in
        rw (fits, sym arr_is, eq-eqb w.answer.number 0 gives.0)
        (ap (λ (l : List ℕ). stretch_of w.state l (write_answer (fa ++ a) i w.answer) 0 (i + 1)) (out_put fd d i fd-long d-long w gives.1)
        ∙ ap (λ (l : List ℕ). stretch_of w.state (fd ++ out_of w d ++ drop 53 d) l 0 (i + 1)) (answer_put fa a i w.answer fa-long a-long))

  -- the stretch after the slots of these cells
  abbrev stretched : Run → List (List ℕ) → List ℕ → List ℕ → List ℕ → List ℕ → ℕ → ℕ → Stretch
  stretched r cells fd d fa a number done =
      stretch_of (calls r (map on_slot cells)).state (fd ++ handed_out r.state cells d) (fa ++ answered r.state cells a) number done

  slots_next : (arrivals sizes : List ℕ) (size : ℕ) (b after : Stretch) → one_slot arrivals size b ≡ after → after.number ≡ 0
      → slots arrivals (size ∷ sizes) b ≡ slots arrivals sizes after
  unfolding slots
  slots_next arrivals sizes size b after e z0 = rw (e, eq-eqb after.number 0 z0)

  slots_stop : (arrivals sizes : List ℕ) (size : ℕ) (b : Stretch) → size_fits size ≡ false
      → slots arrivals (size ∷ sizes) b ≡ stopped b 9
  unfolding slots one_slot stopped
  slots_stop arrivals sizes size b e = rw e

  regroup : (r : Run) (cells : List (List ℕ)) (fd o d fa s a : List ℕ) (number i : ℕ)
      → stretched r cells (fd ++ o) d (fa ++ s) a number (i + 1 + length cells)
      ≡ stretch_of (calls r (map on_slot cells)).state (fd ++ (o ++ handed_out r.state cells d))
      (fa ++ (s ++ answered r.state cells a)) number (i + suc (length cells))
  regroup r cells fd o d fa s a number i =
      rw (
        append_assoc fd o (handed_out r.state cells d),
        append_assoc fa s (answered r.state cells a),
        more i (length cells),
      )
    where
      more : (x y : ℕ) → x + 1 + y ≡ x + suc y
      more x y = omega arith

  -- slot after slot
  pub slots_are : (arrivals sizes : List ℕ) (r : Run) → Kept N z kind r → (fd d fa a arr : List ℕ) (i : ℕ)
      → arr ≡ drop (53 * i) arrivals → length arr ≡ 53 * length sizes → length fd ≡ 53 * i → length d ≡ 53 * length sizes
      → length fa ≡ 6 * i → length a ≡ 6 * length sizes
      → slots arrivals sizes (stretch_of r.state (fd ++ d) (fa ++ a) 0 i)
      ≡ stretched r (lent_to arr (up_to sizes)) fd d fa a (when all_fit sizes then 0 else 9) (i + length (lent_to arr (up_to sizes)))
  unfolding slots up_to all_fit lent_to handed_out answered calls call call_at slot stopped
  slots_are arrivals [] r k fd d fa a arr i e1 e2 e3 e4 e5 e6 = rw (add-zero i)
  slots_are arrivals (size ∷ sizes) r k fd d fa a arr i e1 e2 e3 e4 e5 e6 =
      go (size_fits size) refl
      (λ r' k' fd' d' fa' a' arr'. slots_are arrivals sizes r' k' fd' d' fa' a' arr' (i + 1))
    where
      b : Stretch
      b = stretch_of r.state (fd ++ d) (fa ++ a) 0 i

      go : (x : Bool) → size_fits size ≡ x
          → ((r' : Run) → Kept N z kind r' → (fd' d' fa' a' arr' : List ℕ)
          → arr' ≡ drop (53 * (i + 1)) arrivals → length arr' ≡ 53 * length sizes → length fd' ≡ 53 * (i + 1)
          → length d' ≡ 53 * length sizes → length fa' ≡ 6 * (i + 1) → length a' ≡ 6 * length sizes
          → slots arrivals sizes (stretch_of r'.state (fd' ++ d') (fa' ++ a') 0 (i + 1))
          ≡ stretched r' (lent_to arr' (up_to sizes)) fd' d' fa' a' (when all_fit sizes then 0 else 9)
          (i + 1 + length (lent_to arr' (up_to sizes))))
          → slots arrivals (size ∷ sizes) b
          ≡ stretched r (lent_to arr (when x then size ∷ up_to sizes else [])) fd d fa a (when x && all_fit sizes then 0 else 9)
          (i + length (lent_to arr (when x then size ∷ up_to sizes else [])))
      go false e rest = slots_stop arrivals sizes size b e ∙ rw (add-zero i)
      go true e rest =
          let w = slot r.state (take size arr) in
          let gives = slot_leaves r k (take size arr) (take_lent size arr (omega (arith, e2)) e) in
          slots_next arrivals sizes size b _
          (served_is arrivals r k fd d fa a i size e arr e1 (omega (arith, e2)) e3 (omega (arith, e4)) e5 (omega (arith, e6))) refl
          ∙ rest (call r (on_slot (take size arr))) (call_kept N z kind r (on_slot (take size arr)) k)
          (fd ++ out_of w d) (drop 53 d) (fa ++ six_of w.answer) (drop 6 a) (drop 53 arr)
          (rw e1 (drop-drop 53 (53 * i) arrivals ∙ ap (λ (n : ℕ). drop n arrivals) (further i)))
          (rw (length-drop 53 arr) (omega (arith, e2)))
          (rw (length-append fd (out_of w d)) (omega (arith, e3, out_long w gives.1 d (omega (arith, e4)))))
          (rw (length-drop 53 d) (omega (arith, e4)))
          (rw (length-append fa (six_of w.answer)) (omega (arith, e5)))
          (rw (length-drop 6 a) (omega (arith, e6)))
          ∙ regroup (call r (on_slot (take size arr))) (lent_to (drop 53 arr) (up_to sizes)) fd (out_of w d) (drop 53 d) fa (six_of w.answer) (drop 6 a)
          (when all_fit sizes then 0 else 9) i
        where
          further : (j : ℕ) → 53 * j + 53 ≡ 53 * (j + 1)
          further j = omega arith
