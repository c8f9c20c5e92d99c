-- A burst after a run from a fresh state, whole: ranges and the five memories' lengths hold, so it is refused with 2 alone;
-- else it is its slots, and what it wrote reads back as their events.
use Prim.Native.Nat.{ℕ, suc, ◌*◌, ◌≤◌}
use mathlib.Core.Path.{◌≡◌, refl, ap, ◌∙◌}
use mathlib.Core.Bool.{Bool, true, false, not, ◌&&◌}
use mathlib.Core.List.{List, [], ◌∷◌, map}
use native.Mathlib.Omega.{arith}
use native.Mathlib.Nat.{zero-add}
use borrow.Author.Tests.{eq-eqb, eqb-true}
use lib.ListN.{length, take, drop, length-drop}
use Rattle.meaning.specs.Plain.{when◌then◌else◌, ◌=?◌}
use Rattle.meaning.specs.Numbers.{octets, words_in, bit_words}
use Rattle.meaning.specs.State.{State}
use Rattle.meaning_runs.specs.Run.{on_slot, Run, run_of, calls}
use Rattle.theory_queues.specs.Queue.{All}
use Rattle.theory_invariant.proofs.LengthLaws.{ranges_hold_lem}
use Rattle.theory_invariant.proofs.RunLaws.{Kept}
use Rattle.promises.specs.Checked.{Lent}
use Rattle.slot_steps.proofs.EndLaws.{both_true}
use Rattle.burst_out.specs.Handout.{answer_long}
use Rattle.call_burst.specs.Burst.{Stretch, stretch_of, size_fits, stopped, slots, lengths_fit, burst}
use Rattle.promise_polled.specs.Polled.{many, lent_to, up_to, all_fit, lent_well, cells_served, ends_with, as_calls, handed_out, answered}
use Rattle.promise_polled.specs.Polled.{throughs, read_again, poll}
use Rattle.promise_polled.specs.Holds.{BurstIs}
use Rattle.promise_polled.proofs.BurstRuns.{take_lent, slots_are}
use Rattle.promise_polled.proofs.ReadLaws.{read_back}

-- ── the cells of the slots served ──
up_to_short : (sizes : List ℕ) → length (up_to sizes) ≤ length sizes
unfolding up_to
up_to_short [] = omega arith
up_to_short (size ∷ sizes) = go (size_fits size) (up_to_short sizes)
  where
    go : (b : Bool) → length (up_to sizes) ≤ length sizes → length (when b then size ∷ up_to sizes else []) ≤ suc (length sizes)
    go true h = omega (arith, h)
    go false h = omega arith

lent_to_long : (arr sizes : List ℕ) → length (lent_to arr sizes) ≡ length sizes
unfolding lent_to
lent_to_long arr [] = refl
lent_to_long arr (size ∷ sizes) = ap suc (lent_to_long (drop 53 arr) sizes)

lent_all : (arr sizes : List ℕ) → length arr ≡ 53 * length sizes → All Lent (lent_to arr (up_to sizes))
unfolding lent_to up_to
lent_all arr [] e = tt
lent_all arr (size ∷ sizes) e =
    go (size_fits size) refl (lent_all (drop 53 arr) sizes (rw (length-drop 53 arr) (omega (arith, e))))
  where
    go : (b : Bool) → size_fits size ≡ b → All Lent (lent_to (drop 53 arr) (up_to sizes)) → All Lent (lent_to arr (when b then size ∷ up_to sizes else []))
    go true f rest = (take_lent size arr (omega (arith, e)) f, rest)
    go false f rest = tt

take_served : (arr sizes : List ℕ) → take (length (lent_to arr (up_to sizes))) (lent_to arr sizes) ≡ lent_to arr (up_to sizes)
unfolding lent_to up_to
take_served arr [] = refl
take_served arr (size ∷ sizes) = go (size_fits size) (take_served (drop 53 arr) sizes)
  where
    go : (b : Bool) → take (length (lent_to (drop 53 arr) (up_to sizes))) (lent_to (drop 53 arr) sizes) ≡ lent_to (drop 53 arr) (up_to sizes)
        → take (length (lent_to arr (when b then size ∷ up_to sizes else []))) (lent_to arr (size ∷ sizes))
        ≡ lent_to arr (when b then size ∷ up_to sizes else [])
    go true rest = ap (λ (l : List (List ℕ)). take size arr ∷ l) rest
    go false rest = refl

module _ (arrivals sizes departures answers : List ℕ) where
  abbrev cells : List (List ℕ)
  cells = cells_served arrivals sizes departures answers

  -- what the three lengths say
  lengths : lent_well arrivals sizes departures answers ≡ true
      → (length arrivals ≡ 53 * length sizes) × (length departures ≡ 53 * length sizes) × (length answers ≡ 6 * length sizes)
  unfolding lent_well
  lengths e =
      let n = length sizes in
      let x = both_true (length arrivals =? octets * n && length departures =? octets * n) (length answers =? answer_long * n) e in
      let y = both_true (length arrivals =? octets * n) (length departures =? octets * n) x.0 in
      (eqb-true (length arrivals) (53 * n) y.0, eqb-true (length departures) (53 * n) y.1, eqb-true (length answers) (6 * n) x.1)

  taken : take (length cells) (lent_to arrivals sizes) ≡ cells
  unfolding cells_served
  taken = go (lent_well arrivals sizes departures answers)
    where
      go : (b : Bool) → take (length (when b then lent_to arrivals (up_to sizes) else [])) (lent_to arrivals sizes) ≡ (when b then lent_to arrivals (up_to sizes) else [])
      go true = take_served arrivals sizes
      go false = refl

  all_lent : All Lent cells
  unfolding cells_served
  all_lent = go (lent_well arrivals sizes departures answers) refl
    where
      go : (b : Bool) → lent_well arrivals sizes departures answers ≡ b → All Lent (when b then lent_to arrivals (up_to sizes) else [])
      go true e = lent_all arrivals sizes (lengths e).0
      go false e = tt

  room : 53 * length cells ≤ length departures
  unfolding cells_served
  room = go (lent_well arrivals sizes departures answers) refl
    where
      go : (b : Bool) → lent_well arrivals sizes departures answers ≡ b → 53 * length (when b then lent_to arrivals (up_to sizes) else []) ≤ length departures
      go true e = omega (arith, (lengths e).1, lent_to_long arrivals (up_to sizes), up_to_short sizes)
      go false e = omega arith

  module _ (N z kind : ℕ) (r : Run) (k : Kept N z kind r) where
    begins : burst r.state arrivals sizes departures answers
        ≡ (when not (lent_well arrivals sizes departures answers) then stopped (stretch_of r.state departures answers 0 0) 2
        else slots arrivals sizes (stretch_of r.state departures answers 0 0))
    unfolding burst lengths_fit lent_well
    begins =
        let g = k.inv.stage in
        rw (
          g.n_is,
          g.v_is,
          ranges_hold_lem N z g.ranges,
          eq-eqb (length r.state.cells) (53 * N) g.has.cells_long_lem,
          eq-eqb (length r.state.links) N g.has.links_long,
          eq-eqb (length r.state.calendar) (2 * N) g.has.calendar_long,
          eq-eqb (length r.state.words) (words_in z) g.words_long,
          eq-eqb (length r.state.bits) bit_words g.has.bits_long,
          eq-eqb (length r.state.arrived) N g.dates.long,
        )

    whole : burst r.state arrivals sizes departures answers
        ≡ stretch_of (calls r (map on_slot cells)).state (handed_out r.state cells departures) (answered r.state cells answers)
        (ends_with arrivals sizes departures answers) (length cells)
    unfolding cells_served ends_with stopped handed_out answered calls
    whole = begins ∙ go (lent_well arrivals sizes departures answers) refl
      where
        go : (b : Bool) → lent_well arrivals sizes departures answers ≡ b
            → (when not b then stopped (stretch_of r.state departures answers 0 0) 2 else slots arrivals sizes (stretch_of r.state departures answers 0 0))
            ≡ (let cs = when b then lent_to arrivals (up_to sizes) else [] in
            stretch_of (calls r (map on_slot cs)).state (handed_out r.state cs departures) (answered r.state cs answers)
            (when not b then 2 else when all_fit sizes then 0 else 9) (length cs))
        go false e = refl
        go true e =
            slots_are N z kind arrivals sizes r k [] departures [] answers arrivals 0 refl (lengths e).0 refl (lengths e).1 refl (lengths e).2
            ∙ rw (zero-add (length (lent_to arrivals (up_to sizes))))

    pub burst_is : BurstIs r arrivals sizes departures answers
    unfolding as_calls
    burst_is =
        record {
          number_is = ap (λ (b : Stretch). b.number) whole;
          done_is = ap (λ (b : Stretch). b.done) whole;
          state_is = ap (λ (b : Stretch). b.state) whole;
          departures_are = ap (λ (b : Stretch). b.departures) whole;
          answers_are = ap (λ (b : Stretch). b.answers) whole;
        }

    pub poll_is : poll r (many arrivals sizes departures answers) ≡ calls r (as_calls (many arrivals sizes departures answers))
    unfolding poll as_calls
    poll_is =
        let s : State = r.state in
        ap (λ (b : Stretch). run_of b.state
        (read_again r.events (throughs s.ctl.raw s.ctl.mode (take b.done (lent_to arrivals sizes))) b.departures b.answers)) whole
        ∙ ap (λ (cs : List (List ℕ)). run_of (calls r (map on_slot cells)).state
        (read_again r.events (throughs s.ctl.raw s.ctl.mode cs) (handed_out s cells departures) (answered s cells answers))) taken
        ∙ ap (run_of (calls r (map on_slot cells)).state) (read_back N z kind cells all_lent r k departures answers room)
