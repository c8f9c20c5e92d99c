-- One slot: over the stored state it gives the stored outcome of the unwrapped slot, and what rotation keeps is kept.
use Prim.Native.Nat.{ℕ, ◌+◌, ◌-◌, ◌%◌, ◌≤◌, ◌<◌}
use mathlib.Core.Path.{◌≡◌, refl, sym, ◌∙◌, ap}
use mathlib.Core.Bool.{Bool, true, false, not, ◌&&◌, ◌||◌}
use mathlib.Core.List.{List}
use native.Mathlib.Omega.{arith}
use native.Mathlib.Nat.{mod-lt}
use borrow.Author.Tests.{leb-true, not-false, ne_eqb}
use lib.ListN.{length, length-map}
use Rattle.base_hec.specs.Modes.{Arriving, arriving_fits}
use Rattle.meaning.specs.Plain.{when◌then◌else◌, ◌≤?◌, ◌=?◌, Out, refused, next, needs, ◌and_then◌}
use Rattle.meaning.specs.Numbers.{ranges_hold, octets, least_v, most_v, most_n, connections_in, unused, words_in}
use Rattle.meaning.specs.State.{State, words_length, lengths_hold, sizes_hold, with_record, with_words, with_arrived, record_with, with_clock}
use Rattle.meaning.specs.State.{record_in_mode, with_mode}
use Rattle.meaning.specs.Bits.{lowest_free}
use Rattle.meaning.specs.Work.{Work, work_of, bare_answer}
use Rattle.meaning.specs.Slot.{step1, step2, step3, step4, step5, five_steps, finish, told, slot_at, slot}
use Rattle.meaning_runs.specs.Run.{let_in}
use Rattle.meaning_runs.proofs.OutLaws.{AllOut, if_holds, then_all}
use Rattle.theory_clock.specs.Stored.{stored_words, stored_arrival, stored_arrivals, stored_state, stored_work}
use Rattle.theory_clock.specs.Unwrapped.{tick, rotate, arrive, unwrapped_steps, unwrapped_slot}
use Rattle.theory_clock.specs.Kept.{since, longest, Kept}
use Rattle.theory_clock.proofs.Outs.{both_true, map_out, if_both, needs_map, then_map, then_agrees}
use Rattle.theory_clock.proofs.WordsStored.{stored_length}
use Rattle.theory_clock.proofs.Steps.{step1_stored, step2_stored, step3_stored, step4_stored, step5_stored}
use Rattle.theory_clock.proofs.Since.{since_low, rotation_low, rotation_next}
use Rattle.theory_clock.proofs.Keeps.{On, on_near, tick_on, rotate_on, arrive_on, step4_on, step5_on}

-- "V, 2 to 1,024."
pub ranges_v : (N z : ℕ) → ranges_hold N z ≡ true → (2 ≤ z) × (z ≤ 1_024)
unfolding ranges_hold
ranges_v N z p =
    let q = both_true (1 ≤? N && N ≤? most_n && least_v ≤? z) (z ≤? most_v) p in
    (leb-true 2 z (both_true (1 ≤? N && N ≤? most_n) (least_v ≤? z) q.0).1, leb-true z 1_024 q.1)

-- the five steps of slot k+1, after rotation stood at r
module _ (x : ℕ) (cell : List ℕ) (w : Work) (z k r : ℕ) (begun : On z k r (since (connections_in z) r) w) (low : r < connections_in z) (high : z ≤ 1_024) where
  abbrev next_r : ℕ
  next_r = (r + 1) % connections_in z

  ticked : AllOut (On z (k + 1) next_r (λ v. since (connections_in z) r v + 1)) (tick w)
  ticked = tick_on z k r (since (connections_in z) r) w begun

  rotated : AllOut (On z (k + 1) next_r (since (connections_in z) next_r)) (tick w and_then rotate)
  rotated =
      then_all (On z (k + 1) next_r (λ v. since (connections_in z) r v + 1)) (On z (k + 1) next_r (since (connections_in z) next_r)) (tick w) rotate ticked
      (λ w' h. rotate_on z (k + 1) r w' low h)

  arrived : AllOut (On z (k + 1) next_r (since (connections_in z) next_r)) (tick w and_then rotate and_then arrive x cell)
  arrived =
      then_all (On z (k + 1) next_r (since (connections_in z) next_r)) (On z (k + 1) next_r (since (connections_in z) next_r)) (tick w and_then rotate) (arrive x cell) rotated
      (λ w' h. arrive_on z (k + 1) next_r (since (connections_in z) next_r) x cell w' h)

  moved : AllOut (On z (k + 1) next_r (since (connections_in z) next_r)) (tick w and_then rotate and_then arrive x cell and_then step4)
  moved =
      then_all (On z (k + 1) next_r (since (connections_in z) next_r)) (On z (k + 1) next_r (since (connections_in z) next_r))
      (tick w and_then rotate and_then arrive x cell) step4 arrived
      (λ w' h. step4_on z (k + 1) next_r (since (connections_in z) next_r) w' h)

  pub steps_keep : AllOut (On z (k + 1) ((r + 1) % connections_in z) (since (connections_in z) ((r + 1) % connections_in z))) (unwrapped_steps x cell w)
  unfolding unwrapped_steps
  steps_keep =
      then_all (On z (k + 1) next_r (since (connections_in z) next_r)) (On z (k + 1) next_r (since (connections_in z) next_r))
      (tick w and_then rotate and_then arrive x cell and_then step4) step5 moved
      (λ w' h. step5_on z (k + 1) next_r (since (connections_in z) next_r) w' h)

  -- "no VC is ever more than V slots behind": just after the tick the connection that rotation names may be V + 256 behind
  long_of : (most : ℕ → ℕ) (w' : Work) → On z (k + 1) next_r most w' → length w'.state.words ≡ words_in w'.state.ctl.v
  long_of most w' h = h.recent.long ∙ ap words_in (sym h.v_is)

  gap₁ : (v : ℕ) → unused z v ≡ false → v < connections_in z → since (connections_in z) r v + 1 ≤ longest
  unfolding longest
  gap₁ v a b = let c = since_low (connections_in z) r v low b in omega arith

  gap : (v : ℕ) → unused z v ≡ false → v < connections_in z → since (connections_in z) next_r v ≤ longest
  unfolding longest
  gap v a b = let c = since_low (connections_in z) next_r v (rotation_low (connections_in z) r low) b in omega arith

  same₂ : (step1 (stored_work w) and_then step2) ≡ map_out stored_work (tick w and_then rotate)
  same₂ =
      then_agrees stored_work (On z (k + 1) next_r (λ v. since (connections_in z) r v + 1)) (step1 (stored_work w)) (tick w) step2 rotate
      (step1_stored w) ticked
      (λ w' h. step2_stored w' (omega (arith, h.v_is, h.r_is, rotation_low (connections_in z) r low)) (long_of _ w' h)
      (on_near z (k + 1) next_r (λ v. since (connections_in z) r v + 1) w' h gap₁))

  same₃ : (step1 (stored_work w) and_then step2 and_then step3 x cell) ≡ map_out stored_work (tick w and_then rotate and_then arrive x cell)
  same₃ =
      then_agrees stored_work (On z (k + 1) next_r (since (connections_in z) next_r)) (step1 (stored_work w) and_then step2) (tick w and_then rotate)
      (step3 x cell) (arrive x cell) same₂ rotated
      (λ w' h. step3_stored x cell w' (long_of _ w' h) (omega (arith, h.t_is)) (on_near z (k + 1) next_r (since (connections_in z) next_r) w' h gap))

  same₄ : (step1 (stored_work w) and_then step2 and_then step3 x cell and_then step4)
      ≡ map_out stored_work (tick w and_then rotate and_then arrive x cell and_then step4)
  same₄ =
      then_agrees stored_work (On z (k + 1) next_r (since (connections_in z) next_r)) (step1 (stored_work w) and_then step2 and_then step3 x cell)
      (tick w and_then rotate and_then arrive x cell) step4 step4 same₃ arrived
      (λ w' h. step4_stored w')

  pub steps_agree : five_steps x cell (stored_work w) ≡ map_out stored_work (unwrapped_steps x cell w)
  unfolding five_steps unwrapped_steps
  steps_agree =
      then_agrees stored_work (On z (k + 1) next_r (since (connections_in z) next_r))
      (step1 (stored_work w) and_then step2 and_then step3 x cell and_then step4)
      (tick w and_then rotate and_then arrive x cell and_then step4) step5 step5 same₄ moved
      (λ w' h. step5_stored w' (long_of _ w' h))

-- rotation, read off the clock, is below V + 256
turns_low : (u : State) → Kept u → u.ctl.rotation < connections_in u.ctl.v
turns_low u kept =
    let R = connections_in u.ctl.v in
    let h = mod-lt (u.ctl.t + R - 1) {m = R} (omega arith) in
    omega (arith, kept.turns)

-- whatever mode the header check leads to
begin : (u : State) (mode : ℕ) → Kept u
    → On u.ctl.v u.ctl.t u.ctl.rotation (since (connections_in u.ctl.v) u.ctl.rotation) (work_of (with_mode u mode) (bare_answer 0))
unfolding with_mode with_record record_in_mode
begin u mode kept = record { v_is = refl; t_is = refl; r_is = refl; done = refl; recent = kept.recent }

lengths_stored : (u : State) (z : ℕ)
    → lengths_hold u.ctl.n z u.cells u.links u.calendar (stored_words (connections_in z) u.words) u.bits (stored_arrivals u.arrived)
    ≡ lengths_hold u.ctl.n z u.cells u.links u.calendar u.words u.bits u.arrived
unfolding lengths_hold words_length stored_arrivals
lengths_stored u z = rw (stored_length (connections_in z) u.words, length-map u.arrived stored_arrival)

finish_stored : (u : State) (x : Out Work) → finish (stored_state u) (map_out stored_work x) ≡ stored_work (finish u x)
unfolding finish stored_work
finish_stored u refused = refl
finish_stored u (next w) = refl

mode_stored : (u : State) (mode : ℕ) → work_of (with_mode (stored_state u) mode) (bare_answer 0) ≡ stored_work (work_of (with_mode u mode) (bare_answer 0))
unfolding stored_work stored_state with_mode with_clock with_record with_words with_arrived record_with record_in_mode
mode_stored u mode = refl

told_stored : (drop : Bool) (w : Work) → told drop (stored_work w) ≡ stored_work (told drop w)
unfolding stored_work
told_stored true w = refl
told_stored false w = refl

-- the five steps behind the header check, which reads raw, mode and the octets lent alone
module _ (x : ℕ) (u : State) (cell : List ℕ) where
  abbrev a : Arriving
  a = let_in u cell

  abbrev fits : Bool
  fits = arriving_fits u.ctl.raw u.ctl.mode cell

  abbrev telling : Out Work → Out Work
  telling o = o and_then λ w. next (told a.dropped w)

  abbrev first_work : Work
  first_work = work_of (with_mode u a.mode) (bare_answer 0)

  abbrev wrapped : Work
  wrapped =
      finish (stored_state u) (needs fits (telling (five_steps x a.cell (work_of (with_mode (stored_state u) a.mode) (bare_answer 0)))))

  abbrev never_wrapped : Work
  never_wrapped = finish u (needs fits (telling (unwrapped_steps x a.cell first_work)))

  checked_agrees : Kept u → ranges_hold u.ctl.n u.ctl.v ≡ true → wrapped ≡ stored_work never_wrapped
  checked_agrees kept range =
      let b = ranges_v u.ctl.n u.ctl.v range in
      ap (finish (stored_state u))
      (needs_map stored_work fits (telling (five_steps x a.cell (work_of (with_mode (stored_state u) a.mode) (bare_answer 0))))
      (telling (unwrapped_steps x a.cell first_work))
      (λ _. ap telling (ap (five_steps x a.cell) (mode_stored u a.mode)
      ∙ steps_agree x a.cell first_work u.ctl.v u.ctl.t u.ctl.rotation (begin u a.mode kept)
      (turns_low u kept) b.1)
      ∙ then_map stored_work stored_work (unwrapped_steps x a.cell first_work) (λ w. next (told a.dropped w))
      (λ w. next (told a.dropped w)) (λ w. ap next (told_stored a.dropped w))))
      ∙ finish_stored u (needs fits (telling (unwrapped_steps x a.cell first_work)))

  -- refusal 9 comes before
  lent_agrees : Kept u → ranges_hold u.ctl.n u.ctl.v ≡ true
      → (when not (length cell =? 0 || length cell =? octets) then work_of (stored_state u) (bare_answer 9) else wrapped)
      ≡ stored_work (when not (length cell =? 0 || length cell =? octets) then work_of u (bare_answer 9) else never_wrapped)
  unfolding stored_work
  lent_agrees kept range =
      if_both stored_work (not (length cell =? 0 || length cell =? octets)) (work_of (stored_state u) (bare_answer 9)) wrapped
      (work_of u (bare_answer 9)) never_wrapped (λ _. refl) (λ _. checked_agrees kept range)

pub slot_agrees : (u : State) (cell : List ℕ) → Kept u → slot (stored_state u) cell ≡ stored_work (unwrapped_slot u cell)
unfolding slot slot_at unwrapped_slot stored_work stored_state with_clock with_record with_words with_arrived record_with
slot_agrees u cell kept =
    let N = u.ctl.n in
    let z = u.ctl.v in
    if_both stored_work (not (ranges_hold N z)) _ _ _ _ (λ _. refl)
    (λ range. rw (lengths_stored u z)
    (if_both stored_work (not (sizes_hold u)) _ _ _ _ (λ _. refl)
    (λ _. lent_agrees (lowest_free u.bits) u cell kept (not-false (ranges_hold N z) range))))

-- of a slot done
abbrev served_on : State → Work → Type 0
served_on u = On u.ctl.v (u.ctl.t + 1) ((u.ctl.rotation + 1) % connections_in u.ctl.v) (since (connections_in u.ctl.v) ((u.ctl.rotation + 1) % connections_in u.ctl.v))

-- a slot done: the clock has moved on by one
done_keeps : (u : State) → Kept u → 2 ≤ u.ctl.v → (w : Work) → served_on u w → Kept w.state
done_keeps u kept low w h =
    record {
      turns = rw (h.v_is, h.t_is) (h.r_is ∙ ap (λ (n : ℕ). (n + 1) % connections_in u.ctl.v) kept.turns ∙ rotation_next (connections_in u.ctl.v) u.ctl.t (omega arith));
      recent = rw (h.v_is, h.t_is, h.r_is) h.recent;
    }

-- what holds of a slot done and of every refused one, holds of a slot
slot_cases : (u : State) (cell : List ℕ) (P : Work → Type 0)
    → ((number : ℕ) → 1 ≤ number → P (work_of u (bare_answer number)))
    → ((w : Work) → 2 ≤ u.ctl.v → served_on u w → P w)
    → Kept u → P (unwrapped_slot u cell)
unfolding unwrapped_slot finish
slot_cases u cell P no_slot done kept =
    let N = u.ctl.n in
    let z = u.ctl.v in
    if_holds P (not (ranges_hold N z)) _ _ (λ _. no_slot 1 (omega arith))
    (λ range. if_holds P (not (sizes_hold u)) _ _ (λ _. no_slot 2 (omega arith))
    (λ _. if_holds P (not (length cell =? 0 || length cell =? octets)) _ _ (λ _. no_slot 9 (omega arith))
    (λ _. if_holds (λ (x : Out Work). P (finish u x)) (arriving_fits u.ctl.raw u.ctl.mode cell) _ _
    (λ _. let b = ranges_v N z (not-false (ranges_hold N z) range) in
    let a = let_in u cell in
    let w = work_of (with_mode u a.mode) (bare_answer 0) in
    finished b.0 a.dropped (unwrapped_steps (lowest_free u.bits) a.cell w)
    (steps_keep (lowest_free u.bits) a.cell w z u.ctl.t u.ctl.rotation (begin u a.mode kept) (turns_low u kept) b.1))
    (λ _. no_slot 3 (omega arith)))))
  where
    finished : 2 ≤ u.ctl.v → (drop : Bool) (x : Out Work) → AllOut (served_on u) x
        → P (finish u (x and_then λ w. next (told drop w)))
    finished low drop refused h = no_slot 3 (omega arith)
    finished low true (next w) h =
        done (told true w) low
        (record { v_is = h.v_is; t_is = h.t_is; r_is = h.r_is; done = h.done; recent = h.recent })
    finished low false (next w) h = done w low h

pub slot_keeps : (u : State) (cell : List ℕ) → Kept u → Kept (unwrapped_slot u cell).state
slot_keeps u cell kept = slot_cases u cell (λ w. Kept w.state) (λ number h. kept) (λ w low h. done_keeps u kept low w h) kept

-- the clock is the number of slots served: one more exactly where the answer's number is 0
pub slot_counts : (u : State) (cell : List ℕ) → Kept u
    → (unwrapped_slot u cell).state.ctl.t ≡ (when (unwrapped_slot u cell).answer.number =? 0 then 1 else 0) + u.ctl.t
slot_counts u cell kept =
    slot_cases u cell (λ w. w.state.ctl.t ≡ (when w.answer.number =? 0 then 1 else 0) + u.ctl.t)
    (λ number h. rw (ne_eqb number 0 (λ e. omega arith)) (omega arith))
    (λ w low h. rw (h.done, h.t_is) (omega arith))
    kept
