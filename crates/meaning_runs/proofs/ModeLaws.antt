-- Whatever the state and the space x that a cell takes: the five steps touch neither raw, mode, the line kind nor the splits, so a
-- slot leaves all of these but the mode as they were, a served one leaves the mode that the header check says, and a refused one
-- leaves all as it was.
use Prim.Native.Nat.{ℕ, ◌+◌, ◌%◌, ◌≤◌}
use mathlib.Core.Path.{◌≡◌, refl, ap}
use mathlib.Core.Logic.{◌≢◌}
use mathlib.Core.Bool.{Bool, true, false, not, ◌&&◌, ◌||◌}
use mathlib.Core.List.{List}
use native.Mathlib.Omega.{arith}
use lib.ListN.{length}
use Rattle.base_hec.specs.Modes.{arriving_fits}
use Rattle.meaning.specs.declared.Record.{Record}
use Rattle.meaning.specs.Plain.{◌<?◌, ◌≤?◌, ◌=?◌, Out, refused, next, ◌and_then◌}
use Rattle.meaning.specs.Numbers.{ranges_hold, octets, cell_start, connections_in, unused, kind_in_range, excess}
use Rattle.meaning.specs.State.{State, sizes_hold, output_list, with_record, with_cells, with_links, with_calendar, with_words, with_bits, with_arrived}
use Rattle.meaning.specs.State.{record_with, with_clock, with_free, with_output_list, record_in_mode, with_mode}
use Rattle.meaning.specs.Header.{Name, header_at, clp_in, no_user_cell, connection, names_connection, names_open}
use Rattle.meaning.specs.Operators.{owns}
use Rattle.meaning.specs.Bucket.{delay}
use Rattle.meaning.specs.Words.{Connection, connection_at, open_word_fits, up_to_date}
use Rattle.meaning.specs.Lists.{is_empty, ends_fit, entry_at, take_head}
use Rattle.meaning.specs.Bits.{is_free_space, spaces_fit}
use Rattle.meaning.specs.Work.{Work, work_of, bare_answer}
use Rattle.meaning.specs.Arrival.{place, verdict_on, accept, judge}
use Rattle.meaning.specs.Slot.{step1, step2, step3, step4, step5, depart, five_steps, finish, told, slot_at}
use Rattle.meaning_runs.specs.Run.{let_in}
use Rattle.meaning_runs.proofs.OutLaws.{AllOut, if_holds, needs_all, if_all, then_all, any_all}

-- what no step of a slot touches in a record
pub record Fixed : Type 0 where
  pub raw : ℕ
  pub mode : ℕ
  pub kind : ℕ
  pub splitvci : ℕ
  pub splitpath : ℕ

abbrev pub fixed_of : Record → Fixed
fixed_of r = record { raw = r.raw; mode = r.mode; kind = r.kind; splitvci = r.splitvci; splitpath = r.splitpath }

-- it is as in the record r, and the number is 0, in the midst of a slot
abbrev pub Moded : Record → Work → Type 0
Moded r w = (fixed_of w.state.ctl ≡ fixed_of r) × (w.answer.number ≡ 0)

module _ (r₀ : Record) where
  abbrev Q : Work → Type 0
  Q = Moded r₀

  step1_moded : (w : Work) → Q w → AllOut Q (step1 w)
  unfolding step1 with_clock with_record record_with
  step1_moded w h =
      let r = w.state.ctl in
      needs_all Q (r.turn <? r.n && r.rotation <? connections_in r.v) _
      (λ _. h)

  step2_moded : (w : Work) → Q w → AllOut Q (step2 w)
  unfolding step2 with_words
  step2_moded w h =
      let s = w.state in
      let vci = s.ctl.rotation in
      let vc = connection_at s.words vci in
      if_all Q (unused s.ctl.v vci) _ _ (λ _. h)
      (λ _. needs_all Q (open_word_fits vc) _
      (λ _. if_all Q (vc.opened =? 0) _ _ (λ _. h)
      (λ _. any_all Q (up_to_date s.ctl.n s.ctl.t vc) _
      (λ now. h))))

  judge_moded : (x : ℕ) (cell : List ℕ) (v : ℕ) (w : Work) (vc : Connection) → Q w → AllOut Q (judge x cell v w vc)
  unfolding judge accept place with_words with_cells with_links with_calendar with_free with_bits with_arrived with_record record_with
  judge_moded x cell v w vc h =
      let s = w.state in
      if_all Q (verdict_on (clp_in cell) vc =? excess) _ _ (λ _. h)
      (λ _. needs_all Q (vc.waiting <? s.ctl.n) _
      (λ _. needs_all Q (spaces_fit s.ctl.n s.ctl.free s.bits && not (s.ctl.free =? 0)) _
      (λ _. needs_all Q (is_free_space s.bits x) _
      (λ _. needs_all Q (ends_fit s.ctl.n (entry_at s.calendar ((s.ctl.turn + delay vc.bucket) % s.ctl.n))) _
      (λ _. h)))))

  step3_moded : (x : ℕ) (cell : List ℕ) (w : Work) → Q w → AllOut Q (step3 x cell w)
  unfolding step3
  step3_moded x cell w h =
      let s = w.state in
      let a = header_at s.ctl.kind cell 0 in
      let c = connection s.ctl.v a in
      let vc = connection_at s.words c in
      if_all Q (length cell =? 0) _ _ (λ _. h)
      (λ _. needs_all Q (kind_in_range s.ctl.kind) _
      (λ _. if_all Q (no_user_cell a) _ _ (λ _. h)
      (λ _. if_all Q (not (names_connection s.ctl.v a)) _ _
      (λ _. h)
      (λ _. needs_all Q (open_word_fits vc) _
      (λ _. if_all Q (vc.opened =? 0) _ _ (λ _. h)
      (λ _. any_all Q (up_to_date s.ctl.n s.ctl.t vc) _ (λ now. judge_moded x cell c w now h)))))))

  step4_moded : (w : Work) → Q w → AllOut Q (step4 w)
  unfolding step4 with_bits with_calendar with_links with_output_list with_record record_with
  step4_moded w h =
      let s = w.state in
      let entry = entry_at s.calendar s.ctl.turn in
      needs_all Q (ends_fit s.ctl.n entry && ends_fit s.ctl.n (output_list s)) _
      (λ _. if_all Q (is_empty entry) _ _ (λ _. h)
      (λ _. h))

  step5_moded : (w : Work) → Q w → AllOut Q (step5 w)
  unfolding step5 depart with_words with_free with_bits with_output_list with_record record_with
  step5_moded w h =
      let s = w.state in
      if_all Q (is_empty (output_list s)) _ _ (λ _. h)
      (λ _. any_all Q (take_head s.ctl.n s.links (output_list s)) _
      (λ taken. let a = header_at s.ctl.kind s.cells (cell_start taken.space) in
      let vc = connection_at s.words (connection s.ctl.v a) in
      needs_all Q (kind_in_range s.ctl.kind && names_open s.ctl.v s.words a) _
      (λ _. needs_all Q (1 ≤? vc.waiting && vc.waiting ≤? s.ctl.n) _
      (λ _. needs_all Q (spaces_fit s.ctl.n s.ctl.free s.bits && not (is_free_space s.bits taken.space)) _
      (λ _. h)))))

  pub steps_moded : (x : ℕ) (cell : List ℕ) (w : Work) → Q w → AllOut Q (five_steps x cell w)
  unfolding five_steps
  steps_moded x cell w h =
      then_all Q Q (step1 w and_then step2 and_then step3 x cell and_then step4) step5
      (then_all Q Q (step1 w and_then step2 and_then step3 x cell) step4
      (then_all Q Q (step1 w and_then step2) (step3 x cell)
      (then_all Q Q (step1 w) step2 (step1_moded w h) step2_moded) (step3_moded x cell)) step4_moded) step5_moded

-- what holds of every refused slot and of a served one, in the mode that the check leads to, holds of a slot
module _ (x : ℕ) (s : State) (cell : List ℕ) (P : Work → Type 0)
    (no_slot : (number : ℕ) → 1 ≤ number → P (work_of s (bare_answer number)))
    (served-slot : (w : Work) → Moded (record_in_mode s.ctl (let_in s cell).mode) w → P w) where
  told_moded : (drop : Bool) (w : Work) → Moded (record_in_mode s.ctl (let_in s cell).mode) w → P (told drop w)
  told_moded true w h = served-slot _ (h)
  told_moded false w h = served-slot w h

  finished : (o : Out Work) → AllOut (Moded (record_in_mode s.ctl (let_in s cell).mode)) o
      → P (finish s (o and_then λ w. next (told (let_in s cell).dropped w)))
  unfolding finish
  finished refused h = no_slot 3 (omega arith)
  finished (next w) h = told_moded (let_in s cell).dropped w h

  refused_here : P (finish s refused)
  unfolding finish
  refused_here = no_slot 3 (omega arith)

  begun : Moded (record_in_mode s.ctl (let_in s cell).mode) (work_of (with_mode s (let_in s cell).mode) (bare_answer 0))
  unfolding with_mode with_record record_in_mode
  begun = (refl, refl)

  pub slot_cases : P (slot_at x s cell)
  unfolding slot_at
  slot_cases =
      let N = s.ctl.n in
      let z = s.ctl.v in
      if_holds P (not (ranges_hold N z)) _ _ (λ _. no_slot 1 (omega arith))
      (λ _. if_holds P (not (sizes_hold s)) _ _ (λ _. no_slot 2 (omega arith))
      (λ _. if_holds P (not (length cell =? 0 || length cell =? octets)) _ _ (λ _. no_slot 9 (omega arith))
      (λ _. if_holds (λ (o : Out Work). P (finish s o)) (arriving_fits s.ctl.raw s.ctl.mode cell) _ _
      (λ _. finished (five_steps x (let_in s cell).cell (work_of (with_mode s (let_in s cell).mode) (bare_answer 0)))
      (steps_moded (record_in_mode s.ctl (let_in s cell).mode) x (let_in s cell).cell
      (work_of (with_mode s (let_in s cell).mode) (bare_answer 0)) begun))
      (λ _. refused_here))))

-- all of it but the mode stays
pub raw_kept : (x : ℕ) (s : State) (cell : List ℕ) → (slot_at x s cell).state.ctl.raw ≡ s.ctl.raw
unfolding record_in_mode
raw_kept x s cell =
    slot_cases x s cell (λ w. w.state.ctl.raw ≡ s.ctl.raw) (λ k h. refl) (λ w h. ap (λ (f : Fixed). f.raw) h.0)

pub kind_kept : (x : ℕ) (s : State) (cell : List ℕ) → (slot_at x s cell).state.ctl.kind ≡ s.ctl.kind
unfolding record_in_mode
kind_kept x s cell =
    slot_cases x s cell (λ w. w.state.ctl.kind ≡ s.ctl.kind) (λ k h. refl) (λ w h. ap (λ (f : Fixed). f.kind) h.0)

pub splitvci_kept : (x : ℕ) (s : State) (cell : List ℕ) → (slot_at x s cell).state.ctl.splitvci ≡ s.ctl.splitvci
unfolding record_in_mode
splitvci_kept x s cell =
    slot_cases x s cell (λ w. w.state.ctl.splitvci ≡ s.ctl.splitvci) (λ k h. refl) (λ w h. ap (λ (f : Fixed). f.splitvci) h.0)

pub splitpath_kept : (x : ℕ) (s : State) (cell : List ℕ) → (slot_at x s cell).state.ctl.splitpath ≡ s.ctl.splitpath
unfolding record_in_mode
splitpath_kept x s cell =
    slot_cases x s cell (λ w. w.state.ctl.splitpath ≡ s.ctl.splitpath) (λ k h. refl) (λ w h. ap (λ (f : Fixed). f.splitpath) h.0)

-- so a connection stays whose it is
pub owns_kept : (x : ℕ) (s : State) (cell : List ℕ) (who : ℕ) (name : Name) → owns (slot_at x s cell).state.ctl who name ≡ owns s.ctl who name
unfolding owns
owns_kept x s cell who name = rw (splitvci_kept x s cell, splitpath_kept x s cell)

pub mode_moved : (x : ℕ) (s : State) (cell : List ℕ) → (slot_at x s cell).answer.number ≡ 0 → (slot_at x s cell).state.ctl.mode ≡ (let_in s cell).mode
unfolding record_in_mode
mode_moved x s cell =
    slot_cases x s cell (λ w. w.answer.number ≡ 0 → w.state.ctl.mode ≡ (let_in s cell).mode)
    (λ k h e. absurd (omega arith)) (λ w h e. ap (λ (f : Fixed). f.mode) h.0)

-- "Each leaves everything as it came"
pub slot_stays : (x : ℕ) (s : State) (cell : List ℕ) → (slot_at x s cell).answer.number ≢ 0 → (slot_at x s cell).state ≡ s
slot_stays x s cell =
    slot_cases x s cell (λ w. w.answer.number ≢ 0 → w.state ≡ s) (λ k h ne. refl) (λ w h ne. absurd (ne h.1))
