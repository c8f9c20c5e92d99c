-- A slot with the header check in front: document 01's slot, in the mode that the check leads to, over what it lets
-- through. So it keeps the invariant too, whichever free space its cell takes; a dropped cell is told, and adds no cell.
use Prim.Native.Nat.{ℕ, ◌≤◌}
use mathlib.Core.Path.{◌≡◌, refl, sym, ap, ◌∙◌, subst}
use mathlib.Core.Bool.{Bool, true, false, ◌||◌}
use mathlib.Core.List.{List, [], ◌∷◌}
use lib.ListN.{length}
use Rattle.base_hec.specs.Modes.{Arriving}
use Rattle.meaning.specs.Plain.{◌=?◌}
use Rattle.meaning.specs.Numbers.{nothing, dropped, lets_in}
use Rattle.meaning.specs.State.{State, with_record, record_in_mode, with_mode}
use Rattle.meaning.specs.Bits.{is_free_space, lowest_free}
use Rattle.meaning.specs.Work.{Work, work_of, bare_answer}
use Rattle.meaning.specs.Slot.{unchecked_slot_at, unchecked_slot, told, slot_at, slot}
use Rattle.meaning.proofs.CheckedLaws.{unlent, through_lent, mode_low, dropped_none, fits_low, served_is}
use Rattle.meaning_runs.specs.Run.{Event, shown, let_in, served}
use Rattle.meaning_runs.specs.Leak.{accepts, opening_of}
use Rattle.meaning_runs.specs.Seen.{Cell, cells_in, departures_in}
use Rattle.meaning_runs.specs.Judged.{Judged, judged_of, judged_by, judged, judged_as}
use Rattle.theory_invariant.specs.Invariant.{Inv, Waiting, waiting}
use Rattle.theory_invariant.specs.Gone.{new_in, ready, onwards, LeftAs}
use Rattle.theory_invariant.proofs.EndLaws.{event_of}
use Rattle.theory_invariant.proofs.SlotLaws.{Ran, lowest_space, unchecked_served, unchecked_refused}
use Rattle.theory_invariant.proofs.CallLaws.{Still, unchanged}

-- the invariant speaks of the mode's range alone
pub inv_mode : (N z kind : ℕ) (h : List Event) (s : State) (mode : ℕ) → Inv N z kind h s → mode ≤ 1 → Inv N z kind h (with_mode s mode)
unfolding with_mode with_record record_in_mode
inv_mode N z kind h s mode i low =
    record {
      out = i.out;
      cal = i.cal;
      left = i.left;
      stage = record {
        ranges = i.stage.ranges;
        n_is = i.stage.n_is;
        v_is = i.stage.v_is;
        t_is = i.stage.t_is;
        turn_low = i.stage.turn_low;
        rotation_is = i.stage.rotation_is;
        kind_is = i.stage.kind_is;
        kind_fits = i.stage.kind_fits;
        has = i.stage.has;
        dates = i.stage.dates;
        words_long = i.stage.words_long;
        table = i.stage.table;
      };
      raw_low = i.raw_low;
      mode_low = low;
      splits = i.splits;
      good = i.good;
      sits_out = i.sits_out;
      sits_cal = i.sits_cal;
      seen = i.seen;
      in_time = i.in_time;
      order = i.order;
      delays = i.delays;
      named = i.named;
      named_left = i.named_left;
      left_rise = i.left_rise;
      cells_rise = i.cells_rise;
    }

-- what a slot leaves
pub record Checked (N z kind : ℕ) (h : List Event) (before : Waiting) (a : Arriving) (w : Work) : Type 0 where
  pub inv : Inv N z kind (event_of a.cell w ∷ h) w.state
  pub number : w.answer.number ≡ 0
  pub says : judged_of w.answer.verdict w.answer.vci w.answer.d ≡ judged_as kind z h a
  pub waits_on_lem : waiting inv ≡ onwards (new_in h a.cell w.answer) before
  pub left : LeftAs (ready (new_in h a.cell w.answer) before) w

-- verdict 4 in place of 0: no cell more, no opening moved, the same slots and departures
still_dropped : (h : List Event) (cell : List ℕ) (w : Work) → w.answer.verdict ≡ nothing
    → Still (event_of cell w ∷ h) (event_of cell (told true w) ∷ h)
unfolding served cells_in departures_in shown lets_in
still_dropped h cell w e = record { slots = refl; cells = rw e; departures = refl }

opening_dropped : (h : List Event) (cell : List ℕ) (w : Work) → w.answer.verdict ≡ nothing → (v : ℕ)
    → opening_of v (event_of cell (told true w) ∷ h) ≡ opening_of v (event_of cell w ∷ h)
unfolding opening_of accepts lets_in
opening_dropped h cell w e v = rw e

-- nothing arrives: verdict 0
judged_none : (kind z : ℕ) (h : List Event) → judged kind z h [] ≡ judged_of nothing 0 0
unfolding judged_by
judged_none kind z h = refl

-- no cell is new, told or not
new_dropped : (h : List Event) (cell : List ℕ) (w : Work) → w.answer.verdict ≡ nothing
    → new_in h cell w.answer ≡ new_in h cell (told true w).answer
unfolding lets_in
new_dropped h cell w e = rw e

left_dropped : (o : List Cell) (w : Work) → LeftAs o w → LeftAs o (told true w)
unfolding shown
left_dropped [] w l = l
left_dropped (c ∷ o) w l = l

told_kept : (N z kind : ℕ) (h : List Event) (before : Waiting) (a : Arriving) (w : Work) → (a.dropped ≡ true → a.cell ≡ [])
    → Ran N z kind h before a.cell w
    → (drop : Bool) → a.dropped ≡ drop → Checked N z kind h before a (told drop w)
unfolding unchanged
told_kept N z kind h before a w none g false e =
    record { inv = g.inv; number = g.number; says = rw e g.says; waits_on_lem = g.waits_on_lem; left = g.left }
told_kept N z kind h before a w none g true e =
    record {
      inv = unchanged N z kind (event_of a.cell w ∷ h) w.state g.inv (event_of a.cell (told true w) ∷ h)
          (still_dropped h a.cell w quiet) (opening_dropped h a.cell w quiet);
      number = g.number;
      says = rw e;
      waits_on_lem = g.waits_on_lem ∙ ap (λ new. onwards new before) (new_dropped h a.cell w quiet);
      left = left_dropped (ready (new_in h a.cell (told true w).answer) before) w
          (subst (λ new. LeftAs (ready new before) w) (new_dropped h a.cell w quiet) g.left);
    }
  where
    quiet : w.answer.verdict ≡ nothing
    quiet = ap (λ (j : Judged). j.verdict) (g.says ∙ ap (judged kind z h) (none e) ∙ judged_none kind z h)

module _ (N z kind : ℕ) (h : List Event) (s : State) (i : Inv N z kind h s) (cell : List ℕ) where
  abbrev a : Arriving
  a = let_in s cell

  -- a slot that is served, and one that is refused, with 9
  module _ (x : ℕ) where
    module _ (free : is_free_space s.bits x ≡ true) (lent : length cell =? 0 || length cell =? 53 ≡ true) where
      mode_in : a.mode ≤ 1
      mode_in = mode_low s.ctl.raw s.ctl.mode cell i.mode_low

      free_in : is_free_space (with_mode s a.mode).bits x ≡ true
      unfolding with_mode with_record
      free_in = free

      unchecked : Ran N z kind h (waiting i) a.cell (unchecked_slot_at x (with_mode s a.mode) a.cell)
      unfolding inv_mode
      unchecked =
          unchecked_served N z kind h (with_mode s a.mode) (inv_mode N z kind h s a.mode i mode_in)
          a.cell x free_in (through_lent s.ctl.raw s.ctl.mode cell lent)

      pub slot_is_at : slot_at x s cell ≡ told (let_in s cell).dropped (unchecked_slot_at x (with_mode s (let_in s cell).mode) (let_in s cell).cell)
      slot_is_at =
          served_is x s cell lent (fits_low s.ctl.raw s.ctl.mode cell i.raw_low i.mode_low) unchecked.number

      pub served_at : Checked N z kind h (waiting i) (let_in s cell) (slot_at x s cell)
      served_at =
          subst (Checked N z kind h (waiting i) a) (sym slot_is_at)
          (told_kept N z kind h (waiting i) a (unchecked_slot_at x (with_mode s a.mode) a.cell)
          (dropped_none s.ctl.raw s.ctl.mode cell) unchecked a.dropped refl)

    pub refused_at : length cell =? 0 || length cell =? 53 ≡ false → slot_at x s cell ≡ work_of s (bare_answer 9)
    refused_at lent = unlent x s cell lent ∙ unchecked_refused N z kind h s i cell x lent

  -- the slot itself takes the lowest free space
  pub slot_is : length cell =? 0 || length cell =? 53 ≡ true
      → slot s cell ≡ told (let_in s cell).dropped (unchecked_slot (with_mode s (let_in s cell).mode) (let_in s cell).cell)
  unfolding slot unchecked_slot with_mode with_record
  slot_is lent = slot_is_at (lowest_free s.bits) (lowest_space N z kind h s i) lent

  pub slot_served : length cell =? 0 || length cell =? 53 ≡ true → Checked N z kind h (waiting i) (let_in s cell) (slot s cell)
  unfolding slot
  slot_served lent = served_at (lowest_free s.bits) (lowest_space N z kind h s i) lent

  pub slot_refused : length cell =? 0 || length cell =? 53 ≡ false → slot s cell ≡ work_of s (bare_answer 9)
  unfolding slot
  slot_refused lent = refused_at (lowest_free s.bits) lent
