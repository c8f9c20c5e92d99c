-- What a slot answers and keeps, for every state, with the header check in front: as the slot without it does, since what
-- the check changes is the mode and the verdict.
use Prim.Native.Nat.{ℕ}
use mathlib.Core.Path.{◌≡◌, refl, sym, ap, subst}
use mathlib.Core.Logic.{◌≢◌}
use mathlib.Core.Bool.{Bool, true, false, not}
use mathlib.Core.List.{List}
use native.Mathlib.Omega.{arith}
use borrow.Author.Tests.{eqb-true, eqb-false}
use Rattle.base_hec.specs.Modes.{Arriving, arriving, arriving_fits}
use Rattle.meaning.specs.Plain.{when◌then◌else◌, ◌=?◌}
use Rattle.meaning.specs.Numbers.{ranges_hold}
use Rattle.meaning.specs.Bits.{lowest_free}
use Rattle.meaning.specs.State.{State, state_of, sizes_hold, with_record, record_in_mode, with_mode}
use Rattle.meaning.specs.Work.{Work, work_of, bare_answer}
use Rattle.meaning.specs.Slot.{finish, unchecked_slot, told, slot_at, slot}
use Rattle.meaning.proofs.CheckedLaws.{is_lent, unlent}
use Rattle.slot_steps.proofs.EndLaws.{Answered, refused_with_lem, unchecked_answered}
use Rattle.call_slot.specs.Back.{back}
use Rattle.call_slot.proofs.Front.{by_unchecked}

-- a slot in another mode, and back
module _ (s : State) (mode : ℕ) (b : Bool) (w : Work) (h : Answered (with_mode s mode) w) where
  told_served_lem : (c : Bool) → w.answer.number ≡ 0 → Answered s (told c w)
  unfolding with_mode with_record record_in_mode
  told_served_lem true e =
      record {
        as_came = λ ne. absurd (ne e);
        ranges = h.ranges;
        lengths = h.lengths;
        n_is = h.n_is;
        v_is = h.v_is;
        raw_is = h.raw_is;
        kind_is = h.kind_is;
        low = h.low;
      }
  told_served_lem false e =
      record {
        as_came = λ ne. absurd (ne e);
        ranges = h.ranges;
        lengths = h.lengths;
        n_is = h.n_is;
        v_is = h.v_is;
        raw_is = h.raw_is;
        kind_is = h.kind_is;
        low = h.low;
      }

  as_it_came_lem : w.answer.number ≢ 0 → Answered s (work_of (with_record w.state s.ctl) w.answer)
  unfolding with_mode with_record record_in_mode
  as_it_came_lem ne =
      record {
        as_came = λ _. ap (λ (x : State). state_of s.ctl x.cells x.links x.calendar x.words x.bits x.arrived) (h.as_came ne);
        ranges = λ e. absurd (ne e);
        lengths = λ e. absurd (ne e);
        n_is = refl;
        v_is = refl;
        raw_is = refl;
        kind_is = refl;
        low = h.low;
      }

  pub back_answered : Answered s (back s b w)
  unfolding back
  back_answered = go (w.answer.number =? 0) refl
    where
      go : (c : Bool) → (w.answer.number =? 0) ≡ c
          → Answered s (when c then told b w else work_of (with_record w.state s.ctl) w.answer)
      go true e = told_served_lem b (eqb-true w.answer.number 0 e)
      go false e = as_it_came_lem (eqb-false w.answer.number 0 e)

-- raw or mode unfit: 1, 2 or 3
unfit_answered : (s : State) (cell : List ℕ) → is_lent cell ≡ true → arriving_fits s.ctl.raw s.ctl.mode cell ≡ false
    → Answered s (slot s cell)
unfolding slot slot_at finish
unfit_answered s cell lent fits =
    rw (lent, fits)
    (go (ranges_hold s.ctl.n s.ctl.v)
    (sizes_hold s))
  where
    go : (p q : Bool)
        → Answered s
        (when not p then work_of s (bare_answer 1) else when not q then work_of s (bare_answer 2) else work_of s (bare_answer 3))
    go false q = refused_with_lem s 1 (λ e. omega arith)
    go true false = refused_with_lem s 2 (λ e. omega arith)
    go true true = refused_with_lem s 3 (λ e. omega arith)

pub slot_answered : (s : State) (cell : List ℕ) → Answered s (slot s cell)
unfolding slot unchecked_slot
slot_answered s cell = go (is_lent cell) (arriving_fits s.ctl.raw s.ctl.mode cell) refl refl
  where
    a : Arriving
    a = arriving s.ctl.raw s.ctl.mode cell

    go : (p q : Bool) → is_lent cell ≡ p → arriving_fits s.ctl.raw s.ctl.mode cell ≡ q → Answered s (slot s cell)
    go false q e f = subst (Answered s) (sym (unlent (lowest_free s.bits) s cell e)) (unchecked_answered s cell)
    go true false e f = unfit_answered s cell e f
    go true true e f =
        subst (Answered s) (sym (by_unchecked s cell e f))
        (back_answered s a.mode a.dropped (unchecked_slot (with_mode s a.mode) a.cell)
        (unchecked_answered (with_mode s a.mode) a.cell))
