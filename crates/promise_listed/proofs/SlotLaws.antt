-- A whole slot of the old form says what the new one says when its cell takes the head of the Free List, and leaves both tied: the new
-- form refuses nothing here but a cell of the wrong length, which the old one refuses too.
use Prim.Native.Nat.{ℕ, ◌*◌}
use mathlib.Core.Path.{◌≡◌, refl, sym, ap, ap₂, ◌∙◌, subst₂}
use mathlib.Core.Bool.{Bool, true, false, not, ◌||◌}
use mathlib.Core.List.{List}
use native.Mathlib.Omega.{arith}
use borrow.Author.Tests.{eq-eqb}
use lib.ListN.{length}
use Rattle.base_hec.specs.Modes.{arriving, arriving_fits}
use Rattle.meaning.specs.Plain.{when◌then◌else◌, ◌=?◌, Out, refused, next, needs, ◌and_then◌}
use Rattle.meaning.specs.Numbers.{ranges_hold, words_in}
use Rattle.meaning.specs.State.{State, Ends, sizes_hold, with_record, record_in_mode, with_mode}
use Rattle.meaning.specs.Bits.{is_free_space}
use Rattle.meaning.specs.Work.{Work, work_of, bare_answer}
use Rattle.meaning.specs.Slot.{five_steps, finish, told, slot_at}
use Rattle.meaning_runs.specs.Run.{Event}
use Rattle.meaning_listed.specs.Listed.{Listed, listed_of, ListedWork, work_with, five_listed, refuse, finish_listed, four_hold, told_listed, slot_listed}
use Rattle.theory_invariant.specs.Invariant.{Inv}
use Rattle.theory_invariant.proofs.LengthLaws.{ranges_hold_lem, lengths_hold_lem}
use Rattle.theory_invariant.proofs.CheckLaws.{served_at}
use Rattle.promise_listed.specs.Tied.{beneath, over, TiedAt, Led, Follows}
use Rattle.promise_listed.proofs.FollowLaws.{Any, needs_both, then_both}
use Rattle.promise_listed.proofs.StepLaws.{five_follows}

-- what a slot of the old form leaves, the new one leaving w
pub record Slotted (n : ℕ) (b : List ℕ) (w : Work) (l : ListedWork) : Type 0 where
  pub list : List ℕ
  pub free : Ends
  pub is : l ≡ over n b w list free
  pub tied : TiedAt w.state list free

module _ (n : ℕ) (b : List ℕ) where
  told_follows : (drop : Bool) (w : Work) (list : List ℕ) (free : Ends) → TiedAt w.state list free
      → Led n b Any (told drop w) (next (told_listed drop (over n b w list free)))
  told_follows true w list free t = record { list = list; free = free; is = refl; tied = t; holds = tt }
  told_follows false w list free t = record { list = list; free = free; is = refl; tied = t; holds = tt }

  finish_follows : (s : State) (l : Listed) (x : Out Work) (y : Out ListedWork) → Follows n b Any x y → (finish s x).answer.number ≡ 0
      → Slotted n b (finish s x) (finish_listed l y)
  unfolding finish finish_listed
  finish_follows s l refused y p e = absurd (omega (arith, e))
  finish_follows s l (next w) y p e =
      record { list = p.list; free = p.free; is = ap (finish_listed l) p.is; tied = p.tied }

  module _ (N z kind : ℕ) (h : List Event) (s : State) (i : Inv N z kind h s) (list : List ℕ) (free : Ends) (t : TiedAt s list free)
      (cell : List ℕ) where
    abbrev l : Listed
    l = listed_of (beneath n b s list) free

    abbrev x : ℕ
    x = free.head

    abbrev new : Out Work
    new =
        let a = arriving s.ctl.raw s.ctl.mode cell in
        needs (arriving_fits s.ctl.raw s.ctl.mode cell)
        (five_steps x a.cell (work_of (with_mode s a.mode) (bare_answer 0)) and_then λ w. next (told a.dropped w))

    abbrev old : Out ListedWork
    old =
        let a = arriving s.ctl.raw s.ctl.mode cell in
        needs (arriving_fits s.ctl.raw s.ctl.mode cell)
        (five_listed a.cell (work_with (work_of (with_mode (beneath n b s list) a.mode) (bare_answer 0)) free)
        and_then λ w. next (told_listed a.dropped w))

    ranges : ranges_hold s.ctl.n s.ctl.v ≡ true
    ranges = ap₂ ranges_hold i.stage.n_is i.stage.v_is ∙ ranges_hold_lem N z i.stage.ranges

    cells_long_lem : length s.cells ≡ 53 * s.ctl.n
    cells_long_lem = i.stage.has.cells_long_lem ∙ ap (λ (k : ℕ). 53 * k) (sym i.stage.n_is)

    words_long : length s.words ≡ words_in s.ctl.v
    words_long = i.stage.words_long ∙ ap words_in (sym i.stage.v_is)

    sizes : sizes_hold s ≡ true
    sizes =
        lengths_hold_lem s.ctl.n s.ctl.v s.cells s.links s.calendar s.words s.bits s.arrived cells_long_lem t.new.long
        t.calendar_long words_long t.bits_long (i.stage.dates.long ∙ sym i.stage.n_is)

    four : four_hold s.ctl.n s.ctl.v (beneath n b s list) ≡ true
    unfolding four_hold
    four =
        rw (
          eq-eqb (length s.cells) (53 * s.ctl.n) cells_long_lem,
          eq-eqb (length list) s.ctl.n t.old.long,
          eq-eqb (length s.calendar) (2 * s.ctl.n) t.calendar_long,
          eq-eqb (length s.words) (words_in s.ctl.v) words_long,
        )

    follows : Follows n b Any new old
    unfolding with_mode with_record record_in_mode
    follows =
        let a = arriving s.ctl.raw s.ctl.mode cell in
        needs_both n b Any (arriving_fits s.ctl.raw s.ctl.mode cell) _ _
        (λ _. then_both n b Any Any (five_steps x a.cell (work_of (with_mode s a.mode) (bare_answer 0)))
        (five_listed a.cell (work_with (work_of (with_mode (beneath n b s list) a.mode) (bare_answer 0)) free))
        (λ w. next (told a.dropped w)) (λ w. next (told_listed a.dropped w))
        (five_follows n b (work_of (with_mode s a.mode) (bare_answer 0)) list free t a.cell)
        (λ w k f u _. told_follows a.dropped w k f u))

    module _ (lent : Bool) (is_lent_lem : length cell =? 0 || length cell =? 53 ≡ lent) where
      new_is : slot_at x s cell ≡ (when not lent then work_of s (bare_answer 9) else finish s new)
      unfolding slot_at
      new_is = rw (ranges, sizes, is_lent_lem)

      old_is : slot_listed l cell ≡ (when not lent then refuse l 9 else finish_listed l old)
      unfolding slot_listed
      old_is = rw (ranges, four, is_lent_lem)

    pub slot_follows : is_free_space s.bits free.head ≡ true
        → Slotted n b (slot_at free.head s cell) (slot_listed (listed_of (beneath n b s list) free) cell)
    slot_follows e = go (length cell =? 0 || length cell =? 53) refl
      where
        go : (lent : Bool) → length cell =? 0 || length cell =? 53 ≡ lent → Slotted n b (slot_at x s cell) (slot_listed l cell)
        go true f =
            subst₂ (Slotted n b) (sym (new_is true f)) (sym (old_is true f))
            (finish_follows s l new old follows
            (ap (λ (w : Work). w.answer.number) (sym (new_is true f)) ∙ (served_at N z kind h s i cell x e f).number))
        go false f =
            subst₂ (Slotted n b) (sym (new_is false f)) (sym (old_is false f))
            (record { list = list; free = free; is = refl; tied = t })
