-- Document 01's slot keeps the invariant, whichever free space its cell takes, is never refused with 3, and says of the
-- arrival what the exact leak rules say. Steps 1 to 5 one after the other.
use Prim.Native.Nat.{ℕ, suc, ◌+◌, ◌-◌, ◌<◌}
use mathlib.Core.Path.{◌≡◌, refl, sym, ap, ◌∙◌, subst, subst₂}
use mathlib.Core.Logic.{◌≢◌}
use mathlib.Core.Bool.{true, false, ◌||◌}
use mathlib.Core.List.{List, [], ◌∷◌, ◌++◌, map, tail}
use mathlib.Core.Option.{Option}
use native.Mathlib.Omega.{arith}
use lib.ListN.{length}
use Rattle.meaning.specs.declared.Answer.{Answer}
use Rattle.meaning.specs.Plain.{◌=?◌, next}
use Rattle.meaning.specs.Numbers.{ranges_hold, splits_hold}
use Rattle.meaning.specs.State.{State, sizes_hold}
use Rattle.meaning.specs.Bits.{is_free_space, lowest_free}
use Rattle.meaning.specs.Work.{Work, work_of, bare_answer}
use Rattle.meaning.specs.Slot.{step1, step2, step3, step4, step5, five_steps, finish, unchecked_slot_at}
use Rattle.meaning_runs.specs.Run.{Event, ran, shown, served}
use Rattle.meaning_runs.specs.Leak.{Opening, opening_of}
use Rattle.meaning_runs.specs.Seen.{Cell, cells_in, of_connection}
use Rattle.meaning_runs.specs.Judged.{judged_of, judged}
use Rattle.meaning_runs.proofs.OutLaws.{AllOut}
use Rattle.meaning_runs.proofs.ModeLaws.{Fixed, Moded, steps_moded}
use Rattle.theory_queues.specs.Queue.{sum, sums, one, All, Alls, flat, first, turn, Rising, Good, Moved}
use Rattle.theory_queues.proofs.QueueLaws.{map_append, map_first, map_tail, all_append, all_tail, alls_first, alls_tail, turn_sums}
use Rattle.theory_queues.proofs.LineLaws.{move, leave}
use Rattle.theory_queues.proofs.OrderLaws.{of_connection_append}
use Rattle.theory_memory.specs.Held.{Queued, due_of}
use Rattle.theory_memory.proofs.HasLaws.{some_number, lowest_is_free}
use Rattle.theory_invariant.specs.Invariant.{seen_as, cell_left, cell_in, connection_in, Sits, Stage, InTime, Delayed, Named, Inv, Waiting, waiting}
use Rattle.theory_invariant.specs.Came.{onward, half, noted, entered, Came}
use Rattle.theory_invariant.specs.Gone.{Departs, Gone, new_in, ready, onwards, LeftAs}
use Rattle.theory_invariant.proofs.StepLaws.{Goes, Ticked, step1_goes, step2_goes}
use Rattle.theory_invariant.proofs.ArriveLaws.{step3_goes}
use Rattle.theory_invariant.proofs.SendLaws.{Sent, step4_goes}
use Rattle.theory_invariant.proofs.DepartLaws.{step5_goes}
use Rattle.theory_invariant.proofs.KeptLaws.{leaving, left_rises, order_kept, cells_ran}
use Rattle.theory_invariant.proofs.LengthLaws.{ranges_hold_lem, lengths_hold_lem}
use Rattle.theory_invariant.proofs.EndLaws.{event_of, Final, final, departs_seen, left_as, opened_after, slots_after, in_time_one}

-- what a slot leaves
pub record Ran (N z kind : ℕ) (h : List Event) (before : Waiting) (cell : List ℕ) (w : Work) : Type 0 where
  pub inv : Inv N z kind (event_of cell w ∷ h) w.state
  pub number : w.answer.number ≡ 0
  pub says : judged_of w.answer.verdict w.answer.vci w.answer.d ≡ judged kind z h cell
  -- spaces apart, what waits and what left follow from what waited
  pub waits_on_lem : waiting inv ≡ onwards (new_in h cell w.answer) before
  pub left : LeftAs (ready (new_in h cell w.answer) before) w

leaving_named : (kind z : ℕ) (f : ℕ → Option Opening) (n : ℕ) (o : List Queued) → All (Sits kind z f) o
    → All (λ p. Named kind z p.cell) (leaving n o)
leaving_named kind z f n [] a = tt
leaving_named kind z f n (c ∷ o) a = ((a.0.0, a.0.1), tt)

module _ (N z kind : ℕ) (h : List Event) (s : State) (i : Inv N z kind h s) where
  abbrev now : ℕ
  now = served h

  abbrev op : ℕ → Option Opening
  op v = opening_of v h

  -- refusals 1 and 2 are not given
  pub ranges_at : ranges_hold s.ctl.n s.ctl.v ≡ true
  ranges_at = rw (i.stage.n_is, i.stage.v_is) (ranges_hold_lem N z i.stage.ranges)

  pub lengths_at : sizes_hold s ≡ true
  lengths_at = rw (i.stage.n_is, i.stage.v_is)
      (lengths_hold_lem N z s.cells s.links s.calendar s.words s.bits s.arrived i.stage.has.cells_long_lem
      i.stage.has.links_long i.stage.has.calendar_long i.stage.words_long i.stage.has.bits_long i.stage.dates.long)

  -- fewer than N cells wait, so a space is free, whatever comes
  pub room : sums one (turn i.cal) + sum one i.out < N
  room = omega (arith, turn_sums one i.cal, i.good.room, i.stage.ranges.N_low)

  pub some_space : s.ctl.free ≢ 0
  some_space = some_number (omega (arith, i.stage.ranges.N_high)) i.stage.has room

  pub lowest_space : is_free_space s.bits (lowest_free s.bits) ≡ true
  lowest_space = lowest_is_free (omega (arith, i.stage.ranges.N_high)) i.stage.has room

  module _ (cell : List ℕ) where
    -- from the arrival and the departure to the invariant after the slot
    module _ (w3 w4 w5 : Work) (came : Came N z kind now cell op i.out i.cal w3) (kept : w4.answer ≡ w3.answer) where
      abbrev o1 : List Queued
      o1 = i.out ++ first came.r

      abbrev op' : ℕ → Option Opening
      op' v = onward now cell came.verdict came.vci op v

      module _ (gone : Gone N z kind now (λ v. op' v) o1 (turn (tail came.r)) w4 w5)
          (moded : Moded s.ctl w5) where
        departs : Departs N o1 (half came.verdict came.vci came.D) w5
        departs = subst (λ (a : Answer). Departs N o1 a w5) (kept ∙ came.says) gone.departs

        fin : Final came.verdict came.vci came.D w5
        fin = final N came.verdict came.vci came.D o1 w5 departs

        abbrev h' : List Event
        h' = event_of cell w5 ∷ h

        slots_are : served h' ≡ suc now
        slots_are = slots_after N i.stage.ranges.N_high h cell w5 came.verdict came.vci came.D fin

        openings_are : ◌≡◌ {A = ℕ → Option Opening} (λ v. opening_of v h') (λ v. op' v)
        openings_are = opened_after N i.stage.ranges.N_high h cell w5 came.verdict came.vci came.D fin

        cells_are : cells_in h' ≡ cells_in h ++ map cell_in came.new
        cells_are =
            ap (λ (a : Answer). cells_in (ran cell a (shown w5) ∷ h)) fin.says
            ∙ cells_ran h cell came.verdict came.vci came.D fin.x fin.dep (shown w5)
            ∙ ap (λ l. cells_in h ++ l) came.notes

        line_moved : Moved due_of (N - 1) now (tail came.r) o1
        line_moved = move due_of (N - 1) now came.r i.out came.arrived

        inv_after : Inv N z kind h' w5.state
        inv_after =
            record {
              out = tail o1;
              cal = tail came.r;
              left = i.left ++ leaving now o1;
              stage = subst₂ (λ (k : ℕ) (f : ℕ → Option Opening). Stage N z kind k k (w5.state.ctl.turn + 1) w5.state f
                  (tail o1) (turn (tail came.r))) (sym slots_are) (sym openings_are) gone.stage;
              raw_low = omega (arith, ap (λ (f : Fixed). f.raw) moded.0, i.raw_low);
              mode_low = omega (arith, ap (λ (f : Fixed). f.mode) moded.0, i.mode_low);
              splits = ap (λ (f : Fixed). splits_hold z f.splitvci f.splitpath) moded.0 ∙ i.splits;
              good = subst (λ (k : ℕ). Good due_of (N - 1) k (tail came.r) (tail o1)) (sym slots_are)
                  (leave due_of (N - 1) now (tail came.r) o1 line_moved);
              sits_out = subst (λ (f : ℕ → Option Opening). All (Sits kind z f) (tail o1)) (sym openings_are)
                  (all_tail (Sits kind z (λ v. op' v)) o1
                  (all_append (Sits kind z (λ v. op' v)) i.out (first came.r) came.sits_out
                  (alls_first (Sits kind z (λ v. op' v)) came.r came.sits_cal)));
              sits_cal = subst (λ (f : ℕ → Option Opening). Alls (Sits kind z f) (tail came.r)) (sym openings_are)
                  (alls_tail (Sits kind z (λ v. op' v)) came.r came.sits_cal);
              seen = departs_seen N i.stage.ranges.N_high h cell w5 came.verdict came.vci came.D o1 departs
                  ∙ ap (λ l. l ++ map seen_as (leaving now o1)) i.seen
                  ∙ sym (map_append seen_as i.left (leaving now o1));
              in_time = all_append (InTime (N - 1)) i.left (leaving now o1) i.in_time
                  (in_time_one (N - 1) now (tail came.r) o1 line_moved);
              order = λ v. ap (of_connection connection_in v) cells_are ∙ of_connection_append connection_in v (cells_in h) (map cell_in came.new)
                  ∙ ap (λ l. l ++ of_connection connection_in v (map cell_in came.new)) (i.order v)
                  ∙ sym (of_connection_append connection_in v (map cell_left i.left ++ map cell_in (i.out ++ flat i.cal))
                  (map cell_in came.new))
                  ∙ order_kept now v i.left i.out i.cal came.r came.new (came.order v);
              delays = rw cells_are
                  (all_append (Delayed N) (cells_in h) (map cell_in came.new) i.delays came.delays);
              named = rw cells_are
                  (all_append (Named kind z) (cells_in h) (map cell_in came.new) i.named came.named);
              named_left = all_append (λ p. Named kind z p.cell) i.left (leaving now o1) i.named_left
                  (leaving_named kind z (λ v. op' v) now o1
                  (all_append (Sits kind z (λ v. op' v)) i.out (first came.r) came.sits_out
                  (alls_first (Sits kind z (λ v. op' v)) came.r came.sits_cal)));
              left_rise = subst (λ (k : ℕ). Rising (λ p. p.slot) 0 k (i.left ++ leaving now o1)) (sym slots_are)
                  (left_rises now i.left o1 i.left_rise);
              cells_rise = subst₂ (λ (k : ℕ) (l : List Cell). Rising (λ c. c.arrival) 0 k l) (sym slots_are)
                  (sym cells_are) (came.rises (cells_in h) i.cells_rise);
            }

        new_is : new_in h cell w5.answer ≡ map cell_in came.new
        new_is =
            ap (λ (a : Answer). noted now (half a.verdict a.vci a.d) cell (λ v. opening_of v h)) fin.says ∙ came.notes

        ready_is : map cell_in o1 ≡ ready (new_in h cell w5.answer) (waiting i)
        ready_is =
            map_append cell_in i.out (first came.r)
            ∙ ap (λ l. map cell_in i.out ++ l) (map_first cell_in came.r)
            ∙ ap (λ r. map cell_in i.out ++ first r) came.lies
            ∙ ap (λ new. ready new (waiting i)) (sym new_is)

        rest_is : map (map cell_in) (tail came.r) ≡ tail (entered (new_in h cell w5.answer) (turn (waiting i).cal))
        rest_is =
            map_tail (map cell_in) came.r
            ∙ ap tail came.lies
            ∙ ap (λ new. tail (entered new (turn (waiting i).cal))) (sym new_is)

        heads_is : map cell_in (tail o1) ≡ tail (ready (new_in h cell w5.answer) (waiting i))
        heads_is = map_tail cell_in o1 ∙ ap tail ready_is

        ran_all : Ran N z kind h (waiting i) cell w5
        unfolding inv_after
        ran_all =
            record {
              inv = inv_after;
              number = ap (λ (a : Answer). a.number) fin.says;
              says = ap (λ (a : Answer). judged_of a.verdict a.vci a.d) fin.says ∙ sym came.judges;
              waits_on_lem = λ j. record { out = heads_is j; cal = rest_is j };
              left = subst (λ l. LeftAs l w5) ready_is
                  (left_as N i.stage.ranges.N_high h cell w5 came.verdict came.vci came.D o1 departs);
            }

    -- the five steps, one after the other
    pub five_steps_lem : (x : ℕ) → is_free_space s.bits x ≡ true → length cell =? 0 || length cell =? 53 ≡ true
        → Goes (five_steps x cell (work_of s (bare_answer 0))) (Ran N z kind h (waiting i) cell)
    unfolding five_steps
    five_steps_lem x free fits =
        record {
          work = g5.work;
          goes = through;
          holds = ran_all g3.work g4.work g5.work g3.holds g4.holds.answer_kept g5.holds moded;
        }
      where
        w0 : Work
        w0 = work_of s (bare_answer 0)

        g1 : Goes (step1 w0) (Ticked kind op i.out (turn i.cal) now N z now w0)
        g1 = step1_goes kind op i.out (turn i.cal) now N z w0 i.stage

        g2 : Goes (step2 g1.work) (Ticked kind op i.out (turn i.cal) now N z (suc now) g1.work)
        g2 = step2_goes kind op i.out (turn i.cal) now N z g1.work g1.holds.stage

        still_free : is_free_space g2.work.state.bits x ≡ true
        still_free = ap (λ (l : List ℕ). is_free_space l x) (g2.holds.bits_kept ∙ g1.holds.bits_kept) ∙ free

        g3 : Goes (step3 x cell g2.work) (Came N z kind now cell op i.out i.cal)
        g3 =
            step3_goes x now cell op i.out i.cal N z kind g2.work g2.holds.stage still_free i.good i.sits_out
            i.sits_cal (g2.holds.answer_kept ∙ g1.holds.answer_kept) fits

        c : Came N z kind now cell op i.out i.cal g3.work
        c = g3.holds

        op3 : ℕ → Option Opening
        op3 v = onward now cell c.verdict c.vci op v

        g4 : Goes (step4 g3.work) (Sent now kind op3 N z (i.out ++ first c.r) (turn (tail c.r)) g3.work)
        g4 = step4_goes now kind op3 i.out N z g3.work c.r c.stage

        mv : Moved due_of (N - 1) now (tail c.r) (i.out ++ first c.r)
        mv = move due_of (N - 1) now c.r i.out c.arrived

        g5 : Goes (step5 g4.work) (Gone N z kind now op3 (i.out ++ first c.r) (turn (tail c.r)) g4.work)
        g5 = step5_goes now op3 (turn (tail c.r)) N z kind g4.work (i.out ++ first c.r) g4.holds.stage
            (all_append (Sits kind z op3) i.out (first c.r) c.sits_out (alls_first (Sits kind z op3) c.r c.sits_cal))
            (omega (arith, turn_sums one (tail c.r), mv.room, i.stage.ranges.N_low))

        through : five_steps x cell w0 ≡ next g5.work
        through = rw (g1.goes, g2.goes, g3.goes, g4.goes, g5.goes)

        moded : Moded s.ctl g5.work
        moded =
            subst (AllOut (Moded s.ctl)) through
            (steps_moded s.ctl x cell w0 (refl, refl))

    -- a slot that is served, and one that is refused, with 9
    module _ (x : ℕ) where
      pub unchecked_served : is_free_space s.bits x ≡ true → length cell =? 0 || length cell =? 53 ≡ true
          → Ran N z kind h (waiting i) cell (unchecked_slot_at x s cell)
      unfolding unchecked_slot_at finish
      unchecked_served free fits = subst (Ran N z kind h (waiting i) cell) (sym is) (five_steps_lem x free fits).holds
        where
          is : unchecked_slot_at x s cell ≡ (five_steps_lem x free fits).work
          is = rw (ranges_at, lengths_at, fits, (five_steps_lem x free fits).goes)

      pub unchecked_refused : length cell =? 0 || length cell =? 53 ≡ false → unchecked_slot_at x s cell ≡ work_of s (bare_answer 9)
      unfolding unchecked_slot_at
      unchecked_refused fits = rw (ranges_at, lengths_at, fits)
