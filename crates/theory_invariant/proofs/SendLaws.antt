-- Step 4 of a slot, from the invariant: entry T, if marked, joins the end of the Output List and loses its mark, and no test of
-- refusal 3 fails.
use Prim.Native.Nat.{ℕ, suc, ◌+◌, ◌≤◌}
use mathlib.Core.Path.{◌≡◌, refl, subst, subst₂}
use mathlib.Core.List.{List, [], ◌∷◌, ◌++◌, tail, append-nil}
use mathlib.Core.Option.{Option}
use native.Mathlib.Numerals.{add-one}
use native.Mathlib.Omega.{arith}
use Rattle.meaning.specs.Numbers.{empty, connections_in}
use Rattle.meaning.specs.State.{State, output_list, with_record, record_with, with_links, with_calendar, with_bits, with_output_list}
use Rattle.meaning.specs.Bits.{unmarked}
use Rattle.meaning.specs.Words.{connection_at}
use Rattle.meaning.specs.Lists.{empty_list, entry_at, write_entry, Grown, join_tail}
use Rattle.meaning.specs.Work.{Work, with_state}
use Rattle.meaning.specs.Slot.{step4}
use Rattle.meaning_runs.specs.Leak.{Opening}
use Rattle.theory_queues.specs.Queue.{first, turn}
use Rattle.theory_queues.proofs.QueueLaws.{sum_append, turn_sums}
use Rattle.theory_table.specs.Stored.{ConnectionIs}
use Rattle.theory_memory.specs.Held.{Queued}
use Rattle.theory_memory.proofs.HasLaws.{out_fits}
use Rattle.theory_memory.proofs.DatesLaws.{dates_turned}
use Rattle.theory_memory.proofs.MoveLaws.{first_fits, first_bare, passed, first_marked, transferred}
use Rattle.theory_invariant.specs.Invariant.{is_of, waits, Stage}
use Rattle.theory_invariant.proofs.StepLaws.{Goes}

module _ (now kind : ℕ) (op : ℕ → Option Opening) where
  -- after step 4: b is T + 1
  pub record Sent (N z : ℕ) (o : List Queued) (r : List (List Queued)) (w w' : Work) : Type 0 where
    pub answer_kept : w'.answer ≡ w.answer
    pub stage : Stage N z kind (suc now) (suc now) (w'.state.ctl.turn + 1) w'.state op o r

  -- ── step 4 ──
  module _ (o : List Queued) where
    module _ (w : Work) where
      abbrev s : State
      s = w.state

      abbrev N : ℕ
      N = s.ctl.n

      abbrev z : ℕ
      z = s.ctl.v

      abbrev T : ℕ
      T = s.ctl.turn

      moves : (r : List (List Queued)) → Stage N z kind (suc now) (suc now) T s op o r
          → Goes (step4 w) (Sent N z (o ++ first r) (turn (tail r)) w)
      unfolding step4 with_output_list with_links with_calendar with_bits with_record record_with
      moves [] st = absurd (omega (arith, st.has.wide, st.ranges.N_low))
      moves ([] ∷ r) st =
          record {
            work = w;
            goes = rw (
              first_fits low st.turn_low st.has,
              out_fits low st.has,
              first_bare low st.turn_low st.has,
            );
            holds = record {
              answer_kept = refl;
              stage = record {
                ranges = st.ranges;
                n_is = st.n_is;
                v_is = st.v_is;
                t_is = st.t_is;
                turn_low = st.turn_low;
                rotation_is = st.rotation_is;
                kind_is = st.kind_is;
                kind_fits = st.kind_fits;
                has = rw (append-nil o, add-one T)
                    (passed low st.turn_low st.has);
                dates = dates_turned st.dates;
                words_long = st.words_long;
                table = λ v h1 h2. subst (λ (i : ℕ). ConnectionIs N (connections_in z) (suc now) v (connection_at s.words v) i (op v)) (same v)
                    (st.table v h1 h2);
              };
            };
          }
        where
          low : N ≤ empty
          low = omega (arith, st.ranges.N_high)

          same : (v : ℕ) → waits v o ([] ∷ r) ≡ waits v (o ++ []) (turn r)
          same v = omega (arith, sum_append (is_of v) o [], turn_sums (is_of v) r)
      moves ((c ∷ q) ∷ r) st =
          record {
            work = with_state w (with_bits (with_calendar (with_links (with_output_list s grown.ends) grown.links)
                (write_entry s.calendar T empty_list)) (unmarked s.bits T));
            goes = rw (
              first_fits low st.turn_low st.has,
              out_fits low st.has,
              first_marked low st.turn_low st.has,
            );
            holds = record {
              answer_kept = refl;
              stage = record {
                ranges = st.ranges;
                n_is = st.n_is;
                v_is = st.v_is;
                t_is = st.t_is;
                turn_low = st.turn_low;
                rotation_is = st.rotation_is;
                kind_is = st.kind_is;
                kind_fits = st.kind_fits;
                has = rw (add-one T) (transferred low st.turn_low st.has);
                dates = dates_turned st.dates;
                words_long = st.words_long;
                table = λ v h1 h2. subst (λ (i : ℕ). ConnectionIs N (connections_in z) (suc now) v (connection_at s.words v) i (op v)) (same v)
                    (st.table v h1 h2);
              };
            };
          }
        where
          low : N ≤ empty
          low = omega (arith, st.ranges.N_high)

          grown : Grown
          grown = join_tail s.links (output_list s) (entry_at s.calendar T)

          same : (v : ℕ) → waits v o ((c ∷ q) ∷ r) ≡ waits v (o ++ c ∷ q) (turn r)
          same v = omega (arith, sum_append (is_of v) o (c ∷ q), turn_sums (is_of v) r)

    pub step4_goes : (N z : ℕ) (w : Work) (r : List (List Queued))
        → Stage N z kind (suc now) (suc now) w.state.ctl.turn w.state op o r
        → Goes (step4 w) (Sent N z (o ++ first r) (turn (tail r)) w)
    step4_goes N z w r st =
        subst₂ (λ (n v : ℕ). Stage n v kind (suc now) (suc now) w.state.ctl.turn w.state op o r
        → Goes (step4 w) (Sent n v (o ++ first r) (turn (tail r)) w))
        st.n_is st.v_is (moves w r) st
