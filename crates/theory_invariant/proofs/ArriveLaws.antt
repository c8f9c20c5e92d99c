-- Step 3 of a slot, from the invariant, x being any free space: nothing, unknown, excess, tagged or accepted, as the header and
-- the leak rules say, and never refused.
use Prim.Native.Nat.{ℕ, suc, ◌-◌, ◌<◌}
use mathlib.Core.Path.{◌≡◌, refl, sym, ap, ◌∙◌, subst, subst₂, fun_ext}
use mathlib.Core.Logic.{◌≢◌}
use mathlib.Core.Bool.{Bool, true, false, ◌||◌}
use mathlib.Core.List.{List, [], append-nil}
use mathlib.Core.Option.{Option, none, some}
use native.Mathlib.Decide.{ℕ_discrete}
use native.Mathlib.Omega.{arith}
use borrow.Author.Tests.{eq-eqb, ne_eqb, eqb-true}
use lib.ListN.{length}
use Rattle.meaning.specs.Plain.{when◌then◌else◌, ◌=?◌, next}
use Rattle.meaning.specs.Numbers.{connections_in, unused, excess, unknown, nothing, lets_in}
use Rattle.meaning.specs.State.{State, with_words}
use Rattle.meaning.specs.Bits.{is_free_space}
use Rattle.meaning.specs.Header.{Header, header_at, clp_in, no_user_cell, connection, names_connection}
use Rattle.meaning.specs.Words.{Connection, connection_at, write_connection, up_to_date}
use Rattle.meaning.specs.Work.{Work, bare_answer, with_connection, with_arrival}
use Rattle.meaning.specs.Arrival.{judge}
use Rattle.meaning.specs.Slot.{step3}
use Rattle.meaning.proofs.NamesLaws.{names_low, names_used}
use Rattle.meaning.proofs.WordsLaws.{write_length, write_read, write_read_other}
use Rattle.meaning_runs.specs.Leak.{Opening, due_slot, verdict_by}
use Rattle.meaning_runs.specs.Seen.{of_connection}
use Rattle.meaning_runs.specs.Judged.{judged_of, judged_under, judged_by}
use Rattle.theory_queues.specs.Queue.{All, Alls, flat, turn, Good}
use Rattle.theory_queues.proofs.QueueLaws.{map_turn, turn_flat, alls_turn}
use Rattle.theory_queues.proofs.LineLaws.{arrive_none}
use Rattle.theory_queues.proofs.RisingLaws.{rising_up}
use Rattle.theory_table.specs.Stored.{stored, ConnectionIs, OpenConnection}
use Rattle.theory_table.proofs.ClockLaws.{clock_next}
use Rattle.theory_table.proofs.VerdictLaws.{verdict_is, verdict_says}
use Rattle.theory_table.proofs.ConnectionLaws.{word_fits, up_to_date_lem, now_open}
use Rattle.theory_memory.specs.Held.{Queued, due_of, vci_of}
use Rattle.theory_invariant.specs.Invariant.{cell_in, waits, Sits, Stage}
use Rattle.theory_invariant.specs.Came.{after, half, Came}
use Rattle.theory_invariant.proofs.LengthLaws.{connections_few}
use Rattle.theory_invariant.proofs.StepLaws.{Goes}
use Rattle.theory_invariant.proofs.AcceptLaws.{accept_goes}

after_none : (now clp verdict vci : ℕ) (op : ℕ → Option Opening) → lets_in verdict ≡ false
    → (λ v. after now clp verdict vci op v) ≡ op
after_none now clp verdict vci op ne = fun_ext (λ v. rw ne)

-- an excess cell is not let in
not_excess : (verdict : ℕ) → lets_in verdict ≡ true → verdict =? excess ≡ false
unfolding lets_in
not_excess verdict lets = ne_eqb verdict excess (λ e. absurd (let y : ◌≡◌ {A = Bool} false true = rw e at lets in let z : ◌≡◌ {A = ℕ} 0 1 = cc in omega arith))

second : (a b : Bool) → a || b ≡ true → a ≡ false → b ≡ true
second true b e f = absurd (let y : ◌≡◌ {A = ℕ} 0 1 = cc in omega arith)
second false b e f = e

module _ (x now : ℕ) (cell : List ℕ) (op : ℕ → Option Opening) (out : List Queued) (cal : List (List Queued))
  where
    module _ (w : Work) where
      abbrev s : State
      s = w.state

      abbrev N : ℕ
      N = s.ctl.n

      abbrev z : ℕ
      z = s.ctl.v

      abbrev kind : ℕ
      kind = s.ctl.kind

      abbrev h : Header
      h = header_at kind cell 0

      -- the connection that the header names
      abbrev u : ℕ
      u = connection z h

      module _ (st : Stage N z kind (suc now) (suc now) s.ctl.turn s op out (turn cal)) (free : is_free_space s.bits x ≡ true)
          (good : Good due_of (N - 1) now cal out)
          (sits_out : All (Sits kind z op) out) (sits_cal : Alls (Sits kind z op) cal) (blank : w.answer ≡ bare_answer 0) where
        -- no cell is let in
        quiet : (w' : Work) (verdict vci : ℕ) → lets_in verdict ≡ false → w'.answer ≡ half verdict vci 0
            → judged_by kind z now op cell ≡ judged_of verdict vci 0
            → Stage N z kind (suc now) (suc now) w'.state.ctl.turn w'.state op out (turn cal)
            → Came N z kind now cell op out cal w'
        quiet w' verdict vci ne says judges st' =
            record {
              verdict = verdict;
              vci = vci;
              D = 0;
              says = says;
              judges = judges;
              new = [];
              r = turn cal;
              stage = rw (after_none now (clp_in cell) verdict vci op ne) st';
              arrived = arrive_none due_of (N - 1) now cal out good;
              sits_out = rw (after_none now (clp_in cell) verdict vci op ne) sits_out;
              sits_cal = rw (after_none now (clp_in cell) verdict vci op ne) (alls_turn (Sits kind z op) cal sits_cal);
              order = λ v. ap (of_connection vci_of v) (turn_flat cal) ∙ sym (append-nil (of_connection vci_of v (flat cal)));
              lies = map_turn cell_in cal;
              notes = rw ne;
              delays = tt;
              named = tt;
              rises = λ l k. rw (append-nil l) (rising_up (λ c. c.arrival) 0 now (suc now) l (omega arith) k);
            }

        -- the connection is brought up to date, and no more changes
        module _ (u-high : u < connections_in z) (o : Opening) (o_is : op u ≡ some o)
            (opn : OpenConnection N (connections_in z) (suc now) u (connection_at s.words u) (waits u out (turn cal)) o) where
          abbrev vc : Connection
          vc = stored o (suc now) (waits u out (turn cal))

          renewed : (v : ℕ) → unused z v ≡ false → v < connections_in z → Dec (v ≡ u) → ConnectionIs N (connections_in z) (suc now) v (connection_at (write_connection s.words u vc) v)
              (waits v out (turn cal)) (op v)
          renewed v h1 h2 (yes p) =
              rw (p, write_read s.words u vc (omega (arith, st.words_long, u-high)), o_is)
              (now_open N (connections_in z) (connections_few N z st.ranges) now (suc now) u (connection_at s.words u) (waits u out (turn cal)) o (omega arith)
              (omega arith) opn)
          renewed v h1 h2 (no p) = rw (write_read_other s.words u vc v p) (st.table v h1 h2)

          over : judged_by kind z now op cell ≡ judged_of excess u 0
              → Came N z kind now cell op out cal (with_arrival (with_connection w u vc) excess u 0)
          unfolding with_words lets_in
          over judges = quiet (with_arrival (with_connection w u vc) excess u 0) excess u refl (rw blank) judges
              (record {
                ranges = st.ranges;
                n_is = st.n_is;
                v_is = st.v_is;
                t_is = st.t_is;
                turn_low = st.turn_low;
                rotation_is = st.rotation_is;
                kind_is = st.kind_is;
                kind_fits = st.kind_fits;
                has = st.has;
                dates = st.dates;
                words_long = write_length s.words u vc ∙ st.words_long;
                table = λ v h1 h2. renewed v h1 h2 (ℕ_discrete v u);
              })

          brought : up_to_date N s.ctl.t (connection_at s.words u) ≡ next vc
          brought =
              ap (λ (t : ℕ). up_to_date N t (connection_at s.words u)) (st.t_is ∙ clock_next now)
              ∙ up_to_date_lem N (connections_in z) (connections_few N z st.ranges) now (suc now) u (connection_at s.words u) (waits u out (turn cal)) o u-high
              (omega arith) (omega arith) opn

          abbrev verdict : ℕ
          verdict = verdict_by o (clp_in cell) now

          judge_goes : (b : Bool) → lets_in verdict ≡ b → length cell ≡ 53 → names_connection z (h) ≡ true
              → judged_by kind z now op cell ≡ judged_of verdict u (when b then due_slot o now - now else 0)
              → Goes (judge x cell u w vc) (Came N z kind now cell op out cal)
          unfolding judge
          judge_goes true e long named judges =
              rw (verdict_is o (clp_in cell) now (waits u out (turn cal)), not_excess verdict e)
              (accept_goes x now cell op out cal w st free good sits_out sits_cal blank long u named refl u-high o o_is
              opn verdict refl e judges)
          judge_goes false e long named judges =
              rw (verdict_is o (clp_in cell) now (waits u out (turn cal)), eq-eqb verdict excess is)
              (record {
                work = with_arrival (with_connection w u vc) excess u 0;
                goes = refl;
                holds = over (judges ∙ ap (λ (k : ℕ). judged_of k u 0) is);
              })
            where
              is : verdict_by o (clp_in cell) now ≡ excess
              is = (verdict_says o (clp_in cell) now).2 e

        strange : judged_by kind z now op cell ≡ judged_of unknown h.vci 0
            → Came N z kind now cell op out cal (with_arrival w unknown h.vci 0)
        unfolding lets_in
        strange judges = quiet (with_arrival w unknown h.vci 0) unknown h.vci refl (rw blank) judges st

        -- the header names a connection
        module _ (lent : length cell =? 0 ≡ false) (user : no_user_cell h ≡ false)
            (named : names_connection z h ≡ true) (long : length cell ≡ 53) where
          under : judged_by kind z now op cell ≡ judged_under now h.vci u (clp_in cell) (op u)
          unfolding judged_by
          under = rw (lent, user, named)

          known : (a : Option Opening) → op u ≡ a → ConnectionIs N (connections_in z) (suc now) u (connection_at s.words u) (waits u out (turn cal)) a
              → Goes (step3 x cell w) (Came N z kind now cell op out cal)
          unfolding step3
          known none e k =
              record {
                work = with_arrival w unknown h.vci 0;
                goes = rw (
                  lent,
                  st.kind_fits,
                  user,
                  named,
                  word_fits N (connections_in z) (connections_few N z st.ranges) (suc now) u (connection_at s.words u)
                      (waits u out (turn cal)) none k,
                  eq-eqb (connection_at s.words u).opened 0 k,
                );
                holds = strange (under ∙ ap (judged_under now h.vci u (clp_in cell)) e);
              }
          known (some o) e k =
              rw (
                lent,
                st.kind_fits,
                user,
                named,
                word_fits N (connections_in z) (connections_few N z st.ranges) (suc now) u (connection_at s.words u) (waits u out (turn cal)) (some o) k,
                ne_eqb (connection_at s.words u).opened 0 is_open,
                brought names o e k,
              )
              (judge_goes names o e k (lets_in (verdict_by o (clp_in cell) now)) refl long named (under ∙ ap (judged_under now h.vci u (clp_in cell)) e))
            where
              names : u < connections_in z
              names = names_low z h named

              is_open : (connection_at s.words u).opened ≢ 0
              is_open y = omega (arith, ap (λ (c : Connection). c.opened) k.is)

        empty_goes : length cell =? 0 ≡ true → Goes (step3 x cell w) (Came N z kind now cell op out cal)
        unfolding step3 judged_by lets_in
        empty_goes e = record { work = w; goes = rw e; holds = quiet w nothing 0 refl blank (rw e) st }

        no_user_goes : length cell =? 0 ≡ false → no_user_cell h ≡ true → Goes (step3 x cell w) (Came N z kind now cell op out cal)
        unfolding step3 judged_by lets_in
        no_user_goes e f =
            record { work = w; goes = rw (e, st.kind_fits, f); holds = quiet w nothing 0 refl blank (rw (e, f)) st }

        strange_goes : length cell =? 0 ≡ false → no_user_cell h ≡ false → names_connection z h ≡ false
            → Goes (step3 x cell w) (Came N z kind now cell op out cal)
        unfolding step3 judged_by
        strange_goes e f g =
            record {
              work = with_arrival w unknown h.vci 0;
              goes = rw (e, st.kind_fits, f, g);
              holds = strange (rw (e, f, g));
            }

        step3_at : length cell =? 0 || length cell =? 53 ≡ true → Goes (step3 x cell w) (Came N z kind now cell op out cal)
        step3_at fits = go (length cell =? 0) (no_user_cell h) (names_connection z h) refl refl refl
          where
            go : (a b c : Bool) → length cell =? 0 ≡ a → no_user_cell h ≡ b → names_connection z h ≡ c
                → Goes (step3 x cell w) (Came N z kind now cell op out cal)
            go true b c e f g = empty_goes e
            go false true c e f g = no_user_goes e f
            go false false false e f g = strange_goes e f g
            go false false true e f g =
                known e f g (eqb-true (length cell) 53 (second (length cell =? 0) (length cell =? 53) fits e)) (op u) refl
                (st.table u (names_used z h g) (names_low z h g))

    pub step3_goes : (N z kind : ℕ) (w : Work) → Stage N z kind (suc now) (suc now) w.state.ctl.turn w.state op out
        (turn cal) → is_free_space w.state.bits x ≡ true → Good due_of (N - 1) now cal out
        → All (Sits kind z op) out → Alls (Sits kind z op) cal → w.answer ≡ bare_answer 0
        → length cell =? 0 || length cell =? 53 ≡ true
        → Goes (step3 x cell w) (Came N z kind now cell op out cal)
    step3_goes N z kind w st =
        subst (λ (k : ℕ). Stage N z k (suc now) (suc now) w.state.ctl.turn w.state op out (turn cal)
        → is_free_space w.state.bits x ≡ true → Good due_of (N - 1) now cal out
        → All (Sits k z op) out → Alls (Sits k z op) cal → w.answer ≡ bare_answer 0 → length cell =? 0 || length cell =? 53 ≡ true
        → Goes (step3 x cell w) (Came N z k now cell op out cal))
        st.kind_is
        (subst₂ (λ (n v : ℕ). Stage n v w.state.ctl.kind (suc now) (suc now) w.state.ctl.turn w.state op out
        (turn cal) → is_free_space w.state.bits x ≡ true → Good due_of (n - 1) now cal out
        → All (Sits w.state.ctl.kind v op) out → Alls (Sits w.state.ctl.kind v op) cal → w.answer ≡ bare_answer 0
        → length cell =? 0 || length cell =? 53 ≡ true
        → Goes (step3 x cell w) (Came n v w.state.ctl.kind now cell op out cal))
        st.n_is st.v_is (step3_at w)) st
