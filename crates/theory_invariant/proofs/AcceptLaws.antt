-- Step 3 where the leak rules let the cell in, accepted or tagged: whichever free space x it takes, no test of refusal 3
-- fails, and the cell joins the entry of its due slot.
use Prim.Native.Nat.{ℕ, suc, ◌+◌, ◌-◌, ◌%◌, ◌≤◌, ◌<◌}
use mathlib.Core.Path.{◌≡◌, refl, sym, ap, ◌∙◌, subst}
use mathlib.Core.Bool.{true, ◌&&◌, false}
use mathlib.Core.List.{List, [], ◌∷◌, ◌++◌}
use mathlib.Core.Option.{Option, none, some}
use native.Mathlib.Decide.{ℕ_discrete}
use native.Mathlib.Omega.{arith}
use borrow.Author.Tests.{ne_eqb, lt-ltb}
use lib.ListN.{length, set}
use Rattle.meaning.specs.Plain.{◌=?◌, next}
use Rattle.meaning.specs.Numbers.{connections_in, unused, empty, accepted, lets_in}
use Rattle.meaning.specs.State.{State, with_record, record_with, with_cells, with_links, with_calendar, with_words, with_bits, with_arrived, with_free, write_cell}
use Rattle.meaning.specs.Bits.{is_free_space, taken, marked}
use Rattle.meaning.specs.Header.{header_at, clp_in, connection, names_connection}
use Rattle.meaning.specs.Bucket.{bucket_of, delay, fill}
use Rattle.meaning.specs.Words.{Connection, connection_at, write_connection, with_waiting, with_buckets}
use Rattle.meaning.specs.Lists.{entry_at, write_entry, Grown, join_head}
use Rattle.meaning.specs.Work.{Work, bare_answer, with_state, with_connection, with_arrival}
use Rattle.meaning.specs.Arrival.{second_after, sent_as, place, accept}
use Rattle.meaning.proofs.TaggedLaws.{sent_length, sent_connection, sent_named}
use Rattle.meaning.proofs.WordsLaws.{write_length, write_read, write_read_other}
use Rattle.meaning_runs.specs.Leak.{Opening, due_time, due_slot, leak_accepts, sustains, verdict_by}
use Rattle.meaning_runs.specs.Seen.{of_connection}
use Rattle.meaning_runs.specs.Judged.{judged_of, judged_by}
use Rattle.theory_queues.specs.Queue.{sum, sums, one, All, Alls, turn, put, Good}
use Rattle.theory_queues.proofs.QueueLaws.{map_put, map_turn, turn_sums, turn_flat, put_sums, all_map, alls_map, alls_turn, alls_put}
use Rattle.theory_queues.proofs.LineLaws.{arrive_some, timed_turn}
use Rattle.theory_queues.proofs.OrderLaws.{put_order}
use Rattle.theory_queues.proofs.RisingLaws.{rising_add}
use Rattle.theory_chains.proofs.CountLaws.{is_no, is_same}
use Rattle.theory_table.specs.Stored.{stored, ConnectionIs, OpenConnection}
use Rattle.theory_table.proofs.ClockLaws.{clock_next}
use Rattle.theory_table.proofs.LeakLaws.{due_grows, rules_are}
use Rattle.theory_table.proofs.VerdictLaws.{verdict_says}
use Rattle.theory_table.proofs.ConnectionLaws.{delay_due, delay_low, moved, filled, filled_open}
use Rattle.theory_memory.specs.Held.{Queued, due_of, vci_of}
use Rattle.theory_memory.proofs.HasLaws.{entry_fits, some_number, placed}
use Rattle.theory_memory.proofs.DatesLaws.{dates_placed}
use Rattle.theory_invariant.specs.Invariant.{cell_in, is_of, waits, Under, Sits, Stage}
use Rattle.theory_invariant.specs.Came.{onward, Came}
use Rattle.theory_invariant.proofs.StepLaws.{Goes}
use Rattle.theory_invariant.proofs.LengthLaws.{connections_few}
use Rattle.theory_invariant.proofs.AfterLaws.{after_own, after_other, sits_after, waits_low}

module _ (x now : ℕ) (cell : List ℕ) (op : ℕ → Option Opening) (out : List Queued) (cal : List (List Queued))
    (w : Work) where
  abbrev s : State
  s = w.state

  abbrev N : ℕ
  N = s.ctl.n

  abbrev z : ℕ
  z = s.ctl.v

  abbrev kind : ℕ
  kind = s.ctl.kind

  module _ (st : Stage N z kind (suc now) (suc now) s.ctl.turn s op out (turn cal)) (free : is_free_space s.bits x ≡ true)
      (good : Good due_of (N - 1) now cal out)
      (sits_out : All (Sits kind z op) out) (sits_cal : Alls (Sits kind z op) cal) (blank : w.answer ≡ bare_answer 0)
      (long : length cell ≡ 53)
      (u : ℕ) (named : names_connection z (header_at kind cell 0) ≡ true) (u-is : connection z (header_at kind cell 0) ≡ u)
      (u-high : u < connections_in z)
      (o : Opening) (o_is : op u ≡ some o) (opn : OpenConnection N (connections_in z) (suc now) u (connection_at s.words u) (waits u out (turn cal)) o)
      (verdict : ℕ) (verdict_is : verdict_by o (clp_in cell) now ≡ verdict) (lets : lets_in verdict ≡ true)
      (judges : judged_by kind z now op cell ≡ judged_of verdict u (due_slot o now - now)) where
    abbrev clp : ℕ
    clp = clp_in cell

    abbrev sent : List ℕ
    sent = sent_as verdict cell

    within_peak : leak_accepts o now ≡ true
    within_peak = (verdict_says o clp now).0 (rw verdict_is lets)

    within_rate : clp =? 0 && verdict =? accepted ≡ true → sustains o now ≡ true
    within_rate e = (verdict_says o clp now).1 (rw verdict_is e)

    abbrev q : ℕ
    q = waits u out (turn cal)

    abbrev vc : Connection
    vc = stored o (suc now) q

    abbrev D : ℕ
    D = delay vc.bucket

    abbrev full : Connection
    full = with_waiting (with_buckets vc (fill vc.bucket) (second_after clp verdict vc.second)) (q + 1)

    abbrev e : ℕ
    e = (s.ctl.turn + D) % N

    abbrev grown : Grown
    grown = join_head s.links (entry_at s.calendar e) x

    low : N ≤ empty
    low = omega (arith, st.ranges.N_high)

    D_low : D < N
    D_low = delay_low N (connections_in z) (connections_few N z st.ranges) o now q opn.rules within_peak

    D_due : due_slot o now ≡ now + D
    D_due = delay_due N (connections_in z) (connections_few N z st.ranges) o now q

    room : sums one (turn cal) + sum one out < N
    room = omega (arith, turn_sums one cal, good.room, st.ranges.N_low)

    abbrev new : Queued
    new = record {
      cell = record { vci = u; arrival = now; D = D; time = due_time o now; due = due_slot o now; octets = sent };
      space = x;
    }

    abbrev work : Work
    work =
        let w1 = with_arrival (with_connection w u full) verdict u D in
        let s1 = with_free w1.state (s.ctl.free - 1) (marked (taken s.bits x) e) in
        let s2 = with_cells s1 (write_cell s.cells x sent) in
        let s3 = with_links s2 grown.links in
        let s4 = with_calendar s3 (write_entry s.calendar e grown.ends) in
        with_state w1 (with_arrived s4 (set s.arrived x s.ctl.t))

    goes : accept x cell verdict u w vc ≡ next work
    unfolding accept place with_free with_bits with_arrived with_cells with_links with_calendar with_words with_record record_with
    goes =
        rw (
          lt-ltb q N (omega (arith, waits_low u (N - 1) out (turn cal) (omega (arith, room)), st.ranges.N_low)),
          st.has.spaces_fit_lem,
          ne_eqb s.ctl.free 0 (some_number low st.has room),
          free,
          entry_fits low st.has D D_low,
        )

    entered : sums (is_of u) (put D new (turn cal)) ≡ suc (sums (is_of u) (turn cal))
    entered = omega (arith, put_sums (is_of u) D new (turn cal) (omega (arith, st.has.wide, D_low)), is_same u)

    each : (v : ℕ) → unused z v ≡ false → v < connections_in z → Dec (v ≡ u) → ConnectionIs N (connections_in z) (suc now) v (connection_at (write_connection s.words u full) v)
        (waits v out (put D new (turn cal))) (onward now cell verdict u op v)
    each v h1 h2 (yes p) =
        subst (λ (i : ℕ). ConnectionIs N (connections_in z) (suc now) i (connection_at (write_connection s.words u full) i) (waits i out (put D new (turn cal)))
        (onward now cell verdict u op i)) (sym p)
        (rw (
          write_read s.words u full (omega (arith, st.words_long, u-high)),
          after_own now clp verdict u lets op u refl,
          o_is,
          filled N (connections_in z) (connections_few N z st.ranges) o now q clp verdict,
        )
        (subst (λ (i : ℕ). OpenConnection N (connections_in z) (suc now) u (stored (moved N (connections_in z) (connections_few N z st.ranges) now clp verdict o) (suc now) (suc q)) i
        (moved N (connections_in z) (connections_few N z st.ranges) now clp verdict o)) (omega (arith, entered))
        (filled_open N (connections_in z) (connections_few N z st.ranges) o now (suc now) u q clp verdict (connection_at s.words u) within_peak within_rate (omega arith)
        opn)))
    each v h1 h2 (no p) =
        rw (write_read_other s.words u full v p, after_other now clp verdict u lets op v (λ y. p (sym y)))
        (subst (λ (i : ℕ). ConnectionIs N (connections_in z) (suc now) v (connection_at s.words v) i (op v)) same (st.table v h1 h2))
      where
        same : waits v out (turn cal) ≡ waits v out (put D new (turn cal))
        same = omega (arith, put_sums (is_of v) D new (turn cal) (omega (arith, st.has.wide, D_low)), is_no v u p)

    behind : (b : Queued) → Sits kind z op b → vci_of b ≡ u → due_of b < due_of new
    behind b p y = go (op (vci_of b)) (ap op y ∙ o_is) p.2
      where
        go : (a : Option Opening) → a ≡ some o → Under a b.cell → due_of b < due_slot o now
        go none k t = absurd t
        go (some a) k t = ended (rw same at t)
          where
            same : a ≡ o
            same = cc

            ended : Under (some o) b.cell → due_of b < due_slot o now
            ended t = omega (arith, t.0, due_grows o b.cell.time now t.2 t.1)

    sits_new : Sits kind z (λ v. onward now cell verdict u op v) new
    unfolding due_slot
    sits_new = (
      sent_named kind z verdict cell (omega (arith, long)) ∙ named,
      sent_connection kind z verdict cell (omega (arith, long)) ∙ u-is,
      rw (after_own now clp verdict u lets op u refl, o_is)
          (refl, omega arith, (rules_are N (bucket_of o.m o.F o.C 0) opn.rules).F_low),
    )

    less : D ≡ due_slot o now - now
    less = omega (arith, D_due)

    pub accept_goes : Goes (accept x cell verdict u w vc) (Came N z kind now cell op out cal)
    unfolding with_free with_bits with_arrived with_cells with_links with_calendar with_words with_record record_with
    accept_goes =
        record {
          work = work;
          goes = goes;
          holds = record {
            verdict = verdict;
            vci = u;
            D = D;
            says = rw blank;
            judges = judges ∙ ap (judged_of verdict u) (sym less);
            new = new ∷ [];
            r = put D new (turn cal);
            stage = record {
              ranges = st.ranges;
              n_is = st.n_is;
              v_is = st.v_is;
              t_is = st.t_is;
              turn_low = st.turn_low;
              rotation_is = st.rotation_is;
              kind_is = st.kind_is;
              kind_fits = st.kind_fits;
              has = placed low st.has x free D new D_low refl (sent_length verdict cell ∙ long);
              dates = dates_placed st.has st.dates x free D new refl s.ctl.t (st.t_is ∙ clock_next now);
              words_long = write_length s.words u full ∙ st.words_long;
              table = λ v h1 h2. each v h1 h2 (ℕ_discrete v u);
            };
            arrived = arrive_some due_of (N - 1) now cal out D new (omega (arith, D_low)) D_due good;
            sits_out = all_map (Sits kind z op) (Sits kind z (λ v. onward now cell verdict u op v)) (sits_after now clp verdict u lets op kind z) out sits_out;
            sits_cal = alls_put (Sits kind z (λ v. onward now cell verdict u op v)) D new (turn cal) sits_new
                (alls_turn (Sits kind z (λ v. onward now cell verdict u op v)) cal
                (alls_map (Sits kind z op) (Sits kind z (λ v. onward now cell verdict u op v)) (sits_after now clp verdict u lets op kind z) cal sits_cal));
            order =
                λ v. put_order vci_of due_of v now D new (turn cal) (omega (arith, st.has.wide, D_low))
                (timed_turn due_of now cal good.timed) D_due
                (alls_turn (λ b. vci_of b ≡ u → due_of b < due_of new) cal
                (alls_map (Sits kind z op) (λ b. vci_of b ≡ u → due_of b < due_of new) behind cal sits_cal))
                ∙ ap (λ l. of_connection vci_of v l ++ of_connection vci_of v (new ∷ [])) (turn_flat cal);
            lies = map_put cell_in D new (turn cal) ∙ ap (put D new.cell) (map_turn cell_in cal);
            notes = rw (lets, o_is);
            delays = ((D_due, D_low), tt);
            named = ((sits_new.0, sits_new.1), tt);
            rises = λ l k. rising_add (λ c. c.arrival) 0 now l new.cell (omega arith) k;
          };
        }
