-- Each step of an unwrapped slot keeps every open connection as near as rotation promises, and step 2 restores what the tick
-- takes from the connection that rotation names.
use Prim.Native.Nat.{ℕ, ◌+◌, ◌-◌, ◌%◌, ◌≤◌, ◌<◌}
use mathlib.Core.Path.{◌≡◌, sym, ◌∙◌, ap, ap₂}
use mathlib.Core.Logic.{◌≢◌}
use mathlib.Core.Bool.{true, false, not, ◌&&◌}
use mathlib.Core.List.{List}
use native.Mathlib.Omega.{arith}
use native.Mathlib.Decide.{ℕ_discrete}
use borrow.Author.Tests.{eqb-true, not-false}
use lib.ListN.{length}
use Rattle.meaning.specs.Plain.{◌<?◌, ◌≤?◌, ◌=?◌}
use Rattle.meaning.specs.Numbers.{excess, unknown, cell_start, connections_in, unused, kind_in_range}
use Rattle.meaning.specs.State.{output_list, with_record, with_cells, with_links, with_calendar, with_words}
use Rattle.meaning.specs.State.{record_with, with_clock, with_bits, with_arrived, with_free, with_output_list}
use Rattle.meaning.specs.Bits.{is_free_space, spaces_fit}
use Rattle.meaning.specs.Header.{header_at, clp_in, no_user_cell, connection, names_connection, names_open}
use Rattle.meaning.specs.Bucket.{fill, delay}
use Rattle.meaning.specs.Words.{Connection, connection_at, with_waiting, with_buckets, open_word_fits, buckets_fit, fallen_to}
use Rattle.meaning.specs.Lists.{is_empty, ends_fit, entry_at, take_head}
use Rattle.meaning.specs.Work.{Work, with_connection, with_arrival}
use Rattle.meaning.specs.Arrival.{verdict_on, second_after, place, accept, judge}
use Rattle.meaning.specs.Slot.{step4, depart, step5}
use Rattle.meaning.proofs.NamesLaws.{names_low, names_used}
use Rattle.meaning_runs.proofs.OutLaws.{AllOut, needs_all, if_all, then_all, any_all}
use Rattle.theory_clock.specs.Unwrapped.{caught_up, tick, rotate, arrive}
use Rattle.theory_clock.specs.Kept.{since, longest, Behind, Recent}
use Rattle.theory_clock.proofs.Outs.{both_true}
use Rattle.theory_clock.proofs.Steps.{open_names}
use Rattle.theory_clock.proofs.Since.{since_next, rotation_low, recent_write}

-- in the midst of a slot: V, the slots served with this one, rotation, and how far behind each connection may be
pub record On (z k r : ℕ) (most : ℕ → ℕ) (w : Work) : Type 0 where
  pub v_is : w.state.ctl.v ≡ z
  pub t_is : w.state.ctl.t ≡ k
  pub r_is : w.state.ctl.rotation ≡ r
  pub done : w.answer.number ≡ 0
  pub recent : Recent z k most w.state.words

pub on_near : (z k r : ℕ) (most : ℕ → ℕ) (w : Work) → On z k r most w
    → ((v : ℕ) → unused z v ≡ false → v < connections_in z → most v ≤ longest)
    → (v : ℕ) → unused w.state.ctl.v v ≡ false → v < connections_in w.state.ctl.v
    → Behind w.state.ctl.t longest (connection_at w.state.words v)
on_near z k r most w h low v a b o =
    let used : unused z v ≡ false = ap (λ (n : ℕ). unused n v) (sym h.v_is) ∙ a in
    let c : v < connections_in z = omega (arith, h.v_is) in
    let d = h.recent.behind v used c o in
    (omega (arith, h.t_is, d), omega (arith, h.t_is, d, low v used c))

-- a connection that is written, no further behind than it may be
on_write : (z k r : ℕ) (most : ℕ → ℕ) (w : Work) (v : ℕ) (vc : Connection) → v < connections_in z → On z k r most w → Behind k (most v) vc
    → On z k r most (with_connection w v vc)
unfolding with_words
on_write z k r most w v vc low h b =
    record {
      v_is = h.v_is;
      t_is = h.t_is;
      r_is = h.r_is;
      done = h.done;
      recent = recent_write z k most w.state.words v vc low h.recent.long (λ u p q _. h.recent.behind u p q) b;
    }

-- a connection brought up to date is not behind at all
caught_near : (N k most : ℕ) (vc : Connection) → AllOut (Behind k most) (caught_up N k vc)
unfolding caught_up fallen_to
caught_near N k most vc = needs_all (Behind k most) (buckets_fit N vc) _ (λ _ o. (omega arith, omega arith))

caught_on : (z k r : ℕ) (most : ℕ → ℕ) (w : Work) → On z k r most w → (bound v : ℕ)
    → AllOut (Behind k bound) (caught_up w.state.ctl.n w.state.ctl.t (connection_at w.state.words v))
caught_on z k r most w h bound v = rw h.t_is (caught_near w.state.ctl.n k bound (connection_at w.state.words v))

-- 1: one slot further behind
pub tick_on : (z k r : ℕ) (most : ℕ → ℕ) (w : Work) → On z k r most w
    → AllOut (On z (k + 1) ((r + 1) % connections_in z) (λ v. most v + 1)) (tick w)
unfolding tick with_clock with_record record_with
tick_on z k r most w h =
    let c = w.state.ctl in
    needs_all (On z (k + 1) ((r + 1) % connections_in z) (λ v. most v + 1)) (c.turn <? c.n && c.rotation <? connections_in c.v) _
    (λ _. record {
      v_is = h.v_is;
      t_is = ap (λ (n : ℕ). n + 1) h.t_is;
      r_is = rw (h.r_is, h.v_is);
      done = h.done;
      recent = record {
        long = h.recent.long;
        behind = λ v a b o. let d = h.recent.behind v a b o in (omega (arith, d), omega (arith, d));
      };
    })

-- 2: the connection that rotation names is behind no more
pub rotate_on : (z k r₀ : ℕ) (w : Work) → r₀ < connections_in z
    → On z k ((r₀ + 1) % connections_in z) (λ v. since (connections_in z) r₀ v + 1) w
    → AllOut (On z k ((r₀ + 1) % connections_in z) (since (connections_in z) ((r₀ + 1) % connections_in z))) (rotate w)
unfolding rotate with_words open_word_fits
rotate_on z k r₀ w low h =
    let s = w.state in
    let vci = s.ctl.rotation in
    let vc = connection_at s.words vci in
    if_all Q (unused s.ctl.v vci) _ _ (λ e. kept (λ v a b same. absurd (nobody v a same e)))
    (λ _. needs_all Q (vc.opened ≤? 1) _
    (λ _. if_all Q (vc.opened =? 0) _ _
    (λ e. kept (λ v a b same o. absurd (o (ap (λ (u : ℕ). (connection_at s.words u).opened) (same ∙ sym h.r_is) ∙ eqb-true vc.opened 0 e))))
    (λ _. then_all (Behind k (since (connections_in z) r vci)) Q (caught_up s.ctl.n s.ctl.t vc) _
    (caught_on z k r (λ v. since (connections_in z) r₀ v + 1) w h (since (connections_in z) r vci) vci)
    (λ now b. record {
      v_is = h.v_is;
      t_is = h.t_is;
      r_is = h.r_is;
      done = h.done;
      recent = recent_write z k (since (connections_in z) r) s.words vci now (omega (arith, h.r_is, rotation_low (connections_in z) r₀ low)) h.recent.long
          (λ u p q ne. others u p q (λ e. ne (e ∙ sym h.r_is))) b;
    }))))
  where
    r : ℕ
    r = (r₀ + 1) % connections_in z

    Q : Work → Type 0
    Q = On z k r (since (connections_in z) r)

    nobody : (v : ℕ) → unused z v ≡ false → v ≡ r → unused w.state.ctl.v w.state.ctl.rotation ≡ true → ⊥
    nobody v a same e =
        let f : unused z v ≡ true = ap₂ unused (sym h.v_is) (same ∙ sym h.r_is) ∙ e in
        let k : ◌≡◌ {A = ℕ} 0 1 = cc in
        omega arith

    others : (u : ℕ) → unused z u ≡ false → u < connections_in z → u ≢ r → Behind k (since (connections_in z) r u) (connection_at w.state.words u)
    others u p q ne = rw (since_next (connections_in z) r₀ u low q ne) (h.recent.behind u p q)

    kept : ((u : ℕ) → unused z u ≡ false → u < connections_in z → u ≡ r → Behind k (since (connections_in z) r u) (connection_at w.state.words u)) → Q w
    kept named =
        record {
          v_is = h.v_is;
          t_is = h.t_is;
          r_is = h.r_is;
          done = h.done;
          recent = record { long = h.recent.long; behind = λ u p q. go u p q (ℕ_discrete u r) };
        }
      where
        go : (u : ℕ) → unused z u ≡ false → u < connections_in z → Dec (u ≡ r) → Behind k (since (connections_in z) r u) (connection_at w.state.words u)
        go u p q (yes e) = named u p q e
        go u p q (no ne) = others u p q ne

-- 3: an arrival brings its connection up to date, and else keeps `last`
pub judge_on : (z k r : ℕ) (most : ℕ → ℕ) (x : ℕ) (cell : List ℕ) (v : ℕ) (w : Work) (vc : Connection) → v < connections_in z → On z k r most w
    → Behind k (most v) vc → AllOut (On z k r most) (judge x cell v w vc)
unfolding judge accept place with_words with_cells with_links with_calendar with_free with_bits with_arrived with_record record_with
judge_on z k r most x cell v w vc low h b =
    let s = w.state in
    let clp = clp_in cell in
    let verdict = verdict_on clp vc in
    let filled = with_waiting (with_buckets vc (fill vc.bucket) (second_after clp verdict vc.second)) (vc.waiting + 1) in
    let h1 = on_write z k r most w v filled low h b in
    let h2 = on_write z k r most w v vc low h b in
    if_all Q (verdict =? excess) _ _
    (λ _. record { v_is = h2.v_is; t_is = h2.t_is; r_is = h2.r_is; done = h2.done; recent = h2.recent })
    (λ _. needs_all Q (vc.waiting <? s.ctl.n) _
    (λ _. needs_all Q (spaces_fit s.ctl.n s.ctl.free s.bits && not (s.ctl.free =? 0)) _
    (λ _. needs_all Q (is_free_space s.bits x) _
    (λ _. needs_all Q (ends_fit s.ctl.n (entry_at s.calendar ((s.ctl.turn + delay vc.bucket) % s.ctl.n))) _
    (λ _. record { v_is = h1.v_is; t_is = h1.t_is; r_is = h1.r_is; done = h1.done; recent = h1.recent })))))
  where
    Q : Work → Type 0
    Q = On z k r most

pub arrive_on : (z k r : ℕ) (most : ℕ → ℕ) (x : ℕ) (cell : List ℕ) (w : Work) → On z k r most w
    → AllOut (On z k r most) (arrive x cell w)
unfolding arrive
arrive_on z k r most x cell w h =
    let s = w.state in
    let a = header_at s.ctl.kind cell 0 in
    let c = connection s.ctl.v a in
    let vc = connection_at s.words c in
    if_all Q (length cell =? 0) _ _ (λ _. h)
    (λ _. needs_all Q (kind_in_range s.ctl.kind) _
    (λ _. if_all Q (no_user_cell a) _ _ (λ _. h)
    (λ _. if_all Q (not (names_connection s.ctl.v a)) _ _ (λ _. same)
    (λ e. let low = names_low s.ctl.v a (not-false (names_connection s.ctl.v a) e) in
    needs_all Q (open_word_fits vc) _
    (λ _. if_all Q (vc.opened =? 0) _ _ (λ _. same)
    (λ _. then_all (Behind k (most c)) Q (caught_up s.ctl.n s.ctl.t vc) _
    (caught_on z k r most w h (most c) c)
    (λ now b. judge_on z k r most x cell c w now (omega (arith, low, h.v_is)) h b)))))))
  where
    Q : Work → Type 0
    Q = On z k r most

    same : On z k r most (with_arrival w unknown (header_at w.state.ctl.kind cell 0).vci 0)
    same = record { v_is = h.v_is; t_is = h.t_is; r_is = h.r_is; done = h.done; recent = h.recent }

-- 4: no connection is touched
pub step4_on : (z k r : ℕ) (most : ℕ → ℕ) (w : Work) → On z k r most w → AllOut (On z k r most) (step4 w)
unfolding step4 with_bits with_calendar with_links with_output_list with_record record_with
step4_on z k r most w h =
    let s = w.state in
    let entry = entry_at s.calendar s.ctl.turn in
    needs_all (On z k r most) (ends_fit s.ctl.n entry && ends_fit s.ctl.n (output_list s)) _
    (λ _. if_all (On z k r most) (is_empty entry) _ _ (λ _. h)
    (λ _. record { v_is = h.v_is; t_is = h.t_is; r_is = h.r_is; done = h.done; recent = h.recent }))

-- 5: a departure keeps `last`
pub step5_on : (z k r : ℕ) (most : ℕ → ℕ) (w : Work) → On z k r most w → AllOut (On z k r most) (step5 w)
unfolding step5 depart with_words with_free with_bits with_output_list with_record record_with
step5_on z k r most w h =
    let s = w.state in
    if_all Q (is_empty (output_list s)) _ _ (λ _. h)
    (λ _. any_all Q (take_head s.ctl.n s.links (output_list s)) _
    (λ taken. let a = header_at s.ctl.kind s.cells (cell_start taken.space) in
    let c = connection s.ctl.v a in
    let vc = connection_at s.words c in
    needs_all Q (kind_in_range s.ctl.kind && names_open s.ctl.v s.words a) _
    (λ e. let named = open_names s.ctl.v s.words a
    (both_true (kind_in_range s.ctl.kind) (names_open s.ctl.v s.words a) e).1 in
    let used : unused z c ≡ false = ap (λ (n : ℕ). unused n c) (sym h.v_is) ∙ names_used s.ctl.v a named in
    let low : c < connections_in z = omega (arith, names_low s.ctl.v a named, h.v_is) in
    let h1 = on_write z k r most w c (with_waiting vc (vc.waiting - 1)) low h (h.recent.behind c used low) in
    needs_all Q (1 ≤? vc.waiting && vc.waiting ≤? s.ctl.n) _
    (λ _. needs_all Q (spaces_fit s.ctl.n s.ctl.free s.bits && not (is_free_space s.bits taken.space)) _
    (λ _. record { v_is = h1.v_is; t_is = h1.t_is; r_is = h1.r_is; done = h1.done; recent = h1.recent })))))
  where
    Q : Work → Type 0
    Q = On z k r most
