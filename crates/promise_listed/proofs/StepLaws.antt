-- Each of the five steps of the old form follows that of the new, where a cell takes the head of the Free List.
use Prim.Native.Nat.{ℕ, ◌+◌, ◌%◌, ◌<◌}
use mathlib.Core.Path.{◌≡◌, refl, sym}
use mathlib.Core.Bool.{Bool, true, false, not, ◌&&◌, true≢false}
use mathlib.Core.List.{List}
use native.Mathlib.Nat.{mod-lt}
use native.Mathlib.Omega.{arith}
use lib.ListN.{length}
use Rattle.meaning.specs.Plain.{◌<?◌, ◌≤?◌, ◌=?◌, next, ◌and_then◌}
use Rattle.meaning.specs.Numbers.{cell_start, connections_in, unused, kind_in_range, excess}
use Rattle.meaning.specs.State.{State, Ends, ends_of, output_list, with_record, with_cells, with_links, with_calendar, with_words, with_bits, with_arrived}
use Rattle.meaning.specs.State.{record_with, with_clock, with_free, with_output_list}
use Rattle.meaning.specs.Header.{header_at, clp_in, no_user_cell, connection, names_connection, names_open}
use Rattle.meaning.specs.Bucket.{delay, fill}
use Rattle.meaning.specs.Words.{Connection, connection_at, with_waiting, with_buckets, open_word_fits, up_to_date}
use Rattle.meaning.specs.Bits.{is_free_space, spaces_fit}
use Rattle.meaning.specs.Lists.{Taken, is_empty, ends_fit, entry_at, join_head, join_tail}
use Rattle.meaning.specs.Work.{Work, with_connection, with_arrival}
use Rattle.meaning.specs.Arrival.{place, verdict_on, second_after, sent_as, accept, judge}
use Rattle.meaning.specs.Slot.{step1, step2, step3, step4, step5, depart, five_steps}
use Rattle.meaning_listed.specs.Listed.{ListedWork, beside, place_listed, accept_listed, judge_listed, step3_listed, step4_listed, depart_listed, step5_listed, five_listed}
use Rattle.promise_listed.specs.Tied.{over, TiedAt, Led, Follows}
use Rattle.promise_listed.proofs.FollowLaws.{Any, needs_both, needs_new, if_both, any_both, then_both, needs_on, if_on, any_on}
use Rattle.promise_listed.proofs.ChainLaws.{head_ends, tail_ends}
use Rattle.promise_listed.proofs.TiedLaws.{Some, retimed, free_fits, some_listed, some_marked, head_taken, tied_placed}
use Rattle.promise_listed.proofs.TiedLaws.{queue_some, tied_sent, out_some, new_taken, taken_too, tied_left}

not-true : (a c : Bool) → a && not c ≡ true → c ≡ false
not-true true true e = sym e
not-true true false e = refl
not-true false c e = absurd (true≢false (sym e))

module _ (n : ℕ) (b : List ℕ) where
  -- ── 1 and 2: the clock, and rotation's connection ──
  module _ (P : Ends → Type 0) (w : Work) (list : List ℕ) (free : Ends) (t : TiedAt w.state list free) (holds : P free) where
    pub step1_follows : Follows n b P (step1 w) (beside step1 (over n b w list free))
    unfolding step1 with_clock with_record record_with
    step1_follows =
        let r = w.state.ctl in
        needs_on n b P free (r.turn <? r.n && r.rotation <? connections_in r.v) _ _
        (λ _. record {
          list = list;
          free = free;
          is = refl;
          tied = retimed t ((r.turn + 1) % r.n) (mod-lt (r.turn + 1) (omega (arith, t.turn_low)));
          holds = holds;
        })

    same : Led n b P w (next (over n b w list free))
    same = record { list = list; free = free; is = refl; tied = t; holds = holds }

    pub step2_follows : Follows n b P (step2 w) (beside step2 (over n b w list free))
    unfolding step2 with_words
    step2_follows =
        let s = w.state in
        let c = s.ctl.rotation in
        let conn = connection_at s.words c in
        if_on n b P free (unused s.ctl.v c) _ _ _ _ (λ _. same)
        (λ _. needs_on n b P free (open_word_fits conn) _ _
        (λ _. if_on n b P free (conn.opened =? 0) _ _ _ _ (λ _. same)
        (λ _. any_on n b P free (up_to_date s.ctl.n s.ctl.t conn) _ _
        (λ now. record { list = list; free = free; is = refl; tied = t; holds = holds }))))

  -- ── 3: a cell takes the head of the Free List ──
  module _ (w : Work) (list : List ℕ) (free : Ends) (t : TiedAt w.state list free) where
    abbrev s : State
    s = w.state

    module _ (cell : List ℕ) (D : ℕ) (f : Some t.fl) where
      abbrev e : ℕ
      e = (s.ctl.turn + D) % s.ctl.n

      e_low : e < s.ctl.n
      e_low = mod-lt (s.ctl.turn + D) (omega (arith, t.turn_low))

      placing : Taken
      placing = record { space = free.head; left = (head_taken t f).left }

      place_follows : Follows n b Any (place cell D free.head w) (place_listed cell D (over n b w list free).work placing)
      unfolding place place_listed placing with_free with_bits with_arrived with_cells with_links with_calendar with_record record_with
      place_follows =
          needs_both n b Any (ends_fit s.ctl.n (entry_at s.calendar e)) _ _
          (λ _. record {
            list = (join_head list (entry_at s.calendar e) free.head).links;
            free = (head_taken t f).left;
            is = rw (head_ends list s.links (entry_at s.calendar e) free.head);
            tied = tied_placed t f e e_low (head_taken t f).left (head_taken t f).rest;
            holds = tt;
          })

  module _ (cell : List ℕ) (verdict c : ℕ) (w : Work) (conn : Connection) (list : List ℕ) (free : Ends) (t : TiedAt w.state list free) where
    pub accept_follows : Follows n b Any (accept free.head cell verdict c w conn) (accept_listed cell verdict c (over n b w list free) conn)
    unfolding accept accept_listed with_words placing
    accept_follows =
        let s = w.state in
        needs_both n b Any (conn.waiting <? s.ctl.n) _ _
        (λ _. needs_new n b Any (spaces_fit s.ctl.n s.ctl.free s.bits && not (s.ctl.free =? 0)) _ _
        (λ _. needs_new n b Any (is_free_space s.bits free.head) _ _
        (λ e. let f = some_listed t free.head e in
        rw (free_fits t, some_marked t f, (head_taken t f).goes) (place_follows w1 list free t (sent_as verdict cell) (delay conn.bucket) f))))
      where
        w1 : Work
        w1 =
            let second = second_after (clp_in cell) verdict conn.second in
            let filled = with_waiting (with_buckets conn (fill conn.bucket) second) (conn.waiting + 1) in
            with_arrival (with_connection w c filled) verdict c (delay conn.bucket)

    pub judge_follows : verdict_on (clp_in cell) conn ≡ verdict
        → Follows n b Any (judge free.head cell c w conn) (judge_listed cell c (over n b w list free) conn)
    unfolding judge judge_listed with_words
    judge_follows e =
        rw e (if_both n b Any (verdict =? excess) _ _ _ _
        (λ _. record { list = list; free = free; is = refl; tied = t; holds = tt })
        (λ _. accept_follows))

  module _ (w : Work) (list : List ℕ) (free : Ends) (t : TiedAt w.state list free) where
    pub step3_follows : (x : ℕ) (cell : List ℕ) → x ≡ free.head → Follows n b Any (step3 x cell w) (step3_listed cell (over n b w list free))
    unfolding step3 step3_listed
    step3_follows x cell e =
        let s = w.state in
        let a = header_at s.ctl.kind cell 0 in
        let c = connection s.ctl.v a in
        let conn = connection_at s.words c in
        rw e (if_both n b Any (length cell =? 0) _ _ _ _ (λ _. same Any w list free t tt)
        (λ _. needs_both n b Any (kind_in_range s.ctl.kind) _ _
        (λ _. if_both n b Any (no_user_cell a) _ _ _ _ (λ _. same Any w list free t tt)
        (λ _. if_both n b Any (not (names_connection s.ctl.v a)) _ _ _ _
        (λ _. record { list = list; free = free; is = refl; tied = t; holds = tt })
        (λ _. needs_both n b Any (open_word_fits conn) _ _
        (λ _. if_both n b Any (conn.opened =? 0) _ _ _ _ (λ _. record { list = list; free = free; is = refl; tied = t; holds = tt })
        (λ _. any_both n b Any (up_to_date s.ctl.n s.ctl.t conn) _ _
        (λ now. judge_follows cell (verdict_on (clp_in cell) now) c w now list free t refl))))))))

    -- ── 4: entry T joins the Output List ──
    pub step4_follows : Follows n b Any (step4 w) (step4_listed (over n b w list free))
    unfolding step4 step4_listed with_output_list with_links with_calendar with_bits with_record record_with
    step4_follows =
        let s = w.state in
        let N = s.ctl.n in
        let T = s.ctl.turn in
        let entry = entry_at s.calendar T in
        needs_both n b Any (ends_fit N entry && ends_fit N (output_list s)) _ _
        (λ _. if_both n b Any (is_empty entry) _ _ _ _ (λ _. same Any w list free t tt)
        (λ e. record {
          list = (join_tail list (output_list s) entry).links;
          free = free;
          is = rw (tail_ends list s.links (output_list s) entry);
          tied = tied_sent t T t.turn_low (queue_some t T t.turn_low e);
          holds = tt;
        }))

    -- ── 5: the head of the Output List departs ──
    depart_follows : (f : Some t.o) → Follows n b Any (depart w (record { space = w.state.ctl.outhead; left = (new_taken t f).left }))
        (depart_listed (over n b w list free) (record { space = w.state.ctl.outhead; left = (new_taken t f).left }))
    unfolding depart depart_listed with_output_list with_free with_bits with_words with_links with_record record_with
    depart_follows f =
        let s = w.state in
        let x = s.ctl.outhead in
        let a = header_at s.ctl.kind s.cells (cell_start x) in
        let conn = connection_at s.words (connection s.ctl.v a) in
        needs_both n b Any (kind_in_range s.ctl.kind && names_open s.ctl.v s.words a) _ _
        (λ _. needs_both n b Any (1 ≤? conn.waiting && conn.waiting ≤? s.ctl.n) _ _
        (λ _. needs_new n b Any (spaces_fit s.ctl.n s.ctl.free s.bits && not (is_free_space s.bits x)) _ _
        (λ e. rw (free_fits t) (record {
          list = (join_tail list free (ends_of x x)).links;
          free = (join_tail list free (ends_of x x)).ends;
          is = refl;
          tied = tied_left t f (not-true (spaces_fit s.ctl.n s.ctl.free s.bits) (is_free_space s.bits x) e);
          holds = tt;
        }))))

    pub step5_follows : Follows n b Any (step5 w) (step5_listed (over n b w list free))
    unfolding step5 step5_listed
    step5_follows =
        let s = w.state in
        if_both n b Any (is_empty (output_list s)) _ _ _ _ (λ _. same Any w list free t tt)
        (λ e. let f = out_some t e in rw ((new_taken t f).goes, taken_too t f) (depart_follows f))

  -- ── all five ──
  pub five_follows : (w : Work) (list : List ℕ) (free : Ends) → TiedAt w.state list free → (cell : List ℕ)
      → Follows n b Any (five_steps free.head cell w) (five_listed cell (over n b w list free))
  unfolding five_steps five_listed
  five_follows w list free t cell =
      then_both n b Any Any (step1 w and_then step2 and_then step3 x cell and_then step4)
      (beside step1 l and_then beside step2 and_then step3_listed cell and_then step4_listed) step5 step5_listed
      (then_both n b Any Any (step1 w and_then step2 and_then step3 x cell)
      (beside step1 l and_then beside step2 and_then step3_listed cell) step4 step4_listed
      (then_both n b Head Any (step1 w and_then step2) (beside step1 l and_then beside step2) (step3 x cell) (step3_listed cell)
      (then_both n b Head Head (step1 w) (beside step1 l) step2 (beside step2) (step1_follows Head w list free t refl)
      (λ v k f u h. step2_follows Head v k f u h))
      (λ v k f u h. step3_follows v k f u x cell h))
      (λ v k f u h. step4_follows v k f u))
      (λ v k f u h. step5_follows v k f u)
    where
      x : ℕ
      x = free.head

      Head : Ends → Type 0
      Head f = x ≡ f.head

      l : ListedWork
      l = over n b w list free
