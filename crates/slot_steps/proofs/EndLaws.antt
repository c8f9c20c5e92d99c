-- What a slot without the header check answers and keeps, for every state: a number of 0 or, with everything as it came,
-- another; N, V, raw and the line kind; and a departing space that is below N or 65,535. Each step is followed.
use Rattle.std.proofs.Common.{◌≡◌, ℕ, ◌+◌, ◌-◌, ◌%◌, ◌<◌, Bool, true, false, not, ◌&&◌, ◌||◌, ◌≢◌, List, length, get_or, set, refl, ap, mod-lt, arith, ltb-true}
use borrow.Author.Tests.{eqb-false, not-false}
use Rattle.meaning.specs.declared.Record.{Record}
use Rattle.meaning.specs.Plain.{when◌then◌else◌, ◌<?◌, ◌≤?◌, ◌=?◌, Out, refused, next, ◌and_then◌}
use Rattle.meaning.specs.Numbers.{ranges_hold, octets, cell_start, connections_in, unused, kind_in_range, empty, unknown, excess}
use Rattle.meaning.specs.State.{State, Ends, output_list, sizes_hold, with_record, with_cells, with_links, with_calendar, with_bits, with_arrived, with_words}
use Rattle.meaning.specs.State.{record_with, with_clock, with_bits, with_free, with_output_list}
use Rattle.meaning.specs.Bits.{is_free_space, spaces_fit, lowest_free}
use Rattle.meaning.specs.Header.{header_at, clp_in, no_user_cell, connection, names_connection, names_open}
use Rattle.meaning.specs.Bucket.{delay}
use Rattle.meaning.specs.Words.{Connection, connection_at, open_word_fits, up_to_date}
use Rattle.meaning.specs.Lists.{is_empty, ends_fit, entry_at, Taken, take_head, Grown, join_tail}
use Rattle.meaning.specs.Work.{Work, work_of, bare_answer, with_arrival}
use Rattle.meaning.specs.Arrival.{verdict_on, place, accept, judge}
use Rattle.meaning.specs.Slot.{step1, step2, step3, step4, depart, step5, five_steps, finish, unchecked_slot_at, unchecked_slot}
use Rattle.meaning.proofs.ListsLaws.{fit_head, fit_tail, fit_marked, fit_empty}
pub use Rattle.meaning.proofs.OutLaws.{AllOut, needs_all, if_all, then_all, any_all}
use Rattle.meaning.proofs.OutLaws.{if_holds}

pub both_true : (a b : Bool) → a && b ≡ true → (a ≡ true) × (b ≡ true)
both_true true b p = (refl, p)
both_true false b p = absurd (let y : ◌≡◌ {A = ℕ} 0 1 = cc in omega arith)

module _ (N : ℕ) where
  pub taken_head : (links : List ℕ) (e : Ends) → AllOut (λ (t : Taken). t.space ≡ e.head) (take_head N links e)
  unfolding take_head
  taken_head links e =
      if_all (λ (t : Taken). t.space ≡ e.head) (e.head =? e.tail) _ _ (λ _. refl)
      (λ _. needs_all (λ (t : Taken). t.space ≡ e.head) (get_or links e.head 0 <? N) _ (λ _. refl))

-- a slot from a record r on
module _ (r : Record) where
  abbrev N : ℕ
  N = r.n

  abbrev out : Ends
  out = record { head = r.outhead; tail = r.outtail }

  -- before the clock has moved
  pub record Begun (w : Work) : Type 0 where
    pub ctl_is : w.state.ctl ≡ r
    pub number : w.answer.number ≡ 0
    pub unsent : w.answer.space ≡ empty

  -- the clock has moved: so T and rotation were in range, and are again
  pub record Ticked (k : Record) : Type 0 where
    pub n_is : k.n ≡ N
    pub v_is : k.v ≡ r.v
    pub raw_is : k.raw ≡ r.raw
    pub kind_is : k.kind ≡ r.kind
    pub began : r.turn <? N && r.rotation <? connections_in r.v ≡ true
    pub turn_low : k.turn < N
    pub rotation_low : k.rotation < connections_in r.v

  -- before step 4
  pub record Going (w : Work) : Type 0 where
    pub ticked : Ticked w.state.ctl
    pub out_is : output_list w.state ≡ out
    pub number : w.answer.number ≡ 0
    pub unsent : w.answer.space ≡ empty

  -- after step 4: the Output List fitted, and fits again
  pub record Joined (w : Work) : Type 0 where
    pub ticked : Ticked w.state.ctl
    pub out_began : ends_fit N out ≡ true
    pub fits : ends_fit N (output_list w.state) ≡ true
    pub number : w.answer.number ≡ 0
    pub unsent : w.answer.space ≡ empty

  pub record Ended (w : Work) : Type 0 where
    pub ticked : Ticked w.state.ctl
    pub out_began : ends_fit N out ≡ true
    pub fits : ends_fit N (output_list w.state) ≡ true
    pub number : w.answer.number ≡ 0
    pub low : w.answer.space ≢ empty → w.answer.space < N

  pub begun : (s : State) → s.ctl ≡ r → Begun (work_of s (bare_answer 0))
  begun s e = record { ctl_is = e; number = refl; unsent = refl }

  less : (a b c : ℕ) → b ≡ c → a < b → a < c
  less a b c e h = omega arith

  tick : (k : Record) → k ≡ r → k.turn <? k.n && k.rotation <? connections_in k.v ≡ true → (t free : ℕ)
      → Ticked (record_with k t ((k.turn + 1) % k.n) ((k.rotation + 1) % connections_in k.v) free (record { head = k.outhead; tail = k.outtail }))
  unfolding record_with
  tick k is b t free =
      let f = both_true (k.turn <? k.n) (k.rotation <? connections_in k.v) b in
      let p = ltb-true k.turn k.n f.0 in
      let q = ltb-true k.rotation (connections_in k.v) f.1 in
      let turn_low : (k.turn + 1) % k.n < k.n = mod-lt (k.turn + 1) (omega arith) in
      let rotation_low : (k.rotation + 1) % connections_in k.v < connections_in k.v = mod-lt (k.rotation + 1) (omega arith) in
      record {
        n_is = ap (λ (x : Record). x.n) is;
        v_is = ap (λ (x : Record). x.v) is;
        raw_is = ap (λ (x : Record). x.raw) is;
        kind_is = ap (λ (x : Record). x.kind) is;
        began = rw is at b;
        turn_low = less ((k.turn + 1) % k.n) k.n N (ap (λ (x : Record). x.n) is) turn_low;
        rotation_low = less ((k.rotation + 1) % connections_in k.v) (connections_in k.v) (connections_in r.v) (ap (λ (x : Record). connections_in x.v) is) rotation_low;
      }

  step1_going : (w : Work) → Begun w → AllOut Going (step1 w)
  unfolding step1 with_clock with_record record_with
  step1_going w h =
      let c = w.state.ctl in
      needs_all Going (c.turn <? c.n && c.rotation <? connections_in c.v) _
      (λ b. record {
        ticked = tick c h.ctl_is b _ _;
        out_is = ap (λ (x : Record). record { head = x.outhead; tail = x.outtail }) h.ctl_is;
        number = h.number;
        unsent = h.unsent;
      })

  step2_going : (w : Work) → Going w → AllOut Going (step2 w)
  unfolding step2 with_words
  step2_going w h =
      let s = w.state in
      let vc = connection_at s.words s.ctl.rotation in
      if_all Going (unused s.ctl.v s.ctl.rotation) _ _ (λ _. h)
      (λ _. needs_all Going (open_word_fits vc) _
      (λ _. if_all Going (vc.opened =? 0) _ _ (λ _. h)
      (λ _. any_all Going (up_to_date s.ctl.n s.ctl.t vc) _
      (λ now. record { ticked = h.ticked; out_is = h.out_is; number = h.number; unsent = h.unsent }))))

  -- another number of free spaces and another Output List leave the clock
  again : (k : Record) (free : ℕ) (output : Ends) → Ticked k → Ticked (record_with k k.t k.turn k.rotation free output)
  unfolding record_with
  again k free output h =
      record { n_is = h.n_is; v_is = h.v_is; raw_is = h.raw_is; kind_is = h.kind_is; began = h.began; turn_low = h.turn_low; rotation_low = h.rotation_low }

  judge_going : (x : ℕ) (cell : List ℕ) (v : ℕ) (w : Work) → Going w → (vc : Connection) → AllOut Going (judge x cell v w vc)
  unfolding judge accept place with_words with_cells with_links with_calendar with_free with_bits with_arrived with_record record_with
  judge_going x cell v w h vc =
      let s = w.state in
      if_all Going (verdict_on (clp_in cell) vc =? excess) _ _
      (λ _. record { ticked = h.ticked; out_is = h.out_is; number = h.number; unsent = h.unsent })
      (λ _. needs_all Going (vc.waiting <? s.ctl.n) _
      (λ _. needs_all Going (spaces_fit s.ctl.n s.ctl.free s.bits && not (s.ctl.free =? 0)) _
      (λ _. needs_all Going (is_free_space s.bits x) _
      (λ _. needs_all Going (ends_fit s.ctl.n (entry_at s.calendar ((s.ctl.turn + delay vc.bucket) % s.ctl.n))) _
      (λ _. record {
        ticked = again s.ctl (s.ctl.free - 1) (output_list s) h.ticked;
        out_is = h.out_is;
        number = h.number;
        unsent = h.unsent;
      })))))

  step3_going : (x : ℕ) (cell : List ℕ) (w : Work) → Going w → AllOut Going (step3 x cell w)
  unfolding step3
  step3_going x cell w h =
      let s = w.state in
      let a = header_at s.ctl.kind cell 0 in
      let c = connection s.ctl.v a in
      let vc = connection_at s.words c in
      if_all Going (length cell =? 0) _ _ (λ _. h)
      (λ _. needs_all Going (kind_in_range s.ctl.kind) _
      (λ _. if_all Going (no_user_cell a) _ _ (λ _. h)
      (λ _. if_all Going (not (names_connection s.ctl.v a)) _ _ (λ _. same)
      (λ _. needs_all Going (open_word_fits vc) _
      (λ _. if_all Going (vc.opened =? 0) _ _ (λ _. same)
      (λ _. any_all Going (up_to_date s.ctl.n s.ctl.t vc) _ (judge_going x cell c w h)))))))
    where
      same : Going (with_arrival w unknown (header_at w.state.ctl.kind cell 0).vci 0)
      same = record { ticked = h.ticked; out_is = h.out_is; number = h.number; unsent = h.unsent }

  -- two lists that fit, joined, where the second is not empty
  joined_fits : (links : List ℕ) (e more : Ends) → ends_fit N e ≡ true → ends_fit N more ≡ true → is_empty more ≡ false
      → ends_fit N (join_tail links e more).ends ≡ true
  unfolding join_tail
  joined_fits links e more p q some = go (is_empty e) refl
    where
      joined : Bool → Grown
      joined b =
          when b then record { ends = more; links = links }
          else record { ends = record { head = e.head; tail = more.tail }; links = set links e.tail more.head }

      go : (b : Bool) → is_empty e ≡ b → ends_fit N (joined b).ends ≡ true
      go true h = q
      go false h =
          fit_marked N e.head more.tail (fit_head N e p (eqb-false e.head empty h))
          (fit_tail N more q (eqb-false more.head empty some))

  step4_joined : (w : Work) → Going w → AllOut Joined (step4 w)
  unfolding step4 with_bits with_calendar with_links with_output_list with_record record_with
  step4_joined w h =
      let s = w.state in
      let entry = entry_at s.calendar s.ctl.turn in
      needs_all Joined (ends_fit s.ctl.n entry && ends_fit s.ctl.n (output_list s)) _
      (λ e. let f = both_true (ends_fit s.ctl.n entry) (ends_fit s.ctl.n (output_list s)) e in
      let out_fits : ends_fit N (output_list s) ≡ true = rw h.ticked.n_is at f.1 in
      let entry_fits : ends_fit N entry ≡ true = rw h.ticked.n_is at f.0 in
      if_all Joined (is_empty entry) _ _
      (λ _. record {
        ticked = h.ticked;
        out_began = rw h.out_is at out_fits;
        fits = out_fits;
        number = h.number;
        unsent = h.unsent;
      })
      (λ some. record {
        ticked = again s.ctl s.ctl.free (join_tail s.links (output_list s) entry).ends h.ticked;
        out_began = rw h.out_is at out_fits;
        fits = joined_fits s.links (output_list s) entry out_fits entry_fits some;
        number = h.number;
        unsent = h.unsent;
      }))

  -- the head of a list that fits is taken
  pub record Took (e : Ends) (t : Taken) : Type 0 where
    pub space_is : t.space ≡ e.head
    pub left_fits : ends_fit N t.left ≡ true

  took : (links : List ℕ) (e : Ends) → ends_fit N e ≡ true → is_empty e ≡ false → AllOut (Took e) (take_head N links e)
  unfolding take_head
  took links e p some =
      if_all (Took e) (e.head =? e.tail) _ _ (λ _. record { space_is = refl; left_fits = fit_empty N })
      (λ _. needs_all (Took e) (get_or links e.head 0 <? N) _
      (λ low. record {
        space_is = refl;
        left_fits = fit_marked N (get_or links e.head 0) e.tail (ltb-true (get_or links e.head 0) N low) (fit_tail N e p (eqb-false e.head empty some));
      }))

  step5_ended : (w : Work) → Joined w → AllOut Ended (step5 w)
  unfolding step5 depart with_words with_free with_bits with_output_list with_record record_with
  step5_ended w j =
      let s = w.state in
      if_all Ended (is_empty (output_list s)) _ _
      (λ _. record {
        ticked = j.ticked;
        out_began = j.out_began;
        fits = j.fits;
        number = j.number;
        low = λ ne. absurd (ne j.unsent);
      })
      (λ some. then_all (Took (output_list s)) Ended (take_head s.ctl.n s.links (output_list s)) _
      (rw j.ticked.n_is (took s.links (output_list s) j.fits some))
      (λ taken is. let a = header_at s.ctl.kind s.cells (cell_start taken.space) in
      let vc = connection_at s.words (connection s.ctl.v a) in
      needs_all Ended (kind_in_range s.ctl.kind && names_open s.ctl.v s.words a) _
      (λ _. needs_all Ended (1 ≤? vc.waiting && vc.waiting ≤? s.ctl.n) _
      (λ _. needs_all Ended (spaces_fit s.ctl.n s.ctl.free s.bits && not (is_free_space s.bits taken.space)) _
      (λ _. record {
        ticked = again s.ctl _ taken.left j.ticked;
        out_began = j.out_began;
        fits = is.left_fits;
        number = j.number;
        low = λ _. rw is.space_is (fit_head N (output_list s) j.fits (eqb-false s.ctl.outhead empty some));
      })))))

  pub five_ended : (x : ℕ) (cell : List ℕ) (w : Work) → Begun w → AllOut Ended (five_steps x cell w)
  unfolding five_steps
  five_ended x cell w h =
      then_all Joined Ended (step1 w and_then step2 and_then step3 x cell and_then step4) step5
      (then_all Going Joined (step1 w and_then step2 and_then step3 x cell) step4
      (then_all Going Going (step1 w and_then step2) (step3 x cell)
      (then_all Going Going (step1 w) step2 (step1_going w h) step2_going)
      (step3_going x cell))
      step4_joined)
      step5_ended

-- how a slot ends: served, or refused with everything as it came
pub record Answered (s : State) (w : Work) : Type 0 where
  pub as_came : w.answer.number ≢ 0 → w.state ≡ s
  pub ranges : w.answer.number ≡ 0 → ranges_hold s.ctl.n s.ctl.v ≡ true
  pub lengths : w.answer.number ≡ 0 → sizes_hold s ≡ true
  pub n_is : w.state.ctl.n ≡ s.ctl.n
  pub v_is : w.state.ctl.v ≡ s.ctl.v
  pub raw_is : w.state.ctl.raw ≡ s.ctl.raw
  pub kind_is : w.state.ctl.kind ≡ s.ctl.kind
  pub low : w.answer.space ≢ empty → w.answer.space < s.ctl.n

pub refused_with_lem : (s : State) (k : ℕ) → k ≢ 0 → Answered s (work_of s (bare_answer k))
refused_with_lem s k ne =
    record {
      as_came = λ _. refl;
      ranges = λ e. absurd (ne e);
      lengths = λ e. absurd (ne e);
      n_is = refl;
      v_is = refl;
      raw_is = refl;
      kind_is = refl;
      low = λ e. absurd (e refl);
    }

finished : (s : State) (x : Out Work) → AllOut (Ended s.ctl) x → ranges_hold s.ctl.n s.ctl.v ≡ true
    → sizes_hold s ≡ true
    → Answered s (finish s x)
unfolding finish
finished s refused h r l = refused_with_lem s 3 (λ e. omega arith)
finished s (next w) h r l =
    record {
      as_came = λ ne. absurd (ne h.number);
      ranges = λ _. r;
      lengths = λ _. l;
      n_is = h.ticked.n_is;
      v_is = h.ticked.v_is;
      raw_is = h.ticked.raw_is;
      kind_is = h.ticked.kind_is;
      low = h.low;
    }

pub unchecked_answered : (s : State) (cell : List ℕ) → Answered s (unchecked_slot s cell)
unfolding unchecked_slot unchecked_slot_at
unchecked_answered s cell =
    let N = s.ctl.n in
    let z = s.ctl.v in
    if_holds (Answered s) (not (ranges_hold N z)) _ _ (λ _. refused_with_lem s 1 (λ e. omega arith)) (λ r.
    if_holds (Answered s) (not (sizes_hold s)) _ _ (λ _. refused_with_lem s 2 (λ e. omega arith)) (λ l.
    if_holds (Answered s) (not (length cell =? 0 || length cell =? octets)) _ _ (λ _. refused_with_lem s 9 (λ e. omega arith)) (λ _.
    finished s _
    (five_ended s.ctl (lowest_free s.bits) cell (work_of s (bare_answer 0)) (begun s.ctl s refl))
    (not-false _ r)
    (not-false _ l))))
