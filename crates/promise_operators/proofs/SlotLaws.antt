-- A slot of any state, step by step, in the words of one connection that its cell doesn't name: step 2 may bring them up to date, step 5
-- may count waiting down, and no other step writes them. Assumes nothing.
use Prim.Native.Nat.{ℕ, ◌+◌, ◌-◌, ◌*◌, ◌%◌, ◌≤◌, ◌<◌}
use mathlib.Core.Path.{◌≡◌, refl, sym, ap, ◌∙◌, subst}
use mathlib.Core.Logic.{◌≢◌, inl, inr}
use mathlib.Core.Bool.{Bool, true, false, not, ◌&&◌, ◌||◌}
use mathlib.Core.List.{List}
use native.Mathlib.Decide.{ℕ_discrete}
use native.Mathlib.Omega.{arith}
use borrow.Author.Tests.{eqb-true, leb-true, not-false}
use lib.ListN.{length}
use Rattle.base_hec.specs.Modes.{arriving_fits}
use Rattle.meaning.specs.Plain.{when◌then◌else◌, ◌<?◌, ◌≤?◌, ◌=?◌, Out, refused, next, ◌and_then◌}
use Rattle.meaning.specs.Numbers.{ranges_hold, octets, per_entry, cell_start, connections_in, words_in, bit_words, unused, kind_in_range, excess}
use Rattle.meaning.specs.State.{State, sizes_hold, lengths_hold, words_length, output_list, with_record, with_cells, with_links, with_calendar, with_words, with_bits, with_arrived}
use Rattle.meaning.specs.State.{record_with, with_clock, with_free, with_output_list, record_in_mode, with_mode}
use Rattle.meaning.specs.Header.{Header, header_at, clp_in, no_user_cell, Name, named, number_in, name_in, connection, names_connection, names_open}
use Rattle.meaning.specs.Bucket.{elapsed, delay}
use Rattle.meaning.specs.Words.{Connection, connection_at, write_connection, with_waiting, open_word_fits, buckets_fit, fallen_to, up_to_date}
use Rattle.meaning.specs.Lists.{is_empty, ends_fit, entry_at, take_head}
use Rattle.meaning.specs.Bits.{is_free_space, spaces_fit, lowest_free}
use Rattle.meaning.specs.Work.{Work, work_of, bare_answer}
use Rattle.meaning.specs.Arrival.{place, verdict_on, accept, judge}
use Rattle.meaning.specs.Slot.{step1, step2, step3, step4, step5, depart, five_steps, finish, told, slot_at, slot}
use Rattle.meaning.proofs.NamesLaws.{both, one_name, number_low}
use Rattle.meaning.proofs.WordsLaws.{write_length, write_read, write_read_other}
use Rattle.meaning_runs.specs.Run.{let_in}
use Rattle.meaning_runs.proofs.OutLaws.{AllOut, if_holds, needs_all, if_all, then_all, any_all}
use Rattle.promise_operators.specs.Untouched.{Turned, Slotted, SlotStaysOut}

-- V and the line kind; a connection c, named `other`, whose words are b
module _ (z kind : ℕ) (other : Name) (is : named z other ≡ true) (b : Connection) where
  abbrev c : ℕ
  c = number_in z other

  low : c < connections_in z
  low = number_low z other is

  -- V, line kind, the words' length, and c's words, as a slot begins and once step 2 is over
  abbrev Before : Work → Type 0
  Before w =
      (w.state.ctl.v ≡ z)
      × (w.state.ctl.kind ≡ kind)
      × (length w.state.words ≡ words_in z)
      × (connection_at w.state.words c ≡ b)

  abbrev Midst : Work → Type 0
  Midst w =
      (w.state.ctl.v ≡ z)
      × (w.state.ctl.kind ≡ kind)
      × (length w.state.words ≡ words_in z)
      × Turned w.state.ctl.t b (connection_at w.state.words c)

  abbrev Over : Work → Type 0
  Over w = Slotted w.state.ctl.t b (connection_at w.state.words c)

  step1_in : (w : Work) → Before w → AllOut Before (step1 w)
  unfolding step1 with_clock with_record record_with
  step1_in w h =
      let r = w.state.ctl in
      needs_all Before (r.turn <? r.n && r.rotation <? connections_in r.v) _ (λ _. h)

  -- ── rotation's connection, be it c or another ──
  brought : (N t : ℕ) (conn : Connection) → AllOut (λ now. now ≡ fallen_to (elapsed t conn.last) t conn) (up_to_date N t conn)
  unfolding up_to_date
  brought N t conn = needs_all (λ now. now ≡ fallen_to (elapsed t conn.last) t conn) (buckets_fit N conn) _ (λ _. refl)

  turned : (w : Work) → Before w → (u : ℕ) (now : Connection)
      → now ≡ fallen_to (elapsed w.state.ctl.t (connection_at w.state.words u).last) w.state.ctl.t (connection_at w.state.words u)
      → Dec (u ≡ c) → Turned w.state.ctl.t b (connection_at (write_connection w.state.words u now) c)
  turned w h u now e (no ne) = inl (write_read_other w.state.words u now c (λ y. ne (sym y)) ∙ h.3)
  turned w h u now e (yes y) =
      let l = w.state.words in
      let t = w.state.ctl.t in
      let at : connection_at l u ≡ b = ap (connection_at l) y ∙ h.3 in
      let long = h.2 in
      inr (ap (connection_at (write_connection l u now)) (sym y)
      ∙ write_read l u now (omega (arith, long, y, low))
      ∙ e
      ∙ ap (λ (x : Connection). fallen_to (elapsed t x.last) t x) at)

  step2_in : (w : Work) → Before w → AllOut Midst (step2 w)
  unfolding step2 with_words
  step2_in w h =
      let s = w.state in
      let u = s.ctl.rotation in
      let conn = connection_at s.words u in
      let stays : Midst w = (h.0, h.1, h.2, inl h.3) in
      if_all Midst (unused s.ctl.v u) _ _ (λ _. stays)
      (λ _. needs_all Midst (open_word_fits conn) _
      (λ _. if_all Midst (conn.opened =? 0) _ _ (λ _. stays)
      (λ _. then_all (λ now. now ≡ fallen_to (elapsed s.ctl.t conn.last) s.ctl.t conn) Midst (up_to_date s.ctl.n s.ctl.t conn) _
      (brought s.ctl.n s.ctl.t conn)
      (λ now e. (h.0, h.1, write_length s.words u now ∙ h.2, turned w h u now e (ℕ_discrete u c))))))

  -- ── another connection's words are written ──
  wrote : (w : Work) (u : ℕ) (conn : Connection) → u ≢ c → Midst w
      → (w.state.ctl.v ≡ z)
      × (w.state.ctl.kind ≡ kind)
      × (length (write_connection w.state.words u conn) ≡ words_in z)
      × Turned w.state.ctl.t b (connection_at (write_connection w.state.words u conn) c)
  wrote w u conn ne h = (
    h.0,
    h.1,
    write_length w.state.words u conn ∙ h.2,
    subst (Turned w.state.ctl.t b) (sym (write_read_other w.state.words u conn c (λ y. ne (sym y)))) h.3,
  )

  judge_in : (x : ℕ) (cell : List ℕ) (u : ℕ) (w : Work) (conn : Connection) → u ≢ c → Midst w → AllOut Midst (judge x cell u w conn)
  unfolding judge accept place with_words with_cells with_links with_calendar with_free with_bits with_arrived with_record record_with
  judge_in x cell u w conn ne h =
      let s = w.state in
      if_all Midst (verdict_on (clp_in cell) conn =? excess) _ _ (λ _. wrote w u conn ne h)
      (λ _. needs_all Midst (conn.waiting <? s.ctl.n) _
      (λ _. needs_all Midst (spaces_fit s.ctl.n s.ctl.free s.bits && not (s.ctl.free =? 0)) _
      (λ _. needs_all Midst (is_free_space s.bits x) _
      (λ _. needs_all Midst (ends_fit s.ctl.n (entry_at s.calendar ((s.ctl.turn + delay conn.bucket) % s.ctl.n))) _
      (λ _. wrote w u _ ne h)))))

  -- the connection that the header names is another one
  apart : (v k : ℕ) (cell : List ℕ) → v ≡ z → k ≡ kind → name_in (header_at kind cell 0) ≢ other
      → names_connection v (header_at k cell 0) ≡ true → connection v (header_at k cell 0) ≢ c
  unfolding names_connection connection
  apart v k cell e f ne n y =
      ne (one_name z (name_in (header_at kind cell 0)) other (rw (e, f) at n) is (rw (e, f) at y))

  step3_in : (x : ℕ) (cell : List ℕ) → name_in (header_at kind cell 0) ≢ other → (w : Work) → Midst w → AllOut Midst (step3 x cell w)
  unfolding step3
  step3_in x cell ne w h =
      let s = w.state in
      let a = header_at s.ctl.kind cell 0 in
      let u = connection s.ctl.v a in
      let conn = connection_at s.words u in
      if_all Midst (length cell =? 0) _ _ (λ _. h)
      (λ _. needs_all Midst (kind_in_range s.ctl.kind) _
      (λ _. if_all Midst (no_user_cell a) _ _ (λ _. h)
      (λ _. if_all Midst (not (names_connection s.ctl.v a)) _ _ (λ _. h)
      (λ n. needs_all Midst (open_word_fits conn) _
      (λ _. if_all Midst (conn.opened =? 0) _ _ (λ _. h)
      (λ _. any_all Midst (up_to_date s.ctl.n s.ctl.t conn) _
      (λ now. judge_in x cell u w now
      (apart s.ctl.v s.ctl.kind cell h.0 h.1 ne (not-false (names_connection s.ctl.v a) n)) h)))))))

  step4_in : (w : Work) → Midst w → AllOut Midst (step4 w)
  unfolding step4 with_bits with_calendar with_links with_output_list with_record record_with
  step4_in w h =
      let s = w.state in
      let entry = entry_at s.calendar s.ctl.turn in
      needs_all Midst (ends_fit s.ctl.n entry && ends_fit s.ctl.n (output_list s)) _
      (λ _. if_all Midst (is_empty entry) _ _ (λ _. h) (λ _. h))

  -- ── the departing cell's connection, be it c or another ──
  departed : (w : Work) → Midst w → (u : ℕ) → 1 ≤ (connection_at w.state.words u).waiting → Dec (u ≡ c)
      → Slotted w.state.ctl.t b
      (connection_at (write_connection w.state.words u
      (with_waiting (connection_at w.state.words u) ((connection_at w.state.words u).waiting - 1))) c)
  departed w h u some (no ne) =
      record {
        between = connection_at w.state.words c;
        turned = h.3;
        left = inl (write_read_other w.state.words u _ c (λ y. ne (sym y)));
      }
  departed w h u some (yes y) =
      let l = w.state.words in
      let long = h.2 in
      record {
        between = connection_at l c;
        turned = h.3;
        left = inr (
          subst (λ (v : ℕ). 1 ≤ (connection_at l v).waiting) y some,
          ap (connection_at (write_connection l u (with_waiting (connection_at l u) ((connection_at l u).waiting - 1)))) (sym y)
              ∙ write_read l u _ (omega (arith, long, y, low))
              ∙ ap (λ (v : ℕ). with_waiting (connection_at l v) ((connection_at l v).waiting - 1)) y,
        );
      }

  step5_in : (w : Work) → Midst w → AllOut Over (step5 w)
  unfolding step5 depart with_words with_free with_bits with_output_list with_record record_with
  step5_in w h =
      let s = w.state in
      if_all Over (is_empty (output_list s)) _ _ (λ _. record { between = connection_at s.words c; turned = h.3; left = inl refl })
      (λ _. any_all Over (take_head s.ctl.n s.links (output_list s)) _
      (λ taken. let a = header_at s.ctl.kind s.cells (cell_start taken.space) in
      let u = connection s.ctl.v a in
      let conn = connection_at s.words u in
      needs_all Over (kind_in_range s.ctl.kind && names_open s.ctl.v s.words a) _
      (λ _. needs_all Over (1 ≤? conn.waiting && conn.waiting ≤? s.ctl.n) _
      (λ p. needs_all Over (spaces_fit s.ctl.n s.ctl.free s.bits && not (is_free_space s.bits taken.space)) _
      (λ _. departed w h u (leb-true 1 conn.waiting (both (1 ≤? conn.waiting) (conn.waiting ≤? s.ctl.n) p).0) (ℕ_discrete u c))))))

  steps_in : (x : ℕ) (cell : List ℕ) → name_in (header_at kind cell 0) ≢ other → (w : Work) → Before w → AllOut Over (five_steps x cell w)
  unfolding five_steps
  steps_in x cell ne w h =
      then_all Midst Over (step1 w and_then step2 and_then step3 x cell and_then step4) step5
      (then_all Midst Midst (step1 w and_then step2 and_then step3 x cell) step4
      (then_all Midst Midst (step1 w and_then step2) (step3 x cell)
      (then_all Before Midst (step1 w) step2 (step1_in w h) step2_in) (step3_in x cell ne)) step4_in) step5_in

  -- ── the slot ──
  module _ (s : State) (v_is : s.ctl.v ≡ z) (kind_is : s.ctl.kind ≡ kind) (words_are : connection_at s.words (number_in z other) ≡ b) where
    kept : (number : ℕ) → Over (work_of s (bare_answer number))
    kept number = record { between = b; turned = inl refl; left = inl words_are }

    told_over : (drop : Bool) (w : Work) → Over w → Over (told drop w)
    told_over true w h = h
    told_over false w h = h

    finished : (drop : Bool) (o : Out Work) → AllOut Over o → Over (finish s (o and_then λ w. next (told drop w)))
    unfolding finish
    finished drop refused h = kept 3
    finished drop (next w) h = told_over drop w h

    refused_here : Over (finish s refused)
    unfolding finish
    refused_here = kept 3

    long : sizes_hold s ≡ true → length s.words ≡ words_in z
    unfolding lengths_hold words_length
    long e =
        let first = length s.cells =? octets * s.ctl.n && length s.links =? s.ctl.n && length s.calendar =? per_entry * s.ctl.n in
        let words = length s.words =? words_in s.ctl.v in
        let bits = length s.bits =? bit_words in
        let d = (both (first && words) bits (both (first && words && bits) (length s.arrived =? s.ctl.n) e).0).0 in
        eqb-true (length s.words) (words_in s.ctl.v) (both first words d).1 ∙ ap words_in v_is

    begun : (mode : ℕ) → sizes_hold s ≡ true → Before (work_of (with_mode s mode) (bare_answer 0))
    unfolding with_mode with_record record_in_mode
    begun mode e = (v_is, kind_is, long e, words_are)

    pub slot_over : (x : ℕ) (cell : List ℕ) → name_in (header_at kind (let_in s cell).cell 0) ≢ other → Over (slot_at x s cell)
    unfolding slot_at
    slot_over x cell ne =
        if_holds Over (not (ranges_hold s.ctl.n s.ctl.v)) _ _ (λ _. kept 1)
        (λ _. if_holds Over (not (sizes_hold s)) _ _ (λ _. kept 2)
        (λ sized. if_holds Over (not (length cell =? 0 || length cell =? octets)) _ _ (λ _. kept 9)
        (λ _. if_holds (λ (o : Out Work). Over (finish s o)) (arriving_fits s.ctl.raw s.ctl.mode cell) _ _
        (λ _. finished (let_in s cell).dropped (five_steps x (let_in s cell).cell (work_of (with_mode s (let_in s cell).mode) (bare_answer 0)))
        (steps_in x (let_in s cell).cell ne (work_of (with_mode s (let_in s cell).mode) (bare_answer 0))
        (begun (let_in s cell).mode (not-false (sizes_hold s) sized))))
        (λ _. refused_here))))

pub slot_stays_out : SlotStaysOut
unfolding slot
slot_stays_out s cell other is ne =
    slot_over s.ctl.v s.ctl.kind other is (connection_at s.words (number_in s.ctl.v other)) s refl refl refl
    (lowest_free s.bits) cell ne
