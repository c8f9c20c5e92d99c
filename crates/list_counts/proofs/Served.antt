-- A slot keeps the balance: an accepted or tagged cell waits, a sent one no longer does, and a dropped one never did.
use Prim.Native.Nat.{ℕ, zero, suc, ◌+◌, ◌-◌, ◌*◌, ◌≤◌, ◌<◌}
use mathlib.Core.Path.{◌≡◌, refl, sym, ap, subst, ◌∙◌}
use mathlib.Core.Bool.{Bool, true, false, not, ◌&&◌, ◌||◌}
use mathlib.Core.Logic.{◌≢◌}
use mathlib.Core.List.{List, ◌∷◌}
use native.Mathlib.Omega.{arith}
use borrow.Author.Tests.{eqb-true, eqb-false, leb-true, ne_eqb}
use lib.ListN.{length, get_or}
use Rattle.base_hec.specs.Modes.{Arriving, arriving, arriving_fits}
use Rattle.meaning.specs.declared.Answer.{Answer}
use Rattle.meaning.specs.Plain.{when◌then◌else◌, ◌<?◌, ◌≤?◌, ◌=?◌, Out, refused, next, needs, ◌and_then◌}
use Rattle.meaning.specs.Numbers.{octets, per_entry, words_in, bit_words, connections_in, kind_in_range, empty, lets_in, ranges_hold, cell_start, least_v, most_n, most_v}
use Rattle.meaning.specs.State.{State, Ends, output_list, lengths_hold, sizes_hold, words_length, with_record, with_links, with_calendar, with_words, with_bits, record_with, with_free, with_output_list, record_in_mode, with_mode}
use Rattle.meaning.specs.Bits.{is_free_space, spaces_fit, lowest_free, given, unmarked}
use Rattle.meaning.specs.Header.{header_at, names_connection, names_open, connection}
use Rattle.meaning.proofs.NamesLaws.{names_low}
use Rattle.meaning.specs.Words.{connection_at, with_waiting}
use Rattle.meaning.specs.Lists.{empty_list, is_empty, Taken, take_head, entry_at, write_entry, join_tail, ends_fit}
use Rattle.meaning.specs.Work.{Work, work_of, bare_answer, with_state, with_connection, with_departure}
use Rattle.meaning.specs.Slot.{step1, step2, step3, step4, depart, step5, five_steps, finish, told, slot_at, slot}
use Rattle.meaning.proofs.CheckedLaws.{dropped_none}
use Rattle.list_meaning.specs.Listing.{many_of, is_accepted, has_sent}
use Rattle.list_counts.specs.Waiting.{records_of, sum_waiting, Balanced}
use Rattle.list_counts.proofs.Sums.{sum_part}
use Rattle.std.proofs.lemmas.Bool.{and_parts, not-false}
use Rattle.list_counts.proofs.Balance.{Holds, holds_then, holds_if, holds_needs, one, Quiet, Fresh, Done, write_words}
use Rattle.list_counts.proofs.Arrives.{step1_even, step2_even, step3_even}
use Rattle.list_counts.proofs.Silent.{Silent, five_silent, told_holds}

module _ (all base : ℕ) where
  -- ---- steps 4 and 5

  step4_even : (w : Work) → Quiet all base w → Holds (Quiet all base) (step4 w)
  unfolding step4 with_bits with_links with_calendar with_output_list with_record record_with
  step4_even w q =
      let s = w.state in
      let entry = entry_at s.calendar s.ctl.turn in
      let grown = join_tail s.links (output_list s) entry in
      let s1 = with_links (with_output_list s grown.ends) grown.links in
      let s2 : State = with_bits (with_calendar s1 (write_entry s.calendar s.ctl.turn empty_list)) (unmarked s.bits s.ctl.turn) in
      let q' : Quiet all base (with_state w s2) = record { v_is = q.v_is; words = q.words; unsent = q.unsent; number = q.number } in
      holds_needs (Quiet all base) (ends_fit s.ctl.n entry && ends_fit s.ctl.n (output_list s)) (when is_empty entry then next w else next (with_state w s2))
      (λ _. holds_if (Holds (Quiet all base)) (is_empty entry) (next w) (next (with_state w s2)) (λ _. q) (λ _. q'))

  head_taken : (N : ℕ) (links : List ℕ) (e : Ends) → Holds (λ (t : Taken). t.space ≡ e.head) (take_head N links e)
  unfolding take_head
  head_taken N links e =
      let f = get_or links e.head 0 in
      let a : Taken = record { space = e.head; left = empty_list } in
      let b : Taken = record { space = e.head; left = record { head = f; tail = e.tail } } in
      let P : Taken → Type 0 = λ t. t.space ≡ e.head in
      holds_if (Holds P) (e.head =? e.tail) (next a) (needs (f <? N) (next b)) (λ _. refl) (λ _. holds_needs P (f <? N) (next b) (λ _. refl))

  -- nothing departs
  stay : (w : Work) → Quiet all base w → Done all base w
  stay w q =
      let e : has_sent w.answer ≡ false = ap (λ (x : ℕ). not (x =? empty)) q.unsent in
      record { v_is = q.v_is; closed = q.words.closed; even = ap (λ (b : Bool). sum_waiting all w.state.words + one b) e ∙ nothing_more ∙ q.words.sum; number = q.number }
    where
      nothing_more : sum_waiting all w.state.words + 0 ≡ sum_waiting all w.state.words
      nothing_more = omega arith

  depart_even : (w : Work) (t : Taken) → Quiet all base w → t.space ≢ empty → Holds (Done all base) (depart w t)
  unfolding depart names_open with_free with_bits with_output_list with_record record_with with_words connection_at
  depart_even w t q x =
      let s = w.state in
      let h = header_at s.ctl.kind s.cells (cell_start t.space) in
      let c = connection s.ctl.v h in
      let conn = connection_at s.words c in
      let s2 : State = with_free (with_output_list s t.left) (s.ctl.free + 1) (given s.bits t.space) in
      let w2 : Work = with_departure (with_connection (with_state w s2) c (with_waiting conn (conn.waiting - 1))) t.space c in
      let named = kind_in_range s.ctl.kind && names_open s.ctl.v s.words h in
      let waits = 1 ≤? conn.waiting && conn.waiting ≤? s.ctl.n in
      let fits = spaces_fit s.ctl.n s.ctl.free s.bits && not (is_free_space s.bits t.space) in
      let many = base + one (is_accepted w.answer) in
      let left : named ≡ true → waits ≡ true → Done all base w2 = λ n m.
      let names = and_parts (names_connection s.ctl.v h) (conn.opened =? 1) (and_parts (kind_in_range s.ctl.kind) (names_open s.ctl.v s.words h) n).1 in
      let low : c < all = subst (λ (y : ℕ). c < y) q.v_is (names_low s.ctl.v h names.0) in
      let some : 1 ≤ conn.waiting = leb-true 1 conn.waiting (and_parts (1 ≤? conn.waiting) (conn.waiting ≤? s.ctl.n) m).0 in
      let opened : conn.opened ≡ 1 = eqb-true conn.opened 1 names.1 in
      let part : 1 ≤ many = omega (arith, some, sum_part s.words c all low, q.words.sum) in
      let less : many - 1 + conn.waiting ≡ many + (conn.waiting - 1) = omega (arith, some, part) in
      let l = write_words all base s.words many c (many - 1) (with_waiting conn (conn.waiting - 1)) q.words low (λ e. omega (arith, e, opened)) less in
      let e : not (t.space =? empty) ≡ true = simp (ne_eqb t.space empty x) in
      record {
        v_is = q.v_is;
        closed = l.closed;
        even = ap (λ (b : Bool). sum_waiting all w2.state.words + one b) e ∙ omega (arith, l.sum, part);
        number = q.number;
      } in
      holds_needs (Done all base) named (needs waits (needs fits (next w2)))
      (λ n. holds_needs (Done all base) waits (needs fits (next w2)) (λ m. holds_needs (Done all base) fits (next w2) (λ _. left n m)))

  step5_even : (w : Work) → Quiet all base w → Holds (Done all base) (step5 w)
  unfolding step5
  step5_even w q =
      holds_if (Holds (Done all base)) (is_empty (output_list w.state)) (next w)
      (take_head w.state.ctl.n w.state.links (output_list w.state) and_then depart w) (λ _. stay w q)
      (λ n. holds_then (λ (t : Taken). t.space ≡ w.state.ctl.outhead) (Done all base)
      (take_head w.state.ctl.n w.state.links (output_list w.state)) (depart w)
      (head_taken w.state.ctl.n w.state.links (output_list w.state))
      (λ t e. depart_even w t q (λ k. eqb-false w.state.ctl.outhead empty n (sym e ∙ k))))

  five_even : (x : ℕ) (cell : List ℕ) (w : Work) → Fresh all base w → Holds (Done all base) (five_steps x cell w)
  unfolding five_steps
  five_even x cell w f =
      holds_then (Quiet all base) (Done all base) (step1 w and_then step2 and_then step3 x cell and_then step4) step5
      (holds_then (Quiet all base) (Quiet all base) (step1 w and_then step2 and_then step3 x cell) step4
      (holds_then (Fresh all base) (Quiet all base) (step1 w and_then step2) (step3 x cell) (holds_then (Fresh all base) (Fresh all base) (step1 w) step2 (step1_even all base w f) (step2_even all base)) (step3_even all base x cell))
      step4_even)
      step5_even

-- ---- the slot

lengths_words : (N z : ℕ) (cells links calendar words bits arrived : List ℕ) → lengths_hold N z cells links calendar words bits arrived ≡ true → length words ≡ words_in z
unfolding lengths_hold words_length
lengths_words N z cells links calendar words bits arrived l =
    let first = length cells =? octets * N && length links =? N && length calendar =? per_entry * N in
    eqb-true (length words) (words_in z)
    (and_parts first (length words =? words_in z) (and_parts (first && length words =? words_in z) (length bits =? bit_words)
    (and_parts (first && length words =? words_in z && length bits =? bit_words) (length arrived =? N) l).0).0).1

one_more : (test : Answer → Bool) (a : Answer) (h : List Answer) → many_of test (a ∷ h) ≡ many_of test h + one (test a)
unfolding many_of
one_more test a h = refl

-- an answer that neither accepts nor sends, and a state that stays
stay_balanced : (s : State) (h : List Answer) (k : ℕ) → Balanced s h → Balanced s (bare_answer k ∷ h)
unfolding many_of lets_in
stay_balanced s h k b = record { even = omega (arith, b.even); closed = b.closed }

-- a policer that was set up has all its records
pub records_all : (z : ℕ) → 0 < z → records_of z ≡ connections_in z
unfolding records_of
records_all zero h = absurd (omega arith)
records_all (suc z) h = refl

done_balanced : (s : State) (w : Work) (h : List Answer) → 0 < s.ctl.v → Balanced s h
    → Done (connections_in s.ctl.v) (sum_waiting (connections_in s.ctl.v) s.words) w → Balanced w.state (w.answer ∷ h)
done_balanced s w h p b d =
    let same : w.state.ctl.v ≡ s.ctl.v = omega (arith, d.v_is) in
    let before : records_of s.ctl.v ≡ connections_in s.ctl.v = records_all s.ctl.v p in
    let after : records_of w.state.ctl.v ≡ connections_in s.ctl.v = ap records_of same ∙ before in
    let even : sum_waiting (connections_in s.ctl.v) s.words + many_of has_sent h ≡ many_of is_accepted h =
    subst (λ (k : ℕ). sum_waiting k s.words + many_of has_sent h ≡ many_of is_accepted h) before b.even in
    record {
      even = subst (λ (k : ℕ). sum_waiting k w.state.words + many_of has_sent (w.answer ∷ h) ≡ many_of is_accepted (w.answer ∷ h)) (sym after)
          (omega (arith, d.even, even, one_more has_sent w.answer h, one_more is_accepted w.answer h));
      closed = λ c l o. d.closed c (subst (λ (k : ℕ). c < k) after l) o;
    }

finish_balanced : (s : State) (h : List Answer) (x : Out Work) → 0 < s.ctl.v → Balanced s h
    → Holds (Done (connections_in s.ctl.v) (sum_waiting (connections_in s.ctl.v) s.words)) x
    → Balanced (finish s x).state ((finish s x).answer ∷ h)
unfolding finish
finish_balanced s h refused p b d = stay_balanced s h 3 b
finish_balanced s h (next w) p b d = done_balanced s w h p b d

pub ranges_some : (N z : ℕ) → ranges_hold N z ≡ true → 0 < z
unfolding ranges_hold
ranges_some N z e =
    let l = leb-true least_v z (and_parts (1 ≤? N && N ≤? most_n) (least_v ≤? z) (and_parts (1 ≤? N && N ≤? most_n && least_v ≤? z) (z ≤? most_v) e).0).1 in
    omega (arith, l)

choose_work : (P : Work → Type 0) (b : Bool) (x y : Work) → P x → (b ≡ false → P y) → P (when b then x else y)
choose_work P true x y p f = p
choose_work P false x y p f = f refl

-- the header check, the five steps over what it lets through, and the verdict of a dropped cell
module _ (s : State) (cell : List ℕ) (h : List Answer) (p : 0 < s.ctl.v) (b : Balanced s h)
    (x : ℕ) (l : sizes_hold s ≡ true) where
  abbrev a : Arriving
  a = arriving s.ctl.raw s.ctl.mode cell

  abbrev entered : Work
  entered = work_of (with_mode s a.mode) (bare_answer 0)

  entered_even : Fresh (connections_in s.ctl.v) (sum_waiting (connections_in s.ctl.v) s.words) entered
  unfolding with_mode with_record record_in_mode
  entered_even =
      record {
        v_is = refl;
        words = record { long = lengths_words s.ctl.n s.ctl.v s.cells s.links s.calendar s.words s.bits s.arrived l; sum = refl; closed = λ c k. b.closed c (subst (λ (n : ℕ). c < n) (sym (records_all s.ctl.v p)) k) };
        bare = refl;
      }

  abbrev checked_steps : Out Work
  checked_steps = needs (arriving_fits s.ctl.raw s.ctl.mode cell) (five_steps x a.cell entered and_then λ w. next (told a.dropped w))

  pub checked_even : Holds (Done (connections_in s.ctl.v) (sum_waiting (connections_in s.ctl.v) s.words)) checked_steps
  checked_even =
      let all = connections_in s.ctl.v in
      let base = sum_waiting all s.words in
      holds_needs (Done all base) (arriving_fits s.ctl.raw s.ctl.mode cell) _
      (λ _. told_holds all base a.dropped (five_steps x a.cell entered) (five_even all base x a.cell entered entered_even)
      (λ e. subst (λ (c : List ℕ). Holds Silent (five_steps x c entered)) (sym (dropped_none s.ctl.raw s.ctl.mode cell e)) (five_silent x entered refl)))

pub slot_balanced : (s : State) (cell : List ℕ) (h : List Answer) → Balanced s h
    → Balanced (slot s cell).state ((slot s cell).answer ∷ h)
unfolding slot slot_at
slot_balanced s cell h b =
    let N = s.ctl.n in
    let z = s.ctl.v in
    let P : Work → Type 0 = λ w. Balanced w.state (w.answer ∷ h) in
    choose_work P (not (ranges_hold N z)) _ _ (stay_balanced s h 1 b) (λ r.
    let p : 0 < z = ranges_some N z (not-false (ranges_hold N z) r) in
    choose_work P (not (sizes_hold s)) _ _ (stay_balanced s h 2 b) (λ l.
    choose_work P (not (length cell =? 0 || length cell =? octets)) _ _ (stay_balanced s h 9 b) (λ _.
    finish_balanced s h _ p b (checked_even s cell h p b (lowest_free s.bits) (not-false _ l)))))
