-- A slot keeps the lengths of the five memories: each step is followed. So a slot of a burst is never refused with 1, 2 or
-- 9: it is served, or refused with 3.
use Prim.Native.Nat.{ℕ, ◌+◌, ◌*◌, ◌%◌}
use mathlib.Core.Path.{◌≡◌, refl, ◌∙◌}
use mathlib.Core.Bool.{Bool, true, false, not, ◌&&◌}
use mathlib.Core.List.{List}
use native.Mathlib.Omega.{arith}
use borrow.Author.Tests.{eqb-false}
use lib.ListN.{length, set, length-set}
use Rattle.meaning.specs.Plain.{when◌then◌else◌, ◌<?◌, ◌≤?◌, ◌=?◌, ◌and_then◌}
use Rattle.meaning.specs.Numbers.{cell_start, connections_in, unused, kind_in_range, excess, unknown, words_in, bit_words}
use Rattle.meaning.specs.Bits.{is_free_space, spaces_fit, taken}
use Rattle.meaning.specs.State.{Ends, output_list, with_record, with_cells, with_links, with_calendar, with_words, with_bits, with_arrived}
use Rattle.meaning.specs.State.{record_with, with_clock, with_free, with_output_list}
use Rattle.meaning.specs.Header.{header_at, clp_in, no_user_cell, connection, names_connection, names_open}
use Rattle.meaning.specs.Bucket.{delay}
use Rattle.meaning.specs.Words.{Connection, connection_at, open_word_fits, up_to_date}
use Rattle.meaning.specs.Lists.{is_empty, ends_fit, entry_at, take_head, Grown, join_head, join_tail}
use Rattle.meaning.specs.Work.{Work, with_arrival}
use Rattle.meaning.specs.Arrival.{place, verdict_on, sent_as, accept, judge}
use Rattle.meaning.specs.Slot.{step1, step2, step3, step4, depart, step5, five_steps}
use Rattle.meaning.proofs.BitsLaws.{free_low, taken_length, given_length}
use Rattle.meaning.proofs.MarksLaws.{marked_length, unmarked_length}
use Rattle.meaning.proofs.ListsLaws.{entry_length}
use Rattle.meaning.proofs.WordsLaws.{write_length}
use Rattle.meaning.proofs.CellsLaws.{cell_length}
use Rattle.meaning.proofs.TaggedLaws.{sent_length}
use Rattle.slot_steps.proofs.EndLaws.{AllOut, needs_all, if_all, then_all, any_all, both_true}

-- links that a list has grown into
head_links : (links : List ℕ) (e : Ends) (x : ℕ) → length (join_head links e x).links ≡ length links
unfolding join_head
head_links links e x = go (is_empty e)
  where
    grown : Bool → Grown
    grown b =
        when b then record { ends = record { head = x; tail = x }; links = links }
        else record { ends = record { head = x; tail = e.tail }; links = set links x e.head }

    go : (b : Bool) → length (grown b).links ≡ length links
    go true = refl
    go false = length-set links x e.head

tail_links : (links : List ℕ) (e more : Ends) → length (join_tail links e more).links ≡ length links
unfolding join_tail
tail_links links e more = go (is_empty e)
  where
    grown : Bool → Grown
    grown b =
        when b then record { ends = more; links = links }
        else record { ends = record { head = e.head; tail = more.tail }; links = set links e.tail more.head }

    go : (b : Bool) → length (grown b).links ≡ length links
    go true = refl
    go false = length-set links e.tail more.head

module _ (N z : ℕ) where
  pub record Long (w : Work) : Type 0 where
    pub n_is : w.state.ctl.n ≡ N
    pub v_is : w.state.ctl.v ≡ z
    pub cells_long_lem : length w.state.cells ≡ 53 * N
    pub links_long : length w.state.links ≡ N
    pub calendar_long : length w.state.calendar ≡ 2 * N
    pub words_long : length w.state.words ≡ words_in z
    pub bits_long : length w.state.bits ≡ bit_words
    pub arrived_long : length w.state.arrived ≡ N

  step1_long : (w : Work) → Long w → AllOut Long (step1 w)
  unfolding step1 with_clock with_record record_with
  step1_long w h =
      let c = w.state.ctl in
      needs_all Long (c.turn <? c.n && c.rotation <? connections_in c.v) _
      (λ _. record { n_is = h.n_is; v_is = h.v_is; cells_long_lem = h.cells_long_lem; links_long = h.links_long; calendar_long = h.calendar_long; words_long = h.words_long; bits_long = h.bits_long; arrived_long = h.arrived_long })

  step2_long : (w : Work) → Long w → AllOut Long (step2 w)
  unfolding step2 with_words
  step2_long w h =
      let s = w.state in
      let vc = connection_at s.words s.ctl.rotation in
      if_all Long (unused s.ctl.v s.ctl.rotation) _ _ (λ _. h)
      (λ _. needs_all Long (open_word_fits vc) _
      (λ _. if_all Long (vc.opened =? 0) _ _ (λ _. h)
      (λ _. any_all Long (up_to_date s.ctl.n s.ctl.t vc) _
      (λ now. record { n_is = h.n_is; v_is = h.v_is; cells_long_lem = h.cells_long_lem; links_long = h.links_long; calendar_long = h.calendar_long; words_long = write_length s.words s.ctl.rotation now ∙ h.words_long; bits_long = h.bits_long; arrived_long = h.arrived_long }))))

  judge_long : (x : ℕ) (cell : List ℕ) (v : ℕ) (w : Work) → Long w → length cell ≡ 53 → (vc : Connection) → AllOut Long (judge x cell v w vc)
  unfolding judge accept place with_words with_cells with_links with_calendar with_free with_bits with_arrived with_record record_with
  judge_long x cell v w h c vc =
      let s = w.state in
      let verdict = verdict_on (clp_in cell) vc in
      if_all Long (verdict =? excess) _ _
      (λ _. record { n_is = h.n_is; v_is = h.v_is; cells_long_lem = h.cells_long_lem; links_long = h.links_long; calendar_long = h.calendar_long; words_long = write_length s.words v _ ∙ h.words_long; bits_long = h.bits_long; arrived_long = h.arrived_long })
      (λ _. needs_all Long (vc.waiting <? s.ctl.n) _
      (λ _. needs_all Long (spaces_fit s.ctl.n s.ctl.free s.bits && not (s.ctl.free =? 0)) _
      (λ f. needs_all Long (is_free_space s.bits x) _
      (λ y. let e = (s.ctl.turn + delay vc.bucket) % s.ctl.n in
      let fits = (both_true (spaces_fit s.ctl.n s.ctl.free s.bits) (not (s.ctl.free =? 0)) f).0 in
      let low = free_low s.ctl.n s.ctl.free s.bits fits x y in
      needs_all Long (ends_fit s.ctl.n (entry_at s.calendar e)) _
      (λ _. record {
        n_is = h.n_is;
        v_is = h.v_is;
        cells_long_lem = cell_length s.cells x (sent_as verdict cell) (omega (arith, low, h.n_is, h.cells_long_lem)) (sent_length verdict cell ∙ c) ∙ h.cells_long_lem;
        links_long = head_links s.links (entry_at s.calendar e) x ∙ h.links_long;
        calendar_long = entry_length s.calendar e (join_head s.links (entry_at s.calendar e) x).ends ∙ h.calendar_long;
        words_long = write_length s.words v _ ∙ h.words_long;
        bits_long = marked_length (taken s.bits x) e ∙ taken_length s.bits x ∙ h.bits_long;
        arrived_long = length-set s.arrived x s.ctl.t ∙ h.arrived_long;
      })))))

  step3_long : (x : ℕ) (cell : List ℕ) → ((length cell ≡ 0 → ⊥) → length cell ≡ 53) → (w : Work) → Long w → AllOut Long (step3 x cell w)
  unfolding step3
  step3_long x cell c w h =
      let s = w.state in
      let a = header_at s.ctl.kind cell 0 in
      let at = connection s.ctl.v a in
      let vc = connection_at s.words at in
      if_all Long (length cell =? 0) _ _ (λ _. h)
      (λ e. needs_all Long (kind_in_range s.ctl.kind) _
      (λ _. if_all Long (no_user_cell a) _ _ (λ _. h)
      (λ _. if_all Long (not (names_connection s.ctl.v a)) _ _ (λ _. same)
      (λ _. needs_all Long (open_word_fits vc) _
      (λ _. if_all Long (vc.opened =? 0) _ _ (λ _. same)
      (λ _. any_all Long (up_to_date s.ctl.n s.ctl.t vc) _
      (judge_long x cell at w h (c (eqb-false (length cell) 0 e)))))))))
    where
      same : Long (with_arrival w unknown (header_at w.state.ctl.kind cell 0).vci 0)
      same = record { n_is = h.n_is; v_is = h.v_is; cells_long_lem = h.cells_long_lem; links_long = h.links_long; calendar_long = h.calendar_long; words_long = h.words_long; bits_long = h.bits_long; arrived_long = h.arrived_long }

  step4_long : (w : Work) → Long w → AllOut Long (step4 w)
  unfolding step4 with_bits with_calendar with_links with_output_list with_record record_with
  step4_long w h =
      let s = w.state in
      let entry = entry_at s.calendar s.ctl.turn in
      needs_all Long (ends_fit s.ctl.n entry && ends_fit s.ctl.n (output_list s)) _
      (λ _. if_all Long (is_empty entry) _ _ (λ _. h)
      (λ _. record {
        n_is = h.n_is;
        v_is = h.v_is;
        cells_long_lem = h.cells_long_lem;
        links_long = tail_links s.links (output_list s) entry ∙ h.links_long;
        calendar_long = entry_length s.calendar s.ctl.turn _ ∙ h.calendar_long;
        words_long = h.words_long;
        bits_long = unmarked_length s.bits s.ctl.turn ∙ h.bits_long;
        arrived_long = h.arrived_long;
      }))

  step5_long : (w : Work) → Long w → AllOut Long (step5 w)
  unfolding step5 depart with_words with_free with_bits with_output_list with_record record_with
  step5_long w h =
      let s = w.state in
      if_all Long (is_empty (output_list s)) _ _ (λ _. h)
      (λ _. any_all Long (take_head s.ctl.n s.links (output_list s)) _
      (λ taken. let a = header_at s.ctl.kind s.cells (cell_start taken.space) in
      let vc = connection_at s.words (connection s.ctl.v a) in
      needs_all Long (kind_in_range s.ctl.kind && names_open s.ctl.v s.words a) _
      (λ _. needs_all Long (1 ≤? vc.waiting && vc.waiting ≤? s.ctl.n) _
      (λ _. needs_all Long (spaces_fit s.ctl.n s.ctl.free s.bits && not (is_free_space s.bits taken.space)) _
      (λ _. record {
        n_is = h.n_is;
        v_is = h.v_is;
        cells_long_lem = h.cells_long_lem;
        links_long = h.links_long;
        calendar_long = h.calendar_long;
        words_long = write_length s.words (connection s.ctl.v a) _ ∙ h.words_long;
        bits_long = given_length s.bits taken.space ∙ h.bits_long;
        arrived_long = h.arrived_long;
      })))))

  pub five_long : (x : ℕ) (cell : List ℕ) → ((length cell ≡ 0 → ⊥) → length cell ≡ 53) → (w : Work) → Long w → AllOut Long (five_steps x cell w)
  unfolding five_steps
  five_long x cell c w h =
      then_all Long Long (step1 w and_then step2 and_then step3 x cell and_then step4) step5
      (then_all Long Long (step1 w and_then step2 and_then step3 x cell) step4
      (then_all Long Long (step1 w and_then step2) (step3 x cell)
      (then_all Long Long (step1 w) step2 (step1_long w h) step2_long)
      (step3_long x cell c))
      step4_long)
      step5_long
