-- Steps 1 to 3 of a slot: a cell that is let in, accepted or tagged, is one more that waits, and no other waiting word changes.
use Prim.Native.Nat.{ℕ, ◌+◌, ◌-◌, ◌%◌, ◌<◌}
use mathlib.Core.Path.{◌≡◌, refl, sym, ap, subst, ◌∙◌}
use mathlib.Core.Bool.{Bool, true, false, not, ◌&&◌}
use mathlib.Core.Logic.{◌≢◌}
use mathlib.Core.List.{List}
use native.Mathlib.Omega.{arith}
use borrow.Author.Tests.{eqb-false}
use lib.ListN.{length, set}
use Rattle.meaning.specs.declared.Answer.{Answer}
use Rattle.meaning.specs.Plain.{when◌then◌else◌, ◌<?◌, ◌=?◌, next, needs}
use Rattle.meaning.specs.Numbers.{connections_in, unused, kind_in_range, excess, lets_in}
use Rattle.meaning.specs.State.{State, with_record, with_cells, with_links, with_calendar, with_words, with_bits, with_arrived, record_with, with_clock, with_free, write_cell}
use Rattle.meaning.specs.Bits.{is_free_space, spaces_fit, taken, marked}
use Rattle.meaning.specs.Bucket.{is_excess, delay, fill, elapsed}
use Rattle.meaning.specs.Header.{header_at, clp_in, no_user_cell, names_connection, connection}
use Rattle.meaning.proofs.NamesLaws.{names_low}
use Rattle.meaning.specs.Words.{Connection, connection_at, write_connection, with_waiting, with_buckets, fallen_to, up_to_date, open_word_fits, buckets_fit}
use Rattle.meaning.specs.Lists.{entry_at, write_entry, join_head, ends_fit}
use Rattle.meaning.specs.Work.{Work, with_state, with_connection, with_arrival}
use Rattle.meaning.specs.Arrival.{place, verdict_on, second_after, sent_as, accept, judge}
use Rattle.meaning.specs.Slot.{step1, step2, step3}
use Rattle.list_meaning.specs.Listing.{is_accepted}
use Rattle.std.proofs.lemmas.Bool.{not-false}
use Rattle.list_counts.proofs.Balance.{Holds, holds_then, holds_if, holds_needs, one, Words, Quiet, Fresh, write_words, write_same}

module _ (all base : ℕ) where
  -- ---- steps 1 and 2

  pub step1_even : (w : Work) → Fresh all base w → Holds (Fresh all base) (step1 w)
  unfolding step1 with_clock with_record record_with
  step1_even w f =
      holds_needs (Fresh all base) (w.state.ctl.turn <? w.state.ctl.n && w.state.ctl.rotation <? connections_in w.state.ctl.v) _
      (λ _. record { v_is = f.v_is; words = f.words; bare = f.bare })

  -- brought up to date, a connection keeps its open and its waiting word
  abbrev Kept : Connection → Connection → Type 0
  Kept vc now = (now.opened ≡ vc.opened) × (now.waiting ≡ vc.waiting)

  date_kept : (N t : ℕ) (vc : Connection) → Holds (Kept vc) (up_to_date N t vc)
  unfolding up_to_date fallen_to
  date_kept N t vc =
      let now : Connection = fallen_to (elapsed t vc.last) t vc in
      let kept : Kept vc now = (refl, refl) in
      holds_needs (Kept vc) (buckets_fit N vc) (next now) (λ _. kept)

  pub step2_even : (w : Work) → Fresh all base w → Holds (Fresh all base) (step2 w)
  unfolding step2 with_words
  step2_even w f =
      let s = w.state in
      let vci = s.ctl.rotation in
      let vc = connection_at s.words vci in
      holds_if (Holds (Fresh all base)) (unused s.ctl.v vci) (next w) _ (λ _. f)
      (λ _. holds_needs (Fresh all base) (open_word_fits vc) _
      (λ _. holds_if (Holds (Fresh all base)) (vc.opened =? 0) (next w) _ (λ _. f)
      (λ _. holds_then (Kept vc) (Fresh all base) (up_to_date s.ctl.n s.ctl.t vc) _ (date_kept s.ctl.n s.ctl.t vc)
      (λ now k. record { v_is = f.v_is; words = write_same all base s.words base vci now f.words k.0 k.1; bare = f.bare }))))

  -- ---- step 3

  quiet : (w : Work) → Fresh all base w → Quiet all base w
  unfolding lets_in
  quiet w f =
      let a : is_accepted w.answer ≡ false = ap (λ (x : Answer). is_accepted x) f.bare in
      record {
        v_is = f.v_is;
        words = subst (Words all base w.state.words) (sym (ap (λ (b : Bool). base + one b) a ∙ nothing_more)) f.words;
        unsent = ap (λ (x : Answer). x.space) f.bare;
        number = ap (λ (x : Answer). x.number) f.bare;
      }
    where
      nothing_more : base + 0 ≡ base
      nothing_more = omega arith

  -- an arrival that is not let in
  not_accepted : (w : Work) (words' : List ℕ) (verdict vci : ℕ) → Fresh all base w → Words all base words' base → lets_in verdict ≡ false
      → Quiet all base (with_arrival (with_state w (with_words w.state words')) verdict vci 0)
  unfolding with_words
  not_accepted w words' verdict vci f l e =
      record {
        v_is = f.v_is;
        words = subst (Words all base words') (sym (ap (λ (b : Bool). base + one b) e ∙ nothing_more)) l;
        unsent = ap (λ (x : Answer). x.space) f.bare;
        number = ap (λ (x : Answer). x.number) f.bare;
      }
    where
      nothing_more : base + 0 ≡ base
      nothing_more = omega arith

  unknown_quiet : (w : Work) (verdict vci : ℕ) → Fresh all base w → lets_in verdict ≡ false → Quiet all base (with_arrival w verdict vci 0)
  unfolding with_words
  unknown_quiet w verdict vci f e = not_accepted w w.state.words verdict vci f f.words e

  place_quiet : (cell : List ℕ) (D x : ℕ) (w : Work) → Quiet all base w → Holds (Quiet all base) (place cell D x w)
  unfolding place with_cells with_links with_calendar with_bits with_arrived with_free with_record record_with
  place_quiet cell D x w q =
      let s = w.state in
      let e = (s.ctl.turn + D) % s.ctl.n in
      let entry = entry_at s.calendar e in
      let grown = join_head s.links entry x in
      let s3 = with_links (with_cells (with_free s (s.ctl.free - 1) (marked (taken s.bits x) e)) (write_cell s.cells x cell)) grown.links in
      let s4 : State = with_calendar s3 (write_entry s.calendar e grown.ends) in
      let s5 : State = with_arrived s4 (set s.arrived x s.ctl.t) in
      let q' : Quiet all base (with_state w s5) = record { v_is = q.v_is; words = q.words; unsent = q.unsent; number = q.number } in
      holds_needs (Quiet all base) (ends_fit s.ctl.n entry) (next (with_state w s5)) (λ _. q')

  accept_quiet : (x : ℕ) (cell : List ℕ) (verdict vci : ℕ) (w : Work) (vc : Connection) → Fresh all base w → vci < all
      → Kept (connection_at w.state.words vci) vc → vc.opened ≢ 0 → lets_in verdict ≡ true → Holds (Quiet all base) (accept x cell verdict vci w vc)
  unfolding accept with_words
  accept_quiet x cell verdict vci w vc f low k o in' =
      let second = second_after (clp_in cell) verdict vc.second in
      let filled = with_waiting (with_buckets vc (fill vc.bucket) second) (vc.waiting + 1) in
      let s = w.state in
      let N = s.ctl.n in
      let D = delay vc.bucket in
      let w1 : Work = with_arrival (with_connection w vci filled) verdict vci D in
      let q : Quiet all base w1 =
      record {
        v_is = f.v_is;
        words = subst (Words all base (write_connection s.words vci filled)) (sym (ap (λ (b : Bool). base + one b) in'))
            (write_words all base s.words base vci (base + 1) filled f.words low o (omega (arith, k.1)));
        unsent = ap (λ (y : Answer). y.space) f.bare;
        number = ap (λ (y : Answer). y.number) f.bare;
      } in
      let fits = spaces_fit N s.ctl.free s.bits && not (s.ctl.free =? 0) in
      let free = is_free_space s.bits x in
      let rest = place (sent_as verdict cell) D x w1 in
      holds_needs (Quiet all base) (vc.waiting <? N) (needs fits (needs free rest))
      (λ _. holds_needs (Quiet all base) fits (needs free rest)
      (λ _. holds_needs (Quiet all base) free rest (λ _. place_quiet (sent_as verdict cell) D x w1 q)))

  -- what is not excess is let in
  lets_in_lem : (clp : ℕ) (vc : Connection) → verdict_on clp vc =? excess ≡ false → lets_in (verdict_on clp vc) ≡ true
  unfolding verdict_on lets_in
  lets_in_lem clp vc = go (is_excess vc.bucket) (clp =? 0 && is_excess vc.second) (vc.tag =? 0)
    where
      go : (a b c : Bool) → (when a then 2 else when b then (when c then 2 else 5) else 1) =? excess ≡ false
          → lets_in (when a then 2 else when b then (when c then 2 else 5) else 1) ≡ true
      go true b c e = sym e
      go false true true e = sym e
      go false true false e = refl
      go false false c e = refl

  judge_quiet : (x : ℕ) (cell : List ℕ) (vci : ℕ) (w : Work) (vc : Connection) → Fresh all base w → vci < all
      → Kept (connection_at w.state.words vci) vc → vc.opened ≢ 0 → Holds (Quiet all base) (judge x cell vci w vc)
  unfolding judge lets_in
  judge_quiet x cell vci w vc f low k o =
      let verdict = verdict_on (clp_in cell) vc in
      holds_if (Holds (Quiet all base)) (verdict =? excess) _ _
      (λ _. not_accepted w (write_connection w.state.words vci vc) 2 vci f (write_same all base w.state.words base vci vc f.words k.0 k.1) refl)
      (λ e. accept_quiet x cell verdict vci w vc f low k o (lets_in_lem (clp_in cell) vc e))

  pub step3_even : (x : ℕ) (cell : List ℕ) (w : Work) → Fresh all base w → Holds (Quiet all base) (step3 x cell w)
  unfolding step3 lets_in
  step3_even x cell w f =
      let s = w.state in
      let h = header_at s.ctl.kind cell 0 in
      let c = connection s.ctl.v h in
      let conn = connection_at s.words c in
      holds_if (Holds (Quiet all base)) (length cell =? 0) (next w) _ (λ _. quiet w f)
      (λ _. holds_needs (Quiet all base) (kind_in_range s.ctl.kind) _
      (λ _. holds_if (Holds (Quiet all base)) (no_user_cell h) (next w) _ (λ _. quiet w f)
      (λ _. holds_if (Holds (Quiet all base)) (not (names_connection s.ctl.v h)) _ _ (λ _. unknown_quiet w 3 h.vci f refl)
      (λ n. holds_needs (Quiet all base) (open_word_fits conn) _
      (λ _. holds_if (Holds (Quiet all base)) (conn.opened =? 0) _ _ (λ _. unknown_quiet w 3 h.vci f refl)
      (λ o. holds_then (Kept conn) (Quiet all base) (up_to_date s.ctl.n s.ctl.t conn) _ (date_kept s.ctl.n s.ctl.t conn)
      (λ now k. judge_quiet x cell c w now f
      (subst (λ (k : ℕ). c < k) f.v_is (names_low s.ctl.v h (not-false (names_connection s.ctl.v h) n)))
      k (λ q. eqb-false _ _ o (sym k.0 ∙ q)))))))))
