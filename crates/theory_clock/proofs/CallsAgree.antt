-- Open and close: over the stored words they give the stored outcome, and what rotation keeps is kept.
use Prim.Native.Nat.{ℕ, ◌+◌, ◌-◌, ◌%◌, ◌≤◌, ◌<◌}
use mathlib.Core.Path.{◌≡◌, refl, sym, ◌∙◌, ap}
use mathlib.Core.Bool.{true, not, ◌&&◌, false}
use mathlib.Core.List.{List}
use native.Mathlib.Omega.{arith}
use native.Mathlib.Nat.{mod-lt}
use borrow.Author.Tests.{eqb-true, eqb-false, ne_eqb, not-false}
use lib.ListN.{length}
use Rattle.meaning.specs.declared.Record.{Record}
use Rattle.meaning.specs.Plain.{◌=?◌}
use Rattle.meaning.specs.Numbers.{ranges_hold, splits_hold, connections_in, unused, words_in}
use Rattle.meaning.specs.State.{State, words_length, with_record, with_words, with_arrived, record_with, with_clock}
use Rattle.meaning.specs.Header.{Name, named, number_in}
use Rattle.meaning.specs.Operators.{owns}
use Rattle.meaning.specs.Bucket.{bucket_of, obeys_rules, fall}
use Rattle.meaning.specs.Words.{Connection, Second, connection_at, write_connection, second_obeys, opened_connection, closed_connection, open_word_fits, buckets_fit, connection_fits, debt}
use Rattle.meaning.specs.Calls.{Called, called_of, shared_refusal, open_call, close_call}
use Rattle.meaning.proofs.NamesLaws.{number_low, number_used}
use Rattle.meaning_runs.proofs.OutLaws.{if_holds}
use Rattle.theory_clock.specs.Stored.{stored, stored_connection, stored_words, stored_state, stored_called}
use Rattle.theory_clock.specs.Unwrapped.{unwrapped_open, unwrapped_debt, unwrapped_close}
use Rattle.theory_clock.specs.Kept.{since, longest, Behind, Kept}
use Rattle.theory_clock.proofs.Outs.{if_both}
use Rattle.theory_clock.proofs.WordsStored.{stored_length, stored_read, stored_write}
use Rattle.theory_clock.proofs.Wrap.{elapsed_true}
use Rattle.theory_clock.proofs.Since.{since_low, recent_write}
use Rattle.theory_clock.proofs.SlotAgrees.{ranges_v}

fits_stored : (N : ℕ) (vc : Connection) → connection_fits N (stored_connection vc) ≡ connection_fits N vc
unfolding connection_fits open_word_fits buckets_fit stored_connection
fits_stored N vc = refl

-- refusals 1, 2, 4, 16 and 3 read nothing that differs
shared_stored : (u : State) (who : ℕ) (name : Name) → length u.words ≡ words_in u.ctl.v
    → shared_refusal (stored_state u).ctl (stored_state u).words who name ≡ shared_refusal u.ctl u.words who name
unfolding shared_refusal owns stored_state with_clock with_record with_words with_arrived record_with words_length
shared_stored u who name long =
    let r = u.ctl in
    let c = number_in r.v name in
    if_both (λ (n : ℕ). n) (not (ranges_hold r.n r.v)) _ _ _ _ (λ _. refl)
    (λ _. if_both (λ (n : ℕ). n) (not (splits_hold r.v r.splitvci r.splitpath)) _ _ _ _ (λ _. refl)
    (λ _. rw (stored_length (connections_in r.v) u.words)
    (if_both (λ (n : ℕ). n) (not (length u.words =? words_in r.v)) _ _ _ _ (λ _. refl)
    (λ _. if_both (λ (n : ℕ). n) (not (named r.v name)) _ _ _ _ (λ _. refl)
    (λ e. let low = number_low r.v name (not-false (named r.v name) e) in
    if_both (λ (n : ℕ). n) (not (owns r who name)) _ _ _ _ (λ _. refl)
    (λ _. rw (stored_read (connections_in r.v) u.words c low (omega arith), fits_stored r.n (connection_at u.words c))))))))

-- none of them: N and V are in their ranges, and there is such a connection
shared_low : (r : Record) (words : List ℕ) (who : ℕ) (name : Name) → shared_refusal r words who name ≡ 0
    → (ranges_hold r.n r.v ≡ true) × (named r.v name ≡ true)
unfolding shared_refusal
shared_low r words who name =
    if_holds P (not (ranges_hold r.n r.v)) _ _ (λ _ p. absurd (omega arith))
    (λ a. if_holds P (not (splits_hold r.v r.splitvci r.splitpath)) _ _ (λ _ p. absurd (omega arith))
    (λ _. if_holds P (not (words_length r.v words)) _ _ (λ _ p. absurd (omega arith))
    (λ _. if_holds P (not (named r.v name)) _ _ (λ _ p. absurd (omega arith))
    (λ e p. (not-false (ranges_hold r.n r.v) a, not-false (named r.v name) e)))))
  where
    P : ℕ → Type 0
    P n = n ≡ 0 → (ranges_hold r.n r.v ≡ true) × (named r.v name ≡ true)

pub open_agrees : (u : State) (who : ℕ) (name : Name) (m F C : ℕ) (x : Second) → Kept u
    → open_call (stored_state u).ctl (stored_state u).words who name m F C x
    ≡ stored_called u.ctl.v (unwrapped_open u.ctl u.words who name m F C x)
unfolding open_call unwrapped_open stored_called stored_state with_clock with_record with_words with_arrived record_with stored_connection opened_connection
open_agrees u who name m F C x kept =
    let r = u.ctl in
    let vci = number_in r.v name in
    let k = shared_refusal r u.words who name in
    rw (shared_stored u who name kept.recent.long)
    (if_both (stored_called r.v) (not (k =? 0)) _ _ _ _ (λ _. refl)
    (λ e. let low = number_low r.v name (shared_low r u.words who name (eqb-true k 0 (not-false (k =? 0) e))).1 in
    rw (stored_read (connections_in r.v) u.words vci low (omega (arith, kept.recent.long)))
    (if_both (stored_called r.v) ((connection_at u.words vci).opened =? 1) _ _ _ _ (λ _. refl)
    (λ _. if_both (stored_called r.v) (not (obeys_rules r.n (bucket_of m F C 0))) _ _ _ _ (λ _. refl)
    (λ _. if_both (stored_called r.v) (not (second_obeys (bucket_of x.m x.F x.C 0) x.tag)) _ _ _ _ (λ _. refl)
    (λ _. ap (called_of 0) (sym (stored_write (connections_in r.v) u.words vci (opened_connection r.t (bucket_of m F C 0) x) low kept.recent.long))))))))

-- rotation names every connection at least every V + 256 slots
since_most : (N z k r v : ℕ) → r ≡ (k + connections_in z - 1) % connections_in z → ranges_hold N z ≡ true → unused z v ≡ false → v < connections_in z → since (connections_in z) r v ≤ longest
unfolding longest
since_most N z k r v e range h1 h2 =
    let few = ranges_v N z range in
    let R = connections_in z in
    omega (arith, few.1, since_low R r v (omega (arith, e, mod-lt (k + R - 1) {m = R} (omega arith))) h2)

-- what close works out of S is the same: no open connection is so far behind that elapsed could wrap
debt_agrees : (u : State) (vci : ℕ) → Kept u → ranges_hold u.ctl.n u.ctl.v ≡ true → unused u.ctl.v vci ≡ false → vci < connections_in u.ctl.v
    → ((connection_at u.words vci).opened ≡ 0 → ⊥)
    → debt (stored u.ctl.t) (stored_connection (connection_at u.words vci)) ≡ unwrapped_debt u.ctl.t (connection_at u.words vci)
unfolding debt unwrapped_debt fall stored_connection
debt_agrees u vci kept range h1 h2 o =
    let r = u.ctl in
    let vc = connection_at u.words vci in
    let b = kept.recent.behind vci h1 h2 o in
    rw (
      ne_eqb vc.opened 0 o,
      elapsed_true r.t vc.last b.0 (omega (arith, b.1, since_most r.n r.v r.t r.rotation vci kept.turns range h1 h2)),
    )

closed_same : stored_connection closed_connection ≡ closed_connection
unfolding stored_connection closed_connection
closed_same = refl

pub close_agrees : (u : State) (who : ℕ) (name : Name) → Kept u
    → close_call (stored_state u).ctl (stored_state u).words who name ≡ stored_called u.ctl.v (unwrapped_close u.ctl u.words who name)
unfolding close_call unwrapped_close stored_called stored_state with_clock with_record with_words with_arrived record_with stored_connection
close_agrees u who name kept =
    let r = u.ctl in
    let vci = number_in r.v name in
    let vc = connection_at u.words vci in
    let k = shared_refusal r u.words who name in
    rw (shared_stored u who name kept.recent.long)
    (if_both (stored_called r.v) (not (k =? 0)) _ _ _ _ (λ _. refl)
    (λ e. let p = shared_low r u.words who name (eqb-true k 0 (not-false (k =? 0) e)) in
    let low = number_low r.v name p.1 in
    rw (stored_read (connections_in r.v) u.words vci low (omega (arith, kept.recent.long)))
    (if_both (stored_called r.v) (vc.opened =? 0) _ _ _ _ (λ _. refl)
    (λ f. rw (debt_agrees u vci kept p.0 (number_used r.v name p.1) low (eqb-false vc.opened 0 f))
    (if_both (stored_called r.v) (not (vc.waiting =? 0 && unwrapped_debt r.t vc =? 0)) _ _ _ _ (λ _. refl)
    (λ _. ap (called_of 0) (sym (stored_write (connections_in r.v) u.words vci closed_connection low kept.recent.long
    ∙ ap (write_connection (stored_words (connections_in r.v) u.words) vci) closed_same))))))))

-- one connection's words written between two slots
kept_write : (u : State) (vci : ℕ) (vc : Connection) → vci < connections_in u.ctl.v → Kept u
    → Behind u.ctl.t (since (connections_in u.ctl.v) u.ctl.rotation vci) vc → Kept (with_words u (write_connection u.words vci vc))
unfolding with_words
kept_write u vci vc low kept b =
    record {
      turns = kept.turns;
      recent = recent_write u.ctl.v u.ctl.t (since (connections_in u.ctl.v) u.ctl.rotation) u.words vci vc low kept.recent.long
          (λ v p q _. kept.recent.behind v p q) b;
    }

pub open_keeps : (u : State) (who : ℕ) (name : Name) (m F C : ℕ) (x : Second) → Kept u
    → Kept (with_words u (unwrapped_open u.ctl u.words who name m F C x).words)
unfolding open_call unwrapped_open opened_connection with_words
open_keeps u who name m F C x kept =
    let r = u.ctl in
    let vci = number_in r.v name in
    let k = shared_refusal r u.words who name in
    if_holds (λ (c : Called). Kept (with_words u c.words)) (not (k =? 0)) _ _ (λ _. kept)
    (λ e. let low = number_low r.v name (shared_low r u.words who name (eqb-true k 0 (not-false (k =? 0) e))).1 in
    if_holds (λ (c : Called). Kept (with_words u c.words)) ((connection_at u.words vci).opened =? 1) _ _ (λ _. kept)
    (λ _. if_holds (λ (c : Called). Kept (with_words u c.words)) (not (obeys_rules r.n (bucket_of m F C 0))) _ _ (λ _. kept)
    (λ _. if_holds (λ (c : Called). Kept (with_words u c.words)) (not (second_obeys (bucket_of x.m x.F x.C 0) x.tag)) _ _
    (λ _. kept)
    (λ _. kept_write u vci (opened_connection r.t (bucket_of m F C 0) x) low kept (λ o. (omega arith, omega arith))))))

pub close_keeps : (u : State) (who : ℕ) (name : Name) → Kept u → Kept (with_words u (unwrapped_close u.ctl u.words who name).words)
unfolding unwrapped_close closed_connection with_words
close_keeps u who name kept =
    let r = u.ctl in
    let vci = number_in r.v name in
    let vc = connection_at u.words vci in
    let k = shared_refusal r u.words who name in
    if_holds (λ (c : Called). Kept (with_words u c.words)) (not (k =? 0)) _ _ (λ _. kept)
    (λ e. let low = number_low r.v name (shared_low r u.words who name (eqb-true k 0 (not-false (k =? 0) e))).1 in
    if_holds (λ (c : Called). Kept (with_words u c.words)) (vc.opened =? 0) _ _ (λ _. kept)
    (λ _. if_holds (λ (c : Called). Kept (with_words u c.words)) (not (vc.waiting =? 0 && unwrapped_debt r.t vc =? 0)) _ _ (λ _. kept)
    (λ _. kept_write u vci closed_connection low kept (λ o. absurd (o refl)))))
