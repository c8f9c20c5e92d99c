-- THE END LINE: in every listing its waiting is the sum of the waiting words, modulo 2^32, and accepted less sent.
use Prim.Native.Nat.{ℕ, zero, suc, ◌+◌, ◌*◌, ◌%◌, ◌≤◌, ◌<◌}
use mathlib.Core.Path.{◌≡◌, refl, sym, ap, subst, ◌∙◌}
use mathlib.Core.Bool.{Bool, true, false, not, ◌&&◌}
use mathlib.Core.Logic.{⊎_elim, ◌≢◌}
use mathlib.Core.List.{List, [], ◌++◌, append_assoc}
use native.Mathlib.Omega.{arith}
use borrow.Author.Tests.{eqb-true, eqb-false, leb-true}
use lib.Dec.{eqb}
use lib.ListN.{length, replicate, get_or}
use Rattle.meaning.specs.declared.Answer.{Answer}
use Rattle.meaning.specs.declared.Record.{Record}
use Rattle.meaning.specs.Plain.{when◌then◌else◌, ◌≤?◌, ◌=?◌}
use Rattle.meaning.specs.Numbers.{ranges_hold, splits_hold, slot_numbers, words_per_connection, words_in, connections_in, kind_in_range, waiting_place}
use Rattle.meaning.specs.State.{State, with_record, with_words, words_length, lengths_hold}
use Rattle.meaning.specs.Operators.{second_operator, owns}
use Rattle.meaning.specs.Bucket.{bucket_of, obeys_rules}
use Rattle.meaning.specs.Words.{Connection, connection_at, write_connection, opened_connection, closed_connection, open_word_fits, buckets_fit, connection_fits, second_obeys, Second, debt}
use Rattle.meaning.specs.Header.{Name, named, number_in}
use Rattle.meaning.proofs.WordsLaws.{write_read, write_read_other}
use Rattle.meaning.proofs.NamesLaws.{number_low}
use Rattle.meaning.specs.Calls.{Asked, Options, chosen, asked_for, SetUp, zeros, fresh_record, fresh_state, setup, Called, shared_refusal, open_call, close_call}
use Rattle.list_lines.specs.Lines.{stop_line}
use Rattle.list_meaning.specs.Trace.{Call, set_up, open_connection, close_connection, serve, Calls, finished, stopped, call, calls_of}
use Rattle.list_meaning.specs.Listing.{many_of, is_accepted, has_sent, recount, less_modulo, end_of, line_of, state_after, answers_after, ends_run, lines_of, lent_for, listing_of}
use Rattle.list_counts.specs.Waiting.{records_of, sum_waiting, Balanced, end_at, end_of_input}
use Rattle.list_counts.proofs.Sums.{same_or_not, sum_after}
use Rattle.std.proofs.lemmas.Bool.{and_parts, not-false}
use Rattle.list_counts.proofs.Served.{records_all, ranges_some, slot_balanced}

-- ---- the printed number

pub waiting_word : (s : State) (h : List Answer) → Balanced s h
    → less_modulo (recount h).accepted (recount h).sent ≡ sum_waiting (records_of s.ctl.v) s.words % slot_numbers
unfolding less_modulo recount slot_numbers
waiting_word s h b = omega (arith, b.even)

-- ---- open, close and setup keep the balance

get_or_replicate_zero : (k i : ℕ) → ◌≡◌ {A = ℕ} (get_or (replicate {A = ℕ} k 0) i 0) 0
get_or_replicate_zero zero i = refl
get_or_replicate_zero (suc k) zero = refl
get_or_replicate_zero (suc k) (suc i) = get_or_replicate_zero k i

-- words of which one connection's are written, where as much waits as before
module _ (s : State) (h : List Answer) (c : ℕ) (conn : Connection) (b : Balanced s h)
    (inside : words_per_connection * c + words_per_connection ≤ length s.words) (low : c < records_of s.ctl.v)
    (same : conn.waiting ≡ (connection_at s.words c).waiting) (fit : conn.opened ≡ 0 → conn.waiting ≡ 0) where
  written_balanced : Balanced (with_words s (write_connection s.words c conn)) h
  unfolding with_words
  written_balanced =
      record {
        even = omega (arith, b.even, same, sum_after s.words c conn inside (records_of s.ctl.v) low);
        closed = λ u l o.
            ⊎_elim
            (λ (q : u ≡ c).
            let r : connection_at (write_connection s.words c conn) u ≡ conn = ap (connection_at (write_connection s.words c conn)) q ∙ write_read s.words c conn inside in
            ap (λ (x : Connection). x.waiting) r ∙ fit (sym (ap (λ (x : Connection). x.opened) r) ∙ o))
            (λ (q : u ≢ c).
            let r = write_read_other s.words c conn u q in
            ap (λ (x : Connection). x.waiting) r ∙ b.closed u l (sym (ap (λ (x : Connection). x.opened) r) ∙ o))
            (same_or_not u c (eqb u c) refl);
      }

-- what is known of connection c where neither 1, 2, 4, 16 nor 3 is given
pub record Passed (r : Record) (words : List ℕ) (c : ℕ) : Type 0 where
  pub inside : words_per_connection * c + words_per_connection ≤ length words
  pub low : c < records_of r.v
  pub fits : connection_fits r.n (connection_at words c) ≡ true

refusal_zero : (b : Bool) (k x : ℕ) → 0 < k → (when not b then k else x) ≡ 0 → (b ≡ true) × (x ≡ 0)
refusal_zero true k x p e = (refl, e)
refusal_zero false k x p e = absurd (omega arith)

passed : (r : Record) (words : List ℕ) (who : ℕ) (name : Name) → shared_refusal r words who name ≡ 0 → Passed r words (number_in r.v name)
unfolding shared_refusal words_length
passed r words who name e =
    let a = refusal_zero (ranges_hold r.n r.v) 1 _ (omega arith) e in
    let s = refusal_zero (splits_hold r.v r.splitvci r.splitpath) 1 _ (omega arith) a.1 in
    let b = refusal_zero (length words =? words_in r.v) 2 _ (omega arith) s.1 in
    let c = refusal_zero (named r.v name) 4 _ (omega arith) b.1 in
    let o = refusal_zero (owns r who name) 16 _ (omega arith) c.1 in
    let d = refusal_zero (connection_fits r.n (connection_at words (number_in r.v name))) 3 0 (omega arith) o.1 in
    let l : number_in r.v name < connections_in r.v = number_low r.v name c.0 in
    let long : length words ≡ words_in r.v = eqb-true _ _ b.0 in
    record {
      inside = omega (arith, l, long);
      low = subst (λ (k : ℕ). number_in r.v name < k) (sym (records_all r.v (ranges_some r.n r.v a.0))) l;
      fits = d.0;
    }

choose_called : (P : Called → Type 0) (b : Bool) (x y : Called) → (b ≡ true → P x) → (b ≡ false → P y) → P (when b then x else y)
choose_called P true x y p q = p refl
choose_called P false x y p q = q refl

-- the words as they came
kept_balanced : (s : State) (h : List Answer) → Balanced s h → Balanced (with_words s s.words) h
unfolding with_words
kept_balanced s h b = record { even = b.even; closed = b.closed }

-- an open word that fits and is neither 0 nor 1 there is none
zero_opened : (N : ℕ) (vc : Connection) → connection_fits N vc ≡ true → vc.opened =? 1 ≡ false → vc.opened ≡ 0
unfolding connection_fits open_word_fits
zero_opened N vc f o = go (vc.opened =? 0) refl
  where
    go : (b : Bool) → vc.opened =? 0 ≡ b → vc.opened ≡ 0
    go true e = eqb-true _ _ e
    go false e =
        let g : (when vc.opened =? 0 then true else (vc.opened ≤? 1 && buckets_fit N vc && vc.waiting ≤? N)) ≡ true = f in
        let k : vc.opened ≤? 1 && buckets_fit N vc && vc.waiting ≤? N ≡ true = rw e at g in
        let l : vc.opened ≤ 1 = leb-true _ _ (and_parts (vc.opened ≤? 1) (buckets_fit N vc) (and_parts (vc.opened ≤? 1 && buckets_fit N vc) (vc.waiting ≤? N) k).0).0 in
        let n : vc.opened ≢ 1 = eqb-false _ _ o in
        omega (arith, l, n)

open_balanced : (s : State) (h : List Answer) (who : ℕ) (name : Name) (m F C : ℕ) (x : Second) → Balanced s h
    → Balanced (with_words s (open_call s.ctl s.words who name m F C x).words) h
unfolding open_call opened_connection
open_balanced s h who name m F C x b =
    let r = s.ctl in
    let c = number_in r.v name in
    let k = shared_refusal r s.words who name in
    let P : Called → Type 0 = λ k. Balanced (with_words s k.words) h in
    let kept = kept_balanced s h b in
    choose_called P (not (k =? 0)) _ _ (λ _. kept) (λ e.
    let p = passed r s.words who name (eqb-true k 0 (not-false (k =? 0) e)) in
    choose_called P ((connection_at s.words c).opened =? 1) _ _ (λ _. kept) (λ o.
    choose_called P (not (obeys_rules r.n (bucket_of m F C 0))) _ _ (λ _. kept) (λ _.
    choose_called P (not (second_obeys (bucket_of x.m x.F x.C 0) x.tag)) _ _ (λ _. kept) (λ _.
    let z = zero_opened r.n (connection_at s.words c) p.fits o in
    written_balanced s h c (opened_connection r.t (bucket_of m F C 0) x) b p.inside p.low (opened_none r ∙ sym (b.closed c p.low z)) (λ _. opened_none r)))))
  where
    opened_none : (r : Record) → (opened_connection r.t (bucket_of m F C 0) x).waiting ≡ 0
    opened_none r = refl

close_balanced : (s : State) (h : List Answer) (who : ℕ) (name : Name) → Balanced s h
    → Balanced (with_words s (close_call s.ctl s.words who name).words) h
unfolding close_call closed_connection
close_balanced s h who name b =
    let r = s.ctl in
    let c = number_in r.v name in
    let k = shared_refusal r s.words who name in
    let P : Called → Type 0 = λ x. Balanced (with_words s x.words) h in
    let kept = kept_balanced s h b in
    choose_called P (not (k =? 0)) _ _ (λ _. kept) (λ e.
    let p = passed r s.words who name (eqb-true k 0 (not-false (k =? 0) e)) in
    choose_called P ((connection_at s.words c).opened =? 0) _ _ (λ _. kept) (λ _.
    let none = (connection_at s.words c).waiting =? 0 in
    let paid = debt r.t (connection_at s.words c) =? 0 in
    choose_called P (not (none && paid)) _ _ (λ _. kept) (λ w.
    written_balanced s h c closed_connection b p.inside p.low (sym (eqb-true _ 0 (and_parts none paid (not-false (none && paid) w)).0)) (λ _. refl))))

-- no connection, no cell: a record of zeros
zeros_balanced : (lent : State) → Balanced (with_record lent zeros) []
unfolding zeros with_record records_of sum_waiting many_of
zeros_balanced lent = record { even = refl; closed = λ c l o. absurd (omega arith) }

cleared_connection : (k c : ℕ) → (connection_at (replicate k 0) c).waiting ≡ 0
unfolding connection_at
cleared_connection k c = get_or_replicate_zero k (waiting_place c)

cleared_sum : (k n : ℕ) → sum_waiting n (replicate k 0) ≡ 0
unfolding sum_waiting
cleared_sum k zero = refl
cleared_sum k (suc n) = omega (arith, cleared_sum k n, cleared_connection k n)

fresh_balanced : (N z : ℕ) (o : Options) → Balanced (fresh_state N z o) []
unfolding fresh_state fresh_record many_of
fresh_balanced N z o =
    record { even = omega (arith, cleared_sum (words_in z) (records_of z)); closed = λ c l k. cleared_connection (words_in z) c }

choose_set_up : (P : SetUp → Type 0) (b : Bool) (x y : SetUp) → P x → P y → P (when b then x else y)
choose_set_up P true x y p q = p
choose_set_up P false x y p q = q

pub setup_balanced : (N z : ℕ) (a : Asked) (lent : State)
    → Balanced (setup N z a lent).state []
unfolding setup
setup_balanced N z a lent =
    let P : SetUp → Type 0 = λ x. Balanced x.state [] in
    choose_set_up P (not (ranges_hold N z)) _ _ (zeros_balanced lent)
    (choose_set_up P (not (splits_hold z a.splitvci a.splitpath)) _ _ (zeros_balanced lent)
    (choose_set_up P (not (kind_in_range a.kind)) _ _ (zeros_balanced lent)
    (choose_set_up P (not (lengths_hold N z lent.cells lent.links lent.calendar lent.words lent.bits lent.arrived)) _ _ (zeros_balanced lent)
    (fresh_balanced N z (chosen a)))))

-- ---- every listing

pub call_balanced : (s : State) (h : List Answer) (c : Call) → Balanced s h → Balanced (state_after s c) (answers_after s h c)
unfolding state_after answers_after
call_balanced s h (set_up N z o) b = setup_balanced N z (asked_for o) s
call_balanced s h (open_connection name m F C x) b = open_balanced s h second_operator name m F C x b
call_balanced s h (close_connection name) b = close_balanced s h second_operator name b
call_balanced s h (serve cell) b = slot_balanced s cell h b

-- a run that ends with a call ends with a refused setup: no slot was served
ends_balanced : (s : State) (h : List Answer) (c : Call) → Balanced s h → ends_run s c ≡ true → Balanced (state_after s c) []
unfolding ends_run state_after
ends_balanced s h (set_up N z o) b e = setup_balanced N z (asked_for o) s
ends_balanced s h (open_connection name m F C x) b e = absurd (let z : ◌≡◌ {A = ℕ} 0 1 = cc in omega arith)
ends_balanced s h (close_connection name) b e = absurd (let z : ◌≡◌ {A = ℕ} 0 1 = cc in omega arith)
ends_balanced s h (serve cell) b e = absurd (let z : ◌≡◌ {A = ℕ} 0 1 = cc in omega arith)

-- the listing's last line is the end line over the answers at its end, and there the balance holds
pub record Ended (s : State) (h : List Answer) (cs : Calls) : Type 0 where
  pub before : List ℕ
  pub last : lines_of s h cs ≡ before ++ end_of (recount (end_at s h cs).answers)
  pub balance : Balanced (end_at s h cs).state (end_at s h cs).answers

lines_ended : (s : State) (h : List Answer) (cs : Calls) → Balanced s h → Ended s h cs
unfolding lines_of end_at
lines_ended s h finished b = record { before = []; last = refl; balance = b }
lines_ended s h (stopped place) b = record { before = stop_line place; last = refl; balance = b }
lines_ended s h (call c rest) b = go (ends_run s c) refl (lines_ended (state_after s c) (answers_after s h c) rest (call_balanced s h c b))
  where
    go : (e : Bool) → ends_run s c ≡ e → Ended (state_after s c) (answers_after s h c) rest → Ended s h (call c rest)
    go true e r = record { before = line_of s c; last = rw e; balance = rw e (ends_balanced s h c b e) }
    go false e r =
        record {
          before = line_of s c ++ r.before;
          last = rw e (ap (λ (x : List ℕ). line_of s c ++ x) r.last ∙ sym (append_assoc (line_of s c) r.before _));
          balance = rw e r.balance;
        }

lent_balanced : (cs : Calls) → Balanced (lent_for cs) []
unfolding lent_for with_record
lent_balanced finished = zeros_balanced (lent_for finished)
lent_balanced (stopped place) = zeros_balanced (lent_for (stopped place))
lent_balanced (call (set_up N z o) rest) = zeros_balanced (lent_for (call (set_up N z o) rest))
lent_balanced (call (open_connection name m F C x) rest) = zeros_balanced (lent_for (call (open_connection name m F C x) rest))
lent_balanced (call (close_connection name) rest) = zeros_balanced (lent_for (call (close_connection name) rest))
lent_balanced (call (serve cell) rest) = zeros_balanced (lent_for (call (serve cell) rest))

-- THE END LINE of every input's listing
pub record EndLine (input : List ℕ) : Type 0 where
  pub before : List ℕ
  pub last : listing_of input ≡ before ++ end_of (recount (end_of_input input).answers)
  -- "waiting": the sum of the waiting words, which is accepted less sent
  pub sum : sum_waiting (records_of (end_of_input input).state.ctl.v) (end_of_input input).state.words + many_of has_sent (end_of_input input).answers ≡ many_of is_accepted (end_of_input input).answers
  pub word : less_modulo (recount (end_of_input input).answers).accepted (recount (end_of_input input).answers).sent ≡ sum_waiting (records_of (end_of_input input).state.ctl.v) (end_of_input input).state.words % slot_numbers

pub end_line : (input : List ℕ) → EndLine input
unfolding listing_of end_of_input
end_line input =
    let e = lines_ended (lent_for (calls_of input)) [] (calls_of input) (lent_balanced (calls_of input)) in
    record { before = e.before; last = e.last; sum = e.balance.even; word = waiting_word _ _ e.balance }
