-- Each step of a slot over the stored state gives the stored outcome of the unwrapped step, while no open connection is 2^32
-- slots behind.
use Prim.Native.Nat.{ℕ, ◌+◌, ◌-◌, ◌%◌, ◌≤◌, ◌<◌}
use mathlib.Core.Path.{◌≡◌, refl, sym, ◌∙◌, ap}
use mathlib.Core.Bool.{Bool, true, false, not, ◌&&◌}
use mathlib.Core.List.{List}
use native.Mathlib.Omega.{arith}
use borrow.Author.Tests.{eqb-false, not-false}
use lib.ListN.{length, get_or}
use Rattle.meaning.specs.Plain.{when◌then◌else◌, ◌<?◌, ◌≤?◌, ◌=?◌, Out, next, needs, ◌and_then◌}
use Rattle.meaning.specs.Numbers.{excess, unknown, open_place, cell_start, connections_in, unused, kind_in_range, words_in}
use Rattle.meaning.specs.State.{with_record, with_cells, with_links, with_calendar, with_words, record_with}
use Rattle.meaning.specs.State.{with_clock, with_bits, with_arrived, with_free, with_output_list, output_list}
use Rattle.meaning.specs.Bits.{is_free_space, spaces_fit, given}
use Rattle.meaning.specs.Header.{Header, header_at, clp_in, no_user_cell, connection, names_connection, names_open}
use Rattle.meaning.specs.Bucket.{delay, fill}
use Rattle.meaning.specs.Words.{Connection, connection_at, with_waiting, with_buckets, open_word_fits, buckets_fit, fallen_to, up_to_date}
use Rattle.meaning.specs.Lists.{is_empty, ends_fit, entry_at, Taken, take_head}
use Rattle.meaning.specs.Work.{Work, with_state, with_connection, with_arrival, with_departure}
use Rattle.meaning.specs.Arrival.{verdict_on, second_after, sent_as, place, accept, judge}
use Rattle.meaning.specs.Slot.{step1, step2, step3, step4, depart, step5}
use Rattle.meaning.proofs.NamesLaws.{names_low, names_used}
use Rattle.theory_clock.specs.Stored.{stored, stored_connection, stored_words, stored_state, stored_work}
use Rattle.theory_clock.specs.Unwrapped.{caught_up, tick, rotate, arrive}
use Rattle.theory_clock.specs.Kept.{longest, Behind}
use Rattle.theory_clock.proofs.Wrap.{stored_next, arrivals_set, elapsed_true}
use Rattle.theory_clock.proofs.Outs.{both_true, map_out, needs_map, if_map, then_map, then_same}
use Rattle.theory_clock.proofs.WordsStored.{stored_read, stored_write, opened_stored}

-- "1. t grows by one modulo 2^32": as the number of slots served does
pub step1_stored : (w : Work) → step1 (stored_work w) ≡ map_out stored_work (tick w)
unfolding step1 tick stored_work stored_state with_clock with_record with_words with_arrived record_with
step1_stored w =
    let s = w.state in
    let r = s.ctl in
    needs_map stored_work (r.turn <? r.n && r.rotation <? connections_in r.v) _ _
    (λ _. ap (λ (t : ℕ). next (with_state (stored_work w) (with_clock (stored_state s) t ((r.turn + 1) % r.n) ((r.rotation + 1) % connections_in r.v))))
    (stored_next r.t))

-- an open connection that is not 2^32 slots behind is brought up to date alike
pub up_stored : (N k : ℕ) (vc : Connection) → vc.opened =? 0 ≡ false → vc.last ≤ k → k ≤ vc.last + longest
    → up_to_date N (stored k) (stored_connection vc) ≡ map_out stored_connection (caught_up N k vc)
unfolding up_to_date caught_up fallen_to buckets_fit stored_connection
up_stored N k vc o a b =
    needs_map stored_connection (buckets_fit N vc) _ _
    (λ _. rw o (rw (elapsed_true k vc.last a b)))

-- a connection's words are written
pub connection_stored : (w : Work) (v : ℕ) (vc : Connection) → v < connections_in w.state.ctl.v → length w.state.words ≡ words_in w.state.ctl.v
    → with_connection (stored_work w) v (stored_connection vc) ≡ stored_work (with_connection w v vc)
unfolding stored_work stored_state with_clock with_record with_words with_arrived record_with
connection_stored w v vc h long =
    ap (λ (l : List ℕ). with_state (stored_work w) (with_words (stored_state w.state) l))
    (sym (stored_write (connections_in w.state.ctl.v) w.state.words v vc h long))

-- what steps 2 and 3 do with a connection: nothing of their own (x) where it is closed, and f or g of it up to date where it is open
at_stored : (w : Work) (v : ℕ) (x : Out Work) (f g : Connection → Out Work) → v < connections_in w.state.ctl.v
    → length w.state.words ≡ words_in w.state.ctl.v
    → Behind w.state.ctl.t longest (connection_at w.state.words v)
    → ((vc : Connection) → f (stored_connection vc) ≡ map_out stored_work (g vc))
    → needs (open_word_fits (connection_at (stored_words (connections_in w.state.ctl.v) w.state.words) v))
    (when (connection_at (stored_words (connections_in w.state.ctl.v) w.state.words) v).opened =? 0 then map_out stored_work x
    else (up_to_date w.state.ctl.n (stored w.state.ctl.t) (connection_at (stored_words (connections_in w.state.ctl.v) w.state.words) v) and_then f))
    ≡ map_out stored_work
    (needs (open_word_fits (connection_at w.state.words v))
    (when (connection_at w.state.words v).opened =? 0 then x
    else (caught_up w.state.ctl.n w.state.ctl.t (connection_at w.state.words v) and_then g)))
unfolding open_word_fits stored_connection
at_stored w v x f g low long near same =
    let s = w.state in
    let vc = connection_at s.words v in
    rw (stored_read (connections_in s.ctl.v) s.words v low (omega arith))
    (needs_map stored_work (vc.opened ≤? 1) _ _
    (λ _. if_map stored_work (vc.opened =? 0) _ _ _ _ (λ _. refl)
    (λ o. let b = near (eqb-false vc.opened 0 o) in
    ap (λ (y : Out Connection). y and_then f) (up_stored s.ctl.n s.ctl.t vc o b.0 b.1)
    ∙ then_map stored_connection stored_work (caught_up s.ctl.n s.ctl.t vc) f g same)))

-- "2. If the VC that rotation names is open, it is brought up to date"
pub step2_stored : (w : Work) → w.state.ctl.rotation < connections_in w.state.ctl.v → length w.state.words ≡ words_in w.state.ctl.v
    → ((vci : ℕ) → unused w.state.ctl.v vci ≡ false → vci < connections_in w.state.ctl.v → Behind w.state.ctl.t longest (connection_at w.state.words vci))
    → step2 (stored_work w) ≡ map_out stored_work (rotate w)
unfolding step2 rotate stored_work stored_state with_clock with_record with_words with_arrived record_with
step2_stored w low long near =
    let s = w.state in
    let vci = s.ctl.rotation in
    let vc = connection_at s.words vci in
    if_map stored_work (unused s.ctl.v vci) _ _ _ _ (λ _. refl)
    (λ used. at_stored w vci (next w) _ (λ now. next (with_connection w vci now)) low long
    (near vci used low)
    (λ vc. ap next (connection_stored w vci vc low long)))

-- "3. Arrival at an open VC", from the end: the cell's place, the verdict, the whole step
pub place_stored : (cell : List ℕ) (D x : ℕ) (w : Work) → 1 ≤ w.state.ctl.t → place cell D x (stored_work w) ≡ map_out stored_work (place cell D x w)
unfolding place stored_work stored_state with_clock with_record with_words with_arrived record_with with_free with_bits with_cells with_links with_calendar
place_stored cell D x w begun =
    let s = w.state in
    needs_map stored_work (ends_fit s.ctl.n (entry_at s.calendar ((s.ctl.turn + D) % s.ctl.n))) _ _
    (λ _. rw (arrivals_set s.arrived x s.ctl.t begun))

pub judge_stored : (x : ℕ) (cell : List ℕ) (v : ℕ) (w : Work) (vc : Connection) → v < connections_in w.state.ctl.v → length w.state.words ≡ words_in w.state.ctl.v
    → 1 ≤ w.state.ctl.t → judge x cell v (stored_work w) (stored_connection vc) ≡ map_out stored_work (judge x cell v w vc)
unfolding judge accept verdict_on stored_work stored_state stored_connection with_clock with_record with_words with_arrived record_with
judge_stored x cell v w vc h long begun =
    let s = w.state in
    let D = delay vc.bucket in
    let clp = clp_in cell in
    let verdict = verdict_on clp vc in
    let sent = sent_as verdict cell in
    let filled = with_waiting (with_buckets vc (fill vc.bucket) (second_after clp verdict vc.second)) (vc.waiting + 1) in
    if_map stored_work (verdict =? excess) _ _ _ _
    (λ _. ap (λ (w' : Work). next (with_arrival w' excess v 0)) (connection_stored w v vc h long))
    (λ _. needs_map stored_work (vc.waiting <? s.ctl.n) _ _
    (λ _. needs_map stored_work (spaces_fit s.ctl.n s.ctl.free s.bits && not (s.ctl.free =? 0)) _ _
    (λ _. needs_map stored_work (is_free_space s.bits x) _ _
    (λ _. ap (λ (w' : Work). place sent D x (with_arrival w' verdict v D)) (connection_stored w v filled h long)
    ∙ place_stored sent D x (with_arrival (with_connection w v filled) verdict v D) begun))))

pub step3_stored : (x : ℕ) (cell : List ℕ) (w : Work) → length w.state.words ≡ words_in w.state.ctl.v → 1 ≤ w.state.ctl.t
    → ((vci : ℕ) → unused w.state.ctl.v vci ≡ false → vci < connections_in w.state.ctl.v → Behind w.state.ctl.t longest (connection_at w.state.words vci))
    → step3 x cell (stored_work w) ≡ map_out stored_work (arrive x cell w)
unfolding step3 arrive stored_work stored_state with_clock with_record with_words with_arrived record_with
step3_stored x cell w long begun near =
    let s = w.state in
    let h = header_at s.ctl.kind cell 0 in
    let c = connection s.ctl.v h in
    if_map stored_work (length cell =? 0) _ _ _ _ (λ _. refl)
    (λ _. needs_map stored_work (kind_in_range s.ctl.kind) _ _
    (λ _. if_map stored_work (no_user_cell h) _ _ _ _ (λ _. refl)
    (λ _. if_map stored_work (not (names_connection s.ctl.v h)) _ _ _ _ (λ _. refl)
    (λ e. let named = not-false (names_connection s.ctl.v h) e in
    let low = names_low s.ctl.v h named in
    at_stored w c (next (with_arrival w unknown h.vci 0)) _ (judge x cell c w) low long
    (near c (names_used s.ctl.v h named) low)
    (λ vc. judge_stored x cell c w vc low long begun)))))

-- "4. Entry T, if marked, is joined to the end of the Output List"
pub step4_stored : (w : Work) → step4 (stored_work w) ≡ map_out stored_work (step4 w)
unfolding step4 stored_work stored_state with_clock with_record with_words with_arrived record_with with_output_list with_links with_calendar with_bits
step4_stored w =
    let s = w.state in
    let entry = entry_at s.calendar s.ctl.turn in
    needs_map stored_work (ends_fit s.ctl.n entry && ends_fit s.ctl.n (output_list s)) _ _
    (λ _. if_map stored_work (is_empty entry) _ _ _ _ (λ _. refl) (λ _. refl))

-- "5. The head of the Output List, if any, departs.": the departing header reads alike
pub names_stored : (z : ℕ) (l : List ℕ) (h : Header) → length l ≡ words_in z
    → names_open z (stored_words (connections_in z) l) h ≡ names_open z l h
unfolding names_open
names_stored z l h long = go (names_connection z h) refl
  where
    go : (b : Bool) → names_connection z h ≡ b
        → b && get_or (stored_words (connections_in z) l) (open_place (connection z h)) 0 =? 1 ≡ b && get_or l (open_place (connection z h)) 0 =? 1
    go true e = ap (λ (o : ℕ). o =? 1) (opened_stored (connections_in z) l (connection z h) (names_low z h e) (omega arith))
    go false e = refl

pub open_names : (z : ℕ) (l : List ℕ) (h : Header) → names_open z l h ≡ true → names_connection z h ≡ true
unfolding names_open
open_names z l h p = (both_true (names_connection z h) (get_or l (open_place (connection z h)) 0 =? 1) p).0

pub depart_stored : (w : Work) (taken : Taken) → length w.state.words ≡ words_in w.state.ctl.v
    → depart (stored_work w) taken ≡ map_out stored_work (depart w taken)
unfolding depart stored_connection stored_work stored_state with_clock with_record with_words with_arrived record_with with_free with_bits with_output_list
depart_stored w taken long =
    let s = w.state in
    let h = header_at s.ctl.kind s.cells (cell_start taken.space) in
    let c = connection s.ctl.v h in
    rw (names_stored s.ctl.v s.words h long)
    (needs_map stored_work (kind_in_range s.ctl.kind && names_open s.ctl.v s.words h) _ _
    (λ e. let low = names_low s.ctl.v h (open_names s.ctl.v s.words h
    (both_true (kind_in_range s.ctl.kind) (names_open s.ctl.v s.words h) e).1) in
    let vc = connection_at s.words c in
    let s2 = with_free (with_output_list s taken.left) (s.ctl.free + 1) (given s.bits taken.space) in
    rw (stored_read (connections_in s.ctl.v) s.words c low (omega arith))
    (needs_map stored_work (1 ≤? vc.waiting && vc.waiting ≤? s.ctl.n) _ _
    (λ _. needs_map stored_work (spaces_fit s.ctl.n s.ctl.free s.bits && not (is_free_space s.bits taken.space)) _ _
    (λ _. ap (λ (w' : Work). next (with_departure w' taken.space c))
    (connection_stored (with_state w s2) c (with_waiting vc (vc.waiting - 1)) low long))))))

pub step5_stored : (w : Work) → length w.state.words ≡ words_in w.state.ctl.v
    → step5 (stored_work w) ≡ map_out stored_work (step5 w)
unfolding step5 stored_work stored_state with_clock with_record with_words with_arrived record_with
step5_stored w long =
    let s = w.state in
    if_map stored_work (is_empty (output_list s)) _ _ _ _ (λ _. refl)
    (λ _. then_same stored_work (take_head s.ctl.n s.links (output_list s)) _ _ (λ taken. depart_stored w taken long))
