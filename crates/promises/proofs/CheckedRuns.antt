-- Request (i) over runs: what the invariant and document 01's slot behind the header check say of the next call; and a run
-- that is not raw, call for call beside one with no check.
use Prim.Native.Nat.{ℕ}
use mathlib.Core.Path.{◌≡◌, refl, sym, ap, ◌∙◌}
use mathlib.Core.Logic.{◌≢◌, ◌⊎◌, inl, inr}
use mathlib.Core.Bool.{Bool, true, false, not, cond, ◌&&◌, ◌||◌}
use mathlib.Core.List.{List, [], ◌∷◌}
use mathlib.Core.Option.{Option, none, some}
use native.Mathlib.Omega.{arith}
use borrow.Author.Tests.{eqb-true, ltb-true}
use lib.Dec.{eqb, ltb}
use lib.ListN.{length}
use Rattle.base_hec.specs.Check.{syndrome_of}
use Rattle.base_hec.specs.WrongBit.{no_error, wrong_bit, flipped}
use Rattle.base_hec.specs.Modes.{Arriving, correction, detection, passes, drops, checked, arriving}
use Rattle.meaning.specs.Plain.{◌=?◌}
use Rattle.meaning.specs.Numbers.{octets, dropped, lets_in}
use Rattle.meaning.specs.State.{State, with_words}
use Rattle.meaning.specs.Header.{header_at, clp_in, no_user_cell, Name, connection, names_connection}
use Rattle.meaning.specs.Words.{Second}
use Rattle.meaning.specs.Calls.{Options, raw_number, fresh_record, fresh_state}
use Rattle.meaning.specs.Work.{Work}
use Rattle.meaning.specs.Bits.{lowest_free}
use Rattle.meaning.specs.Slot.{unchecked_slot, slot}
use Rattle.meaning.proofs.CheckedLaws.{arriving_plain, arriving_none, not_raw, dropped_none}
use Rattle.meaning_runs.specs.Run.{Call, on_open_with, on_close, on_slot, Event, ran, Run, run_of, shown, let_in, call_at, call, calls, fresh_run, served}
use Rattle.meaning_runs.specs.Leak.{Opening, leak_accepts, sustains, verdict_by, accepts, opening_of}
use Rattle.meaning_runs.specs.Seen.{cells_in}
use Rattle.meaning_runs.specs.Judged.{Judged, judged_of, judged_under, judged_by, judged, judged_as}
use Rattle.meaning_runs.proofs.OutLaws.{if_holds}
use Rattle.meaning_runs.proofs.ModeLaws.{raw_kept, mode_moved, slot_stays}
use Rattle.theory_invariant.proofs.RunLaws.{Kept}
use Rattle.theory_invariant.proofs.CheckLaws.{slot_is, slot_served, slot_refused}
use Rattle.promises.specs.Checked.{Lent, after, mode_of, Mended, HeaderCheck, plain_call, plain_calls}

-- ── raw never changes ──
pub fresh_raw : (N z : ℕ) (o : Options) → (fresh_state N z o).ctl.raw ≡ raw_number o.raw
unfolding fresh_state fresh_record
fresh_raw N z o = refl

call_raw : (r : Run) (c : Call) → (call r c).state.ctl.raw ≡ r.state.ctl.raw
unfolding call call_at slot with_words
call_raw r (on_open_with who name m F C x) = refl
call_raw r (on_close who name) = refl
call_raw r (on_slot cell) = raw_kept (lowest_free r.state.bits) r.state cell

calls_raw : (r : Run) (cs : List Call) → (calls r cs).state.ctl.raw ≡ r.state.ctl.raw
unfolding calls
calls_raw r [] = refl
calls_raw r (c ∷ cs) = calls_raw (call r c) cs ∙ call_raw r c

pub raw_always : (N z : ℕ) (o : Options) (cs : List Call) → (calls (fresh_run N z o) cs).state.ctl.raw ≡ raw_number o.raw
unfolding fresh_run
raw_always N z o cs = calls_raw (run_of (fresh_state N z o) []) cs ∙ fresh_raw N z o

-- ── verdict 4 is the header check's alone ──
under_other : (t vci c clp : ℕ) (o : Option Opening) → (judged_under t vci c clp o).verdict ≢ dropped
unfolding verdict_by
under_other t vci c clp none = λ e. omega (arith, e)
under_other t vci c clp (some o) =
    if_holds (λ (k : ℕ). k ≢ dropped) (not (leak_accepts o t)) _ _ (λ _ e. omega (arith, e))
    (λ _. if_holds (λ (k : ℕ). k ≢ dropped) (clp =? 0 && not (sustains o t)) _ _
    (λ _. if_holds (λ (k : ℕ). k ≢ dropped) (o.second.tag =? 0) _ _ (λ _ e. omega (arith, e)) (λ _ e. omega (arith, e)))
    (λ _ e. omega (arith, e)))

judged_other : (kind z t : ℕ) (openings : ℕ → Option Opening) (cell : List ℕ) → (judged_by kind z t openings cell).verdict ≢ dropped
unfolding judged_by
judged_other kind z t openings cell =
    let h = header_at kind cell 0 in
    if_holds (λ (j : Judged). j.verdict ≢ dropped) (length cell =? 0 || no_user_cell h) _ _ (λ _ e. omega (arith, e))
    (λ _. if_holds (λ (j : Judged). j.verdict ≢ dropped) (not (names_connection z h)) _ _ (λ _ e. omega (arith, e))
    (λ _. under_other t h.vci (connection z h) (clp_in cell) (openings (connection z h))))

-- ── what the check lets through ──
lets_by : (a b c d : Bool) (mode bit : ℕ) (cell : List ℕ) → eqb mode correction ≡ c → ltb bit no_error ≡ d
    → let x = cond a (passes cell mode) (cond b (passes cell correction) (cond (c && d) (passes (flipped bit cell) detection) (drops detection))) in
    x.dropped ≡ false → (x.cell ≡ cell) ⊎ Mended mode cell x
lets_by true b c d mode bit cell e f n = inl refl
lets_by false true c d mode bit cell e f n = inl refl
lets_by false false true true mode bit cell e f n =
    inr (record {
      bit = bit;
      of_forty = ltb-true bit no_error f;
      mends_in = eqb-true mode correction e;
      mended = refl;
      leads_to = refl;
    })
lets_by false false true false mode bit cell e f n = absurd (let y : ◌≡◌ {A = ℕ} 0 1 = cc in omega arith)
lets_by false false false d mode bit cell e f n = absurd (let y : ◌≡◌ {A = ℕ} 0 1 = cc in omega arith)

lets_in_lem : (raw mode : ℕ) (cell : List ℕ) → (arriving raw mode cell).dropped ≡ false
    → ((arriving raw mode cell).cell ≡ cell) ⊎ Mended mode cell (arriving raw mode cell)
unfolding arriving checked
lets_in_lem raw mode cell =
    let bit = wrong_bit (syndrome_of cell) in
    lets_by (eqb (length cell) 0 || eqb raw 0) (eqb bit no_error) (eqb mode correction) (ltb bit no_error) mode bit cell refl refl

module _ (N z kind : ℕ) (raw : Bool) (r : Run) (k : Kept N z kind r) where
  abbrev s : State
  s = r.state

  abbrev h : List Event
  h = r.events

  number_is : (cell : List ℕ) → Lent cell → (slot s cell).answer.number ≡ 0
  number_is cell lent = (slot_served N z kind h s k.inv cell lent).number

  noted : (cell : List ℕ) → (after r cell).events ≡ ran (let_in s cell).cell (slot s cell).answer (shown (slot s cell)) ∷ h
  unfolding call call_at slot
  noted cell = refl

  moved : (cell : List ℕ) → Lent cell → mode_of (after r cell) ≡ (let_in s cell).mode
  unfolding call call_at slot
  moved cell lent = mode_moved (lowest_free s.bits) s cell (number_is cell lent)

  none_keeps : mode_of (after r []) ≡ mode_of r
  none_keeps = moved [] refl ∙ ap (λ (a : Arriving). a.mode) (arriving_none s.ctl.raw s.ctl.mode [] refl)

  refused_keeps : (cell : List ℕ) → (slot s cell).answer.number ≢ 0 → mode_of (after r cell) ≡ mode_of r
  unfolding call call_at slot
  refused_keeps cell ne = ap (λ (x : State). x.ctl.mode) (slot_stays (lowest_free s.bits) s cell ne)

  open_keeps : (who : ℕ) (name : Name) (m F C : ℕ) (x : Second) → mode_of (call r (on_open_with who name m F C x)) ≡ mode_of r
  unfolding call call_at slot with_words
  open_keeps who name m F C x = refl

  close_keeps : (who : ℕ) (name : Name) → mode_of (call r (on_close who name)) ≡ mode_of r
  unfolding call call_at slot with_words
  close_keeps who name = refl

  says : (cell : List ℕ) → Lent cell
      → judged_of (slot s cell).answer.verdict (slot s cell).answer.vci (slot s cell).answer.d ≡ judged_as kind z h (let_in s cell)
  says cell lent = (slot_served N z kind h s k.inv cell lent).says

  dropped_is : (cell : List ℕ) → Lent cell → (let_in s cell).dropped ≡ true
      → judged_of (slot s cell).answer.verdict (slot s cell).answer.vci (slot s cell).answer.d ≡ judged_of dropped 0 0
  dropped_is cell lent e = says cell lent ∙ rw e

  let_in_is : (cell : List ℕ) → Lent cell → (let_in s cell).dropped ≡ false
      → judged_of (slot s cell).answer.verdict (slot s cell).answer.vci (slot s cell).answer.d ≡ judged kind z h (let_in s cell).cell
  let_in_is cell lent e = says cell lent ∙ rw e

  -- no cell more, and no opening moved
  adds_no_cell : (cell : List ℕ) → Lent cell → (let_in s cell).dropped ≡ true → cells_in (after r cell).events ≡ cells_in h
  unfolding call call_at slot cells_in lets_in
  adds_no_cell cell lent e = rw (ap (λ (j : Judged). j.verdict) (dropped_is cell lent e))

  moves_no_opening : (cell : List ℕ) → Lent cell → (let_in s cell).dropped ≡ true → (v : ℕ)
      → opening_of v (after r cell).events ≡ opening_of v h
  unfolding call call_at slot opening_of accepts lets_in
  moves_no_opening cell lent e v = rw (ap (λ (j : Judged). j.verdict) (dropped_is cell lent e))

  only_dropped : (cell : List ℕ) → (slot s cell).answer.verdict ≡ dropped → (let_in s cell).dropped ≡ true
  only_dropped cell four = go (length cell =? 0 || length cell =? octets) (let_in s cell).dropped refl refl
    where
      go : (b d : Bool) → length cell =? 0 || length cell =? octets ≡ b → (let_in s cell).dropped ≡ d → d ≡ true
      go b true e f = refl
      go false false e f =
          absurd (omega (arith, four, ap (λ (w : Work). w.answer.verdict) (slot_refused N z kind h s k.inv cell e)))
      go true false e f =
          let said = ap (λ (j : Judged). j.verdict) (let_in_is cell e f) in
          absurd (judged_other kind z (served h) (λ v. opening_of v h) (let_in s cell).cell (sym said ∙ four))

  pub check_kept : s.ctl.raw ≡ raw_number raw → HeaderCheck raw r
  check_kept same =
      record {
        raw_is = same;
        mode_low = k.inv.mode_low;
        serves = number_is;
        is_checked_lem = slot_is N z kind h s k.inv;
        notes = noted;
        lets_in_lem = lets_in_lem s.ctl.raw s.ctl.mode;
        moves = moved;
        none_keeps = none_keeps;
        refused_keeps = refused_keeps;
        open_keeps = open_keeps;
        close_keeps = close_keeps;
        drops = λ cell lent e.
            let j = dropped_is cell lent e in (
              ap (λ (x : Judged). x.verdict) j,
              ap (λ (x : Judged). x.vci) j,
              ap (λ (x : Judged). x.D) j,
              dropped_none s.ctl.raw s.ctl.mode cell e,
            );
        adds_none = λ cell lent e. (adds_no_cell cell lent e, moves_no_opening cell lent e);
        no_other = only_dropped;
      }

-- ── a policer that is not raw ──
plain_call_lem : (r : Run) (c : Call) → r.state.ctl.raw ≡ 0 → call r c ≡ plain_call r c
unfolding call call_at slot unchecked_slot plain_call
plain_call_lem r (on_open_with who name m F C x) e = refl
plain_call_lem r (on_close who name) e = refl
plain_call_lem r (on_slot cell) e =
    ap (λ (a : Arriving). run_of (slot r.state cell).state
    (ran a.cell (slot r.state cell).answer (shown (slot r.state cell)) ∷ r.events))
    (arriving_plain r.state.ctl.raw r.state.ctl.mode cell e)
    ∙ ap (λ (w : Work). run_of w.state (ran cell w.answer (shown w) ∷ r.events)) (not_raw (lowest_free r.state.bits) r.state cell e)

pub plain_before : (r : Run) (cs : List Call) → r.state.ctl.raw ≡ 0 → calls r cs ≡ plain_calls r cs
unfolding calls plain_calls
plain_before r [] e = refl
plain_before r (c ∷ cs) e =
    plain_before (call r c) cs (call_raw r c ∙ e) ∙ ap (λ (r' : Run). plain_calls r' cs) (plain_call_lem r c e)
