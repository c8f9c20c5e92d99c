-- From setup on, the 32-bit slot number decides as a clock that never wraps, over runs of any length: each call agrees
-- (SlotAgrees, CallsAgree), and the fresh states agree.
use Prim.Native.Nat.{ℕ, zero, suc, ◌+◌, ◌-◌}
use mathlib.Core.Path.{◌≡◌, refl, sym, ◌∙◌, ap}
use mathlib.Core.Bool.{Bool, true, not}
use mathlib.Core.List.{List, [], ◌∷◌}
use native.Mathlib.Omega.{arith}
use native.Mathlib.Nat.{mod-eq_of_lt}
use borrow.Author.Tests.{eq-eqb, not-false}
use lib.ListN.{get_or, replicate, length-replicate}
use Rattle.meaning.specs.Plain.{when◌then◌else◌, ◌=?◌}
use Rattle.meaning.specs.Numbers.{ranges_hold, splits_hold, open_place, connections_in, kind_in_range, words_in}
use Rattle.meaning.specs.State.{State, lengths_hold, with_record, with_words, with_arrived, record_with, with_clock}
use Rattle.meaning.specs.Header.{number_in}
use Rattle.meaning.specs.Words.{Connection, connection_at, write_connection}
use Rattle.meaning.specs.Calls.{Asked, Options, chosen, Called, SetUp, fresh_record, fresh_state, setup}
use Rattle.meaning.specs.Work.{Work}
use Rattle.meaning.specs.Slot.{slot}
use Rattle.meaning.proofs.WordsLaws.{write_stored}
use Rattle.meaning.specs.Line.{line_cell}
use Rattle.meaning_runs.specs.Run.{Call, on_open_with, on_close, on_slot, opened, closed, ran, Run, run_of, shown, let_in, call_at, call, calls, fresh_run, served}
use Rattle.meaning_runs.proofs.OutLaws.{if_holds}
use Rattle.theory_clock.specs.Stored.{stored_connection, stored_words, stored_state, stored_work, stored_called}
use Rattle.theory_clock.specs.Unwrapped.{unwrapped_slot, unwrapped_fresh}
use Rattle.theory_clock.specs.Kept.{Kept}
use Rattle.theory_clock.specs.UnwrappedRun.{unwrapped_call, unwrapped_calls, unwrapped_fresh_run, NeverWraps}
use Rattle.theory_clock.proofs.Wrap.{stored_zero, arrivals_none}
use Rattle.theory_clock.proofs.SlotAgrees.{slot_agrees, slot_keeps, slot_counts}
use Rattle.theory_clock.proofs.CallsAgree.{open_agrees, open_keeps, close_agrees, close_keeps}

-- words that are all 0: every connection is closed, so nothing is stored otherwise
zeros : ℕ → List ℕ
zeros k = replicate k 0

zeros_at : (k i : ℕ) → get_or (zeros k) i 0 ≡ 0
unfolding zeros
zeros_at zero i = refl
zeros_at (suc k) zero = refl
zeros_at (suc k) (suc i) = zeros_at k i

closed_stored : (vc : Connection) → vc.opened ≡ 0 → stored_connection vc ≡ vc
unfolding stored_connection
closed_stored vc e = rw (eq-eqb vc.opened 0 e)

fresh_words : (R k : ℕ) → stored_words R (zeros k) ≡ zeros k
unfolding stored_words connection_at
fresh_words zero k = refl
fresh_words (suc R) k =
    ap (λ (l : List ℕ). write_connection l R (stored_connection (connection_at (zeros k) R))) (fresh_words R k)
    ∙ ap (write_connection (zeros k) R) (closed_stored (connection_at (zeros k) R) (zeros_at k (open_place R)))
    ∙ write_stored (zeros k) R

-- after setup t is 2^32-1, which is what is stored of 0 slots served
pub fresh_agrees : (N z : ℕ) (o : Options) → stored_state (unwrapped_fresh N z o) ≡ fresh_state N z o
unfolding stored_state unwrapped_fresh fresh_state fresh_record with_clock with_record with_words with_arrived record_with zeros
fresh_agrees N z o = rw (stored_zero, fresh_words (connections_in z) (words_in z), arrivals_none N)

pub fresh_kept : (N z : ℕ) (o : Options) → Kept (unwrapped_fresh N z o)
unfolding unwrapped_fresh fresh_state fresh_record with_clock with_record record_with connection_at zeros
fresh_kept N z o =
    record {
      turns = omega (arith, mod-eq_of_lt {n = 0 + connections_in z - 1} {m = connections_in z} (omega arith));
      recent = record {
        long = length-replicate (words_in z) 0;
        behind = λ vci a b o. absurd (o (zeros_at (words_in z) (open_place vci)));
      };
    }

unfoldable pub stored_run : Run → Run
stored_run r = run_of (stored_state r.state) r.events

pub call_agrees : (r : Run) (c : Call) → Kept r.state → call (stored_run r) c ≡ stored_run (unwrapped_call r c)
unfolding call call_at slot unwrapped_call stored_run stored_called stored_work stored_state with_clock with_record with_words with_arrived record_with shown
call_agrees r (on_open_with who name m F C x) kept =
    ap (λ (c : Called). run_of (with_words (stored_state r.state) c.words) (opened who (number_in r.state.ctl.v name) m F C x c.number ∷ r.events))
    (open_agrees r.state who name m F C x kept)
call_agrees r (on_close who name) kept =
    ap (λ (c : Called). run_of (with_words (stored_state r.state) c.words) (closed who (number_in r.state.ctl.v name) c.number ∷ r.events))
    (close_agrees r.state who name kept)
call_agrees r (on_slot cell) kept =
    ap (λ (w : Work). run_of w.state (ran (let_in r.state cell).cell w.answer (shown w) ∷ r.events))
    (slot_agrees r.state cell kept)

pub call_keeps : (r : Run) (c : Call) → Kept r.state → Kept (unwrapped_call r c).state
unfolding unwrapped_call
call_keeps r (on_open_with who name m F C x) kept = open_keeps r.state who name m F C x kept
call_keeps r (on_close who name) kept = close_keeps r.state who name kept
call_keeps r (on_slot cell) kept = slot_keeps r.state cell kept

-- a run whose clock is the number of slots that its events served
pub call_counts : (r : Run) (c : Call) → Kept r.state → r.state.ctl.t ≡ served r.events
    → (unwrapped_call r c).state.ctl.t ≡ served (unwrapped_call r c).events
unfolding unwrapped_call served with_words
call_counts r (on_open_with who name m F C x) kept e = e
call_counts r (on_close who name) kept e = e
call_counts r (on_slot cell) kept e =
    slot_counts r.state cell kept ∙ ap (λ (n : ℕ). (when (unwrapped_slot r.state cell).answer.number =? 0 then 1 else 0) + n) e

-- any number of calls, from any run that agrees so far
calls_agree : (r : Run) (cs : List Call) → Kept r.state → r.state.ctl.t ≡ served r.events
    → (calls (stored_run r) cs ≡ stored_run (unwrapped_calls r cs))
    × ((unwrapped_calls r cs).state.ctl.t ≡ served (unwrapped_calls r cs).events)
    × Kept (unwrapped_calls r cs).state
unfolding calls unwrapped_calls
calls_agree r [] kept e = (refl, e, kept)
calls_agree r (c ∷ cs) kept e =
    let rest = calls_agree (unwrapped_call r c) cs (call_keeps r c kept) (call_counts r c kept e) in
    (ap (λ (r' : Run). calls r' cs) (call_agrees r c kept) ∙ rest.0, rest.1, rest.2)

fresh_counts : (N z : ℕ) (o : Options) → (unwrapped_fresh N z o).ctl.t ≡ served []
unfolding unwrapped_fresh fresh_state with_clock with_record record_with served
fresh_counts N z o = refl

pub never_wraps : (N z : ℕ) (o : Options) → ranges_hold N z ≡ true → (cs : List Call) → NeverWraps N z o cs
unfolding fresh_run unwrapped_fresh_run stored_run stored_state with_clock with_record with_words with_arrived
never_wraps N z o range cs =
    let fresh = run_of (unwrapped_fresh N z o) [] in
    let all = calls_agree fresh cs (fresh_kept N z o) (fresh_counts N z o) in
    let same = ap (λ (s : State). calls (run_of s []) cs) (sym (fresh_agrees N z o)) ∙ all.0 in
    record {
      memories = ap (λ (r : Run). r.state) same;
      answers = ap (λ (r : Run). r.events) same;
      line = λ idle number. ap (λ (r : Run). line_cell r.state.cells idle number) same;
      clock = all.1 ∙ ap (λ (r : Run). served r.events) (sym same);
      rotation = all.2;
    }

-- "'From a fresh state' means that a setup has answered 0": whatever the lent memories held before
pub setup_fresh : (N z : ℕ) (a : Asked) (lent : State)
    → (setup N z a lent).number ≡ 0
    → (ranges_hold N z ≡ true)
    × ((setup N z a lent).state ≡ fresh_state N z (chosen a))
unfolding setup
setup_fresh N z a lent =
    if_holds P (not (ranges_hold N z)) _ _ (λ _ p. absurd (omega arith))
    (λ range. if_holds P (not (splits_hold z a.splitvci a.splitpath)) _ _ (λ _ p. absurd (omega arith))
    (λ _. if_holds P (not (kind_in_range a.kind)) _ _ (λ _ p. absurd (omega arith))
    (λ _. if_holds P (not (lengths_hold N z lent.cells lent.links lent.calendar lent.words lent.bits lent.arrived)) _ _ (λ _ p. absurd (omega arith))
    (λ _ p. (not-false (ranges_hold N z) range, refl)))))
  where
    P : SetUp → Type 0
    P u = u.number ≡ 0 → (ranges_hold N z ≡ true) × (u.state ≡ fresh_state N z (chosen a))

pub never_wraps_after_setup : (N z : ℕ) (a : Asked) (lent : State)
    → (setup N z a lent).number ≡ 0 → (cs : List Call)
    → ((setup N z a lent).state ≡ (fresh_run N z (chosen a)).state)
    × NeverWraps N z (chosen a) cs
unfolding fresh_run
never_wraps_after_setup N z a lent p cs =
    let f = setup_fresh N z a lent p in
    (f.1, never_wraps N z (chosen a) f.0 cs)
