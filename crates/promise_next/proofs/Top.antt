-- REQUEST (ix), of every run from a fresh state: the audit says yes, so the answer is the walk's, which tells when the line's first cell
-- leaves, if none arrives.
use Prim.Native.Nat.{ℕ, suc, ◌-◌, ◌≤◌, ◌<◌}
use mathlib.Core.Path.{◌≡◌, refl, sym, ap, ◌∙◌, subst}
use mathlib.Core.Logic.{◌≢◌}
use mathlib.Core.Bool.{Bool, false, true, ◌||◌}
use mathlib.Core.List.{List, [], ◌∷◌}
use native.Mathlib.Omega.{arith}
use lib.ListN.{get_or}
use Rattle.base_hec.specs.Modes.{arriving}
use Rattle.meaning.specs.declared.Answer.{Answer}
use Rattle.meaning.specs.declared.Wait.{Wait}
use Rattle.meaning.specs.Numbers.{lets_in}
use Rattle.meaning.specs.Slot.{slot}
use Rattle.meaning.specs.Next.{wait_of}
use Rattle.meaning_runs.specs.Run.{Call, on_open_with, on_close, on_slot, Run, call, calls, served}
use Rattle.meaning_runs.specs.Judged.{Judged, judged_by}
use Rattle.theory_invariant.specs.Invariant.{Waiting, waiting}
use Rattle.theory_invariant.proofs.RunLaws.{Kept, call_kept}
use Rattle.theory_invariant.proofs.AuditLaws.{audit_holds}
use Rattle.promises.proofs.VerdictLaws.{says}
use Rattle.promises.proofs.Top.{from_setup}
use Rattle.promise_next.specs.Next.{next_in, full_walk, NoneIn, NoCells, QuietSlot, SendsNothing, Sends, Next, EqualsFullWalk, NextHolds}
use Rattle.promise_next.proofs.WalkLaws.{equals_full_walk}
use Rattle.promise_next.proofs.LineLaws.{is_some, Until, walk_tells}
use Rattle.promise_next.proofs.QuietLaws.{At, sends_nothing, sends, calls_at}

module _ (N z kind : ℕ) where
  -- a slot that is lent no cell lets none in
  empty_none : (r : Run) → Kept N z kind r → lets_in (slot r.state []).answer.verdict ≡ false
  unfolding arriving judged_by lets_in
  empty_none r k = ap (λ (j : Judged). lets_in j.verdict) (says N z kind r.events r.state k.inv [] refl)

  no_cells_in : (r : Run) → Kept N z kind r → (cs : List Call) → NoCells cs → NoneIn r cs
  no_cells_in r k [] e = tt
  no_cells_in r k (on_open_with who name m F C second ∷ cs) e =
      (tt, no_cells_in (call r (on_open_with who name m F C second)) (call_kept N z kind r (on_open_with who name m F C second) k) cs e)
  no_cells_in r k (on_close who name ∷ cs) e = (tt, no_cells_in (call r (on_close who name)) (call_kept N z kind r (on_close who name) k) cs e)
  no_cells_in r k (on_slot cell ∷ cs) e = (
    ap (λ (l : List ℕ). lets_in (slot r.state l).answer.verdict) e.0 ∙ empty_none r k,
    no_cells_in (call r (on_slot cell)) (call_kept N z kind r (on_slot cell) k) cs e.1,
  )

  module _ (r : Run) (k : Kept N z kind r) where
    abbrev b : Waiting
    b = waiting k.inv

    -- the answer
    answer_is : next_in r.state ≡ wait_of 0 (full_walk r.state)
    answer_is = equals_full_walk r.state (audit_holds N z kind r.events r.state k.inv)

    slots_are : (next_in r.state).slots ≡ full_walk r.state
    slots_are = ap (λ (a : Wait). a.slots) answer_is

    tells : Until N (next_in r.state).slots b
    tells = subst (λ (n : ℕ). Until N n b) (sym slots_are) (walk_tells N z kind r.events r.state k.inv)

    -- as far as the next m slots send nothing
    module _ (m : ℕ) (rests : (j : ℕ) → j < m → (is_some b.out ≡ false) × (is_some (get_or b.cal j []) ≡ false)) where
      start : At N z kind (served r.events) m b rests r
      start =
          record {
            inv = k.inv;
            n = 0;
            slots = omega arith;
            out_is = λ l. refl;
            cal_is = λ l j. ap (λ (i : ℕ). get_or b.cal i []) (omega arith);
          }

      module _ (j : ℕ) (a : Answer) (q : QuietSlot r j a) where
        at : At N z kind (served r.events) m b rests (calls r q.between)
        at = calls_at N z kind (served r.events) m b rests r start q.between q.none_in

        earlier : j ≤ m → SendsNothing a
        earlier l =
            subst SendsNothing (sym q.is)
            (sends_nothing N z kind (served r.events) m b rests (calls r q.between) at q.cell q.lets_none q.lent
            (omega (arith, at.slots, q.slots)))

        then : j ≡ suc m → is_some b.out || is_some (get_or b.cal m []) ≡ true → Sends a
        then e some =
            subst Sends (sym q.is)
            (sends N z kind (served r.events) m b rests (calls r q.between) at q.cell q.lets_none q.lent
            (omega (arith, at.slots, q.slots)) some)

    pub next_after_lem : Next N r
    next_after_lem =
        record {
          answers = ap (λ (a : Wait). a.number) answer_is;
          at_most = tells.at_most;
          if_none = λ e j a q. earlier j (λ i l. ((tells.never e).0, (tells.never e).1 i)) j a q (omega arith);
          not_before = λ j a q l.
              earlier ((next_in r.state).slots - 1) (λ i l. tells.rests i (omega arith)) j a q (omega arith);
          then_sends = λ a q. last a q;
          no_cells = no_cells_in r k;
        }
      where
        last : (a : Answer) → QuietSlot r (next_in r.state).slots a → Sends a
        last a q =
            then ((next_in r.state).slots - 1) (λ i l. tells.rests i (omega arith)) (next_in r.state).slots a q (omega (arith, some)) (tells.leaves some)
          where
            some : (next_in r.state).slots ≢ 0
            some e = omega (arith, q.slots, (at 0 (λ i l. absurd (omega arith)) (next_in r.state).slots a q).slots)

pub next_holds : NextHolds
next_holds = from_setup (λ N z kind r. Next N r) next_after_lem

pub as_the_full_walk : EqualsFullWalk
as_the_full_walk = equals_full_walk
