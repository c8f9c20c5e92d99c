-- Every run from a fresh state keeps the invariant, whichever free spaces its cells take, and no call of it is refused with 3.
use Prim.Native.Nat.{ℕ}
use mathlib.Core.Path.{◌≡◌, refl, sym, ap, subst}
use mathlib.Core.Logic.{◌≢◌}
use mathlib.Core.Bool.{Bool, true, false, ◌||◌}
use mathlib.Core.List.{List, [], ◌∷◌}
use native.Mathlib.Omega.{arith}
use lib.ListN.{length}
use Rattle.meaning.specs.Plain.{◌=?◌}
use Rattle.meaning.specs.Numbers.{lets_in}
use Rattle.meaning.specs.State.{State}
use Rattle.meaning.specs.Bits.{is_free_space, lowest_free}
use Rattle.meaning.specs.Calls.{Options, kind_number, Allowed, fresh_state}
use Rattle.meaning.specs.Work.{Work, work_of, bare_answer}
use Rattle.meaning.specs.Slot.{slot_at}
use Rattle.meaning_runs.specs.Run.{Call, on_open_with, on_close, on_slot, Event, number_of, Run, run_of, let_in, call_at, call, calls, fresh_run, served}
use Rattle.meaning_runs.specs.Leak.{accepts, opening_of}
use Rattle.meaning_runs.specs.Seen.{cells_in, departures_in}
use Rattle.theory_queues.specs.Queue.{All}
use Rattle.theory_invariant.specs.Invariant.{Inv}
use Rattle.theory_invariant.proofs.SlotLaws.{lowest_space}
use Rattle.theory_invariant.proofs.EndLaws.{event_of}
use Rattle.theory_invariant.proofs.CheckLaws.{served_at, refused_at}
use Rattle.theory_invariant.proofs.CallLaws.{unchanged}
use Rattle.theory_invariant.proofs.OpenLaws.{open_kept, close_kept}
use Rattle.theory_invariant.proofs.FreshLaws.{ranges_are, fresh_inv}

pub record Kept (N z kind : ℕ) (r : Run) : Type 0 where
  pub inv : Inv N z kind r.events r.state
  pub never : All (λ e. number_of e ≢ 3) r.events

module _ (N z kind : ℕ) where
  -- a slot refused with 9 leaves all as it was
  unfoldable pub nine : (h : List Event) (s : State) (cell : List ℕ) → Inv N z kind h s → Inv N z kind (event_of cell (work_of s (bare_answer 9)) ∷ h) s
  unfolding served cells_in departures_in opening_of accepts lets_in
  nine h s cell i =
      unchanged N z kind h s i (event_of cell (work_of s (bare_answer 9)) ∷ h)
      (record { slots = omega arith; cells = refl; departures = refl }) (λ v. refl)

  slot_kept : (x : ℕ) (h : List Event) (s : State) (cell : List ℕ) → is_free_space s.bits x ≡ true → Inv N z kind h s
      → Inv N z kind (event_of (let_in s cell).cell (slot_at x s cell) ∷ h) (slot_at x s cell).state
      × ((slot_at x s cell).answer.number ≢ 3)
  slot_kept x h s cell free i = go (length cell =? 0 || length cell =? 53) refl
    where
      go : (b : Bool) → length cell =? 0 || length cell =? 53 ≡ b
          → Inv N z kind (event_of (let_in s cell).cell (slot_at x s cell) ∷ h) (slot_at x s cell).state
          × ((slot_at x s cell).answer.number ≢ 3)
      go true e = let g = served_at N z kind h s i cell x free e in (g.inv, λ y. omega (arith, g.number))
      go false e =
          let is = refused_at N z kind h s i cell x e in (
            subst (λ (w : Work). Inv N z kind (event_of (let_in s cell).cell w ∷ h) w.state) (sym is)
                (nine h s (let_in s cell).cell i),
            λ y. omega (arith, ap (λ (w : Work). w.answer.number) is),
          )

  -- a call whose cell, if it has one that is let in, takes any free space x
  pub call_kept_at : (x : ℕ) (r : Run) (c : Call) → is_free_space r.state.bits x ≡ true → Kept N z kind r → Kept N z kind (call_at x r c)
  unfolding call_at
  call_kept_at x r (on_open_with who name m F C second) free k =
      let g = open_kept N z kind r.events r.state k.inv who name m F C second in
      record { inv = g.inv; never = (g.not_three, k.never) }
  call_kept_at x r (on_close who name) free k =
      let g = close_kept N z kind r.events r.state k.inv who name in
      record { inv = g.inv; never = (g.not_three, k.never) }
  call_kept_at x r (on_slot cell) free k =
      let g = slot_kept x r.events r.state cell free k.inv in
      record { inv = g.0; never = (g.1, k.never) }

  pub call_kept : (r : Run) (c : Call) → Kept N z kind r → Kept N z kind (call r c)
  unfolding call
  call_kept r c k =
      call_kept_at (lowest_free r.state.bits) r c (lowest_space N z kind r.events r.state k.inv) k

  pub calls_kept : (r : Run) (cs : List Call) → Kept N z kind r → Kept N z kind (calls r cs)
  unfolding calls
  calls_kept r [] k = k
  calls_kept r (c ∷ cs) k = calls_kept (call r c) cs (call_kept r c k)

pub run_kept : (N z : ℕ) (o : Options) → Allowed N z o → (cs : List Call)
    → Kept N z (kind_number o.kind) (calls (fresh_run N z o) cs)
unfolding fresh_run
run_kept N z o e cs =
    calls_kept N z (kind_number o.kind) (run_of (fresh_state N z o) []) cs
    (record { inv = fresh_inv N z o (ranges_are N z e.0) e.1; never = tt })
