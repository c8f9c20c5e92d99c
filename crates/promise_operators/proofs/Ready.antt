-- A run from a fresh state keeps the invariant, and the splits that its setup was handed. Assumes nothing.
use Prim.Native.Nat.{ℕ}
use mathlib.Core.Path.{◌≡◌, refl, sym, ap, ◌∙◌}
use mathlib.Core.Bool.{Bool}
use mathlib.Core.List.{List, [], ◌∷◌}
use Rattle.meaning.specs.Plain.{◌=?◌}
use Rattle.meaning.specs.State.{State, with_words}
use Rattle.meaning.specs.Bits.{lowest_free}
use Rattle.meaning.specs.Header.{Name}
use Rattle.meaning.specs.Operators.{owner_of, owns}
use Rattle.meaning.specs.Calls.{asked_of, fresh_record, fresh_state}
use Rattle.meaning.specs.Slot.{slot}
use Rattle.meaning_runs.specs.Run.{Call, on_open_with, on_close, on_slot, Run, call_at, call, calls}
use Rattle.meaning_runs.proofs.ModeLaws.{splitvci_kept, splitpath_kept}
use Rattle.theory_invariant.proofs.FreshLaws.{setup_fresh}
use Rattle.theory_invariant.proofs.RunLaws.{Kept, call_kept}
use Rattle.promises.proofs.Top.{from_setup}
use Rattle.promise_operators.specs.Operators.{Card, FromFresh, start_of, end_of}

pub record Ready (c : Card) (r : Run) : Type 0 where
  pub kept : Kept c.N c.z c.kind r
  pub vci_is : r.state.ctl.splitvci ≡ c.splitvci
  pub path_is : r.state.ctl.splitpath ≡ c.splitpath

module _ (c : Card) where
  -- whose a connection is
  pub owns_is : (r : Run) → Ready c r → (who : ℕ) (name : Name)
      → owns r.state.ctl who name ≡ (who =? owner_of c.splitvci c.splitpath name)
  unfolding owns
  owns_is r k who name = rw (k.vci_is, k.path_is)

  call_vci : (r : Run) (x : Call) → (call r x).state.ctl.splitvci ≡ r.state.ctl.splitvci
  unfolding call call_at with_words
  call_vci r (on_open_with who name m F C x) = refl
  call_vci r (on_close who name) = refl
  call_vci r (on_slot cell) = splitvci_kept (lowest_free r.state.bits) r.state cell

  call_path : (r : Run) (x : Call) → (call r x).state.ctl.splitpath ≡ r.state.ctl.splitpath
  unfolding call call_at with_words
  call_path r (on_open_with who name m F C x) = refl
  call_path r (on_close who name) = refl
  call_path r (on_slot cell) = splitpath_kept (lowest_free r.state.bits) r.state cell

  pub call_ready : (r : Run) (x : Call) → Ready c r → Ready c (call r x)
  call_ready r x k =
      record {
        kept = call_kept c.N c.z c.kind r x k.kept;
        vci_is = call_vci r x ∙ k.vci_is;
        path_is = call_path r x ∙ k.path_is;
      }

  pub calls_ready : (r : Run) (xs : List Call) → Ready c r → Ready c (calls r xs)
  unfolding calls
  calls_ready r [] k = k
  calls_ready r (x ∷ xs) k = calls_ready (call r x) xs (call_ready r x k)

  pub start_ready : (p : FromFresh c) → Ready c (start_of c p)
  unfolding calls fresh_state fresh_record
  start_ready p =
      let a = asked_of p.raw c.kind c.splitvci c.splitpath in
      let fresh = (setup_fresh c.N c.z a p.lent p.answers_0).1 in
      record {
        kept = from_setup (λ N z kind r. Kept N z kind r) (λ N z kind r k. k) c.N c.z a p.lent p.answers_0 [];
        vci_is = ap (λ (s : State). s.ctl.splitvci) fresh;
        path_is = ap (λ (s : State). s.ctl.splitpath) fresh;
      }

  pub end_ready : (p : FromFresh c) → Ready c (end_of c p)
  end_ready p = calls_ready (start_of c p) p.following (start_ready p)
