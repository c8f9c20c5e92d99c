-- REQUEST (iv), of every run from a fresh state: each slot says of a connection's cells what the leak rules do, from the open that began
-- the opening on.
use Prim.Native.Nat.{ℕ}
use mathlib.Core.Path.{◌≡◌, refl, sym, subst, subst₂}
use mathlib.Core.List.{List, [], ◌∷◌, ◌++◌}
use mathlib.Core.Option.{some}
use borrow.Author.Tests.{eq-eqb}
use Rattle.meaning.specs.State.{State}
use Rattle.meaning.specs.Words.{Second}
use Rattle.meaning.specs.Calls.{chosen, setup}
use Rattle.meaning_runs.specs.Run.{Event, opened, run_of, calls, fresh_run}
use Rattle.meaning_runs.specs.Leak.{new_opening, opening_of}
use Rattle.theory_invariant.proofs.FreshLaws.{setup_fresh}
use Rattle.theory_invariant.proofs.RunLaws.{Kept, run_kept}
use Rattle.promise_bound.specs.Bound.{OneOpening}
use Rattle.promise_sustained.specs.Sustained.{Keeps, begun, untagged, Sustained, SustainedHolds}
use Rattle.promise_sustained.proofs.RuleLaws.{few}
use Rattle.promise_sustained.proofs.SaidLaws.{SaidAll, said_before, calls_said}
use Rattle.promise_sustained.proofs.PassLaws.{all_kept}
use Rattle.promise_sustained.proofs.SourceLaws.{all_alone}

opens : (who v m F C : ℕ) (x : Second) (h : List Event) → opening_of v (opened who v m F C x 0 ∷ h) ≡ some (new_opening m F C x)
unfolding opening_of
opens who v m F C x h = rw (eq-eqb v v refl)

module _ (kind z : ℕ) (h : List Event) (s : SaidAll kind z h) (v m F C : ℕ) (o : OneOpening v m F C h) where
  said_of : SaidAll kind z (o.during ++ begun o)
  said_of = said_before kind z o.later (o.during ++ begun o) (subst (SaidAll kind z) o.is s)

  passed : Keeps o.second.m o.second.F o.second.C (untagged o)
  passed =
      (all_kept kind z v m F C o.second (begun o) (opens o.operator v m F C o.second o.before) o.during o.lasts said_of).keeps

sustains : (kind z : ℕ) (h : List Event) → SaidAll kind z h → Sustained kind z h
sustains kind z h s =
    record {
      window = λ v m F C o x w some-F some-w. few o.second x w (untagged o) some-F some-w (passed kind z h s v m F C o);
      keeps = λ v m F C o. passed kind z h s v m F C o;
      untouched = λ v m F C o f g.
          (all_alone kind z v m F C o.second (begun o) (opens o.operator v m F C o.second o.before) o.during o.lasts
          (said_of kind z h s v m F C o) f g).untouched;
    }

-- REQUEST (iv)
pub sustained : SustainedHolds
unfolding fresh_run calls
sustained N z a lent e cs =
    let fresh = setup_fresh N z a lent e in
    let start = run_of (setup N z a lent).state [] in
    sustains a.kind z (calls start cs).events
    (calls_said N z a.kind start cs
    (subst₂ (λ (k : ℕ) (st : State). Kept N z k (run_of st [])) fresh.2 (sym fresh.1)
    (run_kept N z (chosen a) fresh.0 [])) tt)
