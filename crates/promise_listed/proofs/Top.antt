-- The theorems: the old form is a run of the new one with other free spaces; so it says the same, but for the space.
use mathlib.Core.Path.{◌≡◌, refl, sym, ap, ◌∙◌}
use mathlib.Core.List.{List, [], ◌∷◌, map}
use Rattle.meaning.specs.State.{with_links}
use Rattle.meaning.specs.Bits.{all_free}
use Rattle.meaning.specs.Calls.{fresh_state, fresh_record, kind_number}
use Rattle.meaning_runs.specs.Run.{Call, calls, fresh_run}
use Rattle.meaning_listed.specs.Listed.{fresh_listed}
use Rattle.meaning_listed.specs.Runs.{ListedRun, call_listed, but_space}
use Rattle.theory_invariant.proofs.FreshLaws.{ranges_are, fresh_inv}
use Rattle.theory_choice.specs.Chosen.{made_of}
use Rattle.theory_choice.proofs.Top.{as_lowest}
use Rattle.promise_listed.specs.Heads.{heads, fresh_old, IsChosen}
use Rattle.promise_listed.specs.Same.{AsBefore}
use Rattle.promise_listed.proofs.FreshLaws.{fresh_tied}
use Rattle.promise_listed.proofs.RunLaws.{calls_go}

heads_made : (l : ListedRun) (cs : List Call) → map made_of (heads l cs) ≡ cs
unfolding heads
heads_made l [] = refl
heads_made l (c ∷ cs) = ap (λ (k : List Call). c ∷ k) (heads_made (call_listed l c) cs)

pub is_chosen : IsChosen
unfolding fresh_run fresh_listed with_links fresh_state fresh_record
is_chosen N z o range cs =
    calls_go N (all_free N) N z (kind_number o.kind) (fresh_run N z o)
    (record {
      inv = fresh_inv N z o (ranges_are N z range.0) range.1;
      inv' = fresh_inv N z o (ranges_are N z range.0) range.1;
      said = refl;
      waits = refl;
      raws = refl;
      modes = refl;
      owners = λ who name. refl;
    }) _ _ (fresh_tied N z o (ranges_are N z range.0)) cs

pub as_before : AsBefore
as_before N z o range cs =
    ap (λ (l : List Call). map but_space (calls (fresh_run N z o) l).events) (sym (heads_made (fresh_old N z o) cs))
    ∙ sym (as_lowest N z o range (heads (fresh_old N z o) cs) (is_chosen N z o range cs).0)
    ∙ ap (map but_space) (is_chosen N z o range cs).1
