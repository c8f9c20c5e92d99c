-- The theorems: from a fresh state whatever free spaces are chosen say the same, call after call, as the lowest ones.
use Prim.Native.Nat.{ℕ}
use mathlib.Core.Path.{◌≡◌, refl, sym, ap, ◌∙◌}
use mathlib.Core.List.{List, [], ◌∷◌, map}
use Rattle.meaning.specs.Bits.{lowest_free}
use Rattle.meaning.specs.Calls.{kind_number}
use Rattle.meaning_runs.specs.Run.{Call, Run, call_at, call, calls, fresh_run}
use Rattle.meaning_listed.specs.Runs.{but_space}
use Rattle.theory_invariant.proofs.SlotLaws.{lowest_space}
use Rattle.theory_invariant.proofs.FreshLaws.{ranges_are, fresh_inv}
use Rattle.theory_choice.specs.Chosen.{Chosen, made_of, calls_at, FreeEach, AsLowest, SaidAlike}
use Rattle.theory_choice.proofs.AlikeLaws.{Alike, call_alike}

calls_alike : (N z kind : ℕ) (r q : Run) → Alike N z kind r q → (cs : List Chosen) → FreeEach r cs
    → map but_space (calls_at r cs).events ≡ map but_space (calls q (map made_of cs)).events
unfolding calls_at calls call
calls_alike N z kind r q al [] f = al.said
calls_alike N z kind r q al (c ∷ cs) f =
    calls_alike N z kind (call_at c.space r c.made) (call q c.made)
    (call_alike N z kind r q al c.space (lowest_free q.state.bits) f.0 (lowest_space N z kind q.events q.state al.inv') c.made)
    cs f.1

pub as_lowest : AsLowest
unfolding fresh_run
as_lowest N z o range cs f =
    calls_alike N z (kind_number o.kind) (fresh_run N z o) (fresh_run N z o)
    (record {
      inv = fresh_inv N z o (ranges_are N z range.0) range.1;
      inv' = fresh_inv N z o (ranges_are N z range.0) range.1;
      said = refl;
      waits = refl;
      raws = refl;
      modes = refl;
      owners = λ who name. refl;
    }) cs f

pub said_alike : SaidAlike
said_alike N z o range cs ds e f g =
    as_lowest N z o range cs f
    ∙ ap (λ (l : List Call). map but_space (calls (fresh_run N z o) l).events) e
    ∙ sym (as_lowest N z o range ds g)
