-- Call after call both forms stay tied, and the old one says what the new one says with the heads of the Free List as its spaces.
use Prim.Native.Nat.{ℕ}
use mathlib.Core.Path.{◌≡◌, refl, sym, ap, subst}
use mathlib.Core.Bool.{true}
use mathlib.Core.List.{List, [], ◌∷◌}
use Rattle.meaning.specs.Bits.{is_free_space, lowest_free}
use Rattle.meaning.specs.State.{Ends, with_words}
use Rattle.meaning.specs.Operators.{owns}
use Rattle.meaning.specs.Calls.{shared_refusal, open_call, close_call}
use Rattle.meaning_runs.specs.Run.{Call, on_open_with, on_close, on_slot, ran, Run, shown, let_in, call_at}
use Rattle.meaning_listed.specs.Listed.{listed_of, ListedWork}
use Rattle.meaning_listed.specs.Runs.{ListedRun, listed_run, call_listed, calls_listed}
use Rattle.theory_invariant.proofs.SlotLaws.{lowest_space}
use Rattle.theory_choice.specs.Chosen.{calls_at, FreeEach}
use Rattle.theory_choice.proofs.AlikeLaws.{Alike, call_alike}
use Rattle.promise_listed.specs.Heads.{heads}
use Rattle.promise_listed.specs.Tied.{beneath, TiedAt}
use Rattle.promise_listed.proofs.TiedLaws.{some_listed, head_is_free}
use Rattle.promise_listed.proofs.SlotLaws.{slot_follows}

module _ (n : ℕ) (b : List ℕ) where
  -- the run of the old form beside the run r
  abbrev pub along : Run → List ℕ → Ends → ListedRun
  along r list free = listed_run (listed_of (beneath n b r.state list) free) r.events

  pub record Goes (r : Run) (l : ListedRun) : Type 0 where
    pub list : List ℕ
    pub free : Ends
    pub is : l ≡ along r list free
    pub tied : TiedAt r.state list free

  module _ (N z kind : ℕ) (r : Run) (al : Alike N z kind r r) (list : List ℕ) (free : Ends) (t : TiedAt r.state list free) where
    pub head_free : is_free_space r.state.bits free.head ≡ true
    head_free =
        head_is_free t
        (some_listed t (lowest_free r.state.bits) (lowest_space N z kind r.events r.state al.inv))

    call_goes : (c : Call) → Goes (call_at free.head r c) (call_listed (along r list free) c)
    unfolding call_at call_listed with_words shown open_call close_call shared_refusal owns
    call_goes (on_open_with who name m F C x) = record { list = list; free = free; is = refl; tied = t }
    call_goes (on_close who name) = record { list = list; free = free; is = refl; tied = t }
    call_goes (on_slot cell) =
        let g = slot_follows n b N z kind r.events r.state al.inv list free t cell head_free in
        record {
          list = g.list;
          free = g.free;
          is = ap (λ (l : ListedWork). listed_run (listed_of l.work.state l.free)
              (ran (let_in r.state cell).cell l.work.answer (shown l.work) ∷ r.events)) g.is;
          tied = g.tied;
        }

  abbrev pub Said : Run → ListedRun → List Call → Type 0
  Said r l cs = FreeEach r (heads l cs) × ((calls_at r (heads l cs)).events ≡ (calls_listed l cs).events)

  pub calls_go : (N z kind : ℕ) (r : Run) → Alike N z kind r r → (list : List ℕ) (free : Ends) → TiedAt r.state list free
      → (cs : List Call) → Said r (along r list free) cs
  unfolding heads calls_at calls_listed
  calls_go N z kind r al list free t [] = (tt, refl)
  calls_go N z kind r al list free t (c ∷ cs) =
      let x = free.head in
      let e = head_free N z kind r al list free t in
      let g = call_goes N z kind r al list free t c in
      let rest = subst (λ (l : ListedRun). Said (call_at x r c) l cs) (sym g.is)
      (calls_go N z kind (call_at x r c) (call_alike N z kind r r al x x e e c) g.list g.free g.tied cs) in
      ((e, rest.0), rest.1)
