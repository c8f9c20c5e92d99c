-- No policer that meets the promise of slot is one of those that document 01 shuts out: in a short run the five steps
-- answer otherwise. The promise can be met, by the five steps.
use Prim.Native.Nat.{ℕ, ◌-◌}
use mathlib.Core.Path.{◌≡◌, refl, sym, ◌∙◌, ap}
use mathlib.Core.Logic.{◌≢◌}
use mathlib.Core.Bool.{Bool, true, false}
use mathlib.Core.List.{List, [], ◌∷◌}
use native.Mathlib.Omega.{arith}
use lib.ListN.{get_or, replicate}
use Rattle.meaning.specs.declared.Answer.{Answer}
use Rattle.meaning.specs.Numbers.{ranges_hold, slot_numbers, empty, lets_in, s_place}
use Rattle.meaning.specs.State.{State}
use Rattle.meaning.specs.Words.{connection_at}
use Rattle.meaning.specs.Calls.{Kind, UNI, NNI, Options, options_of}
use Rattle.meaning.specs.Work.{Work, answer_of}
use Rattle.meaning.specs.Slot.{slot}
use Rattle.meaning.proofs.OperatorsLaws.{alone_allowed}
use Rattle.meaning_runs.specs.Run.{on_open, on_slot, calls, fresh_run}
use Rattle.promise_starred.specs.ShutOut.{Policer, Meets, Reached, after, AlwaysRefuses, VerdictNeverVaries}
use Rattle.promise_starred.specs.ShutOut.{LaterOnlyMovesT, InventsD, InventsTally, NeverSends, DiscardsAll}
use Rattle.meaning_runs.specs.Computed.{by_computation}

-- the five steps are themselves such a policer
pub five_steps_meet : (o : Options) → Meets o (λ s cell. record {
  served = record { ctl = (slot s cell).state.ctl; answer = (slot s cell).answer };
  cells = (slot s cell).state.cells;
  links = (slot s cell).state.links;
  calendar = (slot s cell).state.calendar;
  words = (slot s cell).state.words;
  bits = (slot s cell).state.bits;
  arrived = (slot s cell).state.arrived;
})
five_steps_meet o = record { promise = λ s reached cell. refl }

-- a cell of VC 1 with the octet 5 that belongs to its header, so that a raw policer lets it through too
abbrev clean : List ℕ
clean = 0 ∷ 0 ∷ 0 ∷ 16 ∷ 37 ∷ replicate 48 0

-- VC 1 open with m 2, F 10, C 15: the first cell is accepted, and one in the next slot is excess
abbrev opened : Options → State
opened o = (calls (fresh_run 5 2 o) (on_open 1 2 10 15 ∷ [])).state

abbrev later : Options → State
later o = (calls (fresh_run 5 2 o) (on_open 1 2 10 15 ∷ on_slot clean ∷ [])).state

five_allowed : ranges_hold 5 2 ≡ true
unfolding ranges_hold
five_allowed = refl

module _ (raw : Bool) (kind : Kind) where
  abbrev chosen : Options
  chosen = options_of raw kind

  opened_reached : Reached chosen (opened chosen)
  opened_reached = after 5 2 (alone_allowed 5 2 raw kind five_allowed) (on_open 1 2 10 15 ∷ [])

  later_reached : Reached chosen (later chosen)
  later_reached = after 5 2 (alone_allowed 5 2 raw kind five_allowed) (on_open 1 2 10 15 ∷ on_slot clean ∷ [])

first_answer : (raw : Bool) (kind : Kind) → (slot (opened (options_of raw kind)) clean).answer ≡ answer_of 0 1 1 0 0 1
unfolding by_computation
first_answer true UNI = refl
first_answer false UNI = refl
first_answer true NNI = refl
first_answer false NNI = refl

second_answer : (raw : Bool) (kind : Kind) → (slot (later (options_of raw kind)) clean).answer ≡ answer_of 0 2 1 0 empty 0
unfolding by_computation
second_answer true UNI = refl
second_answer false UNI = refl
second_answer true NNI = refl
second_answer false NNI = refl

-- S of VC 1 falls from 10 to 6 in that slot, which is slot 1
second_S : (raw : Bool) (kind : Kind) → (get_or (later (options_of raw kind)).words (s_place 1) 0 ≡ 10)
    × (get_or (slot (later (options_of raw kind)) clean).state.words (s_place 1) 0 ≡ 6)
unfolding by_computation
second_S true UNI = (refl, refl)
second_S false UNI = (refl, refl)
second_S true NNI = (refl, refl)
second_S false NNI = (refl, refl)

later_t : (raw : Bool) (kind : Kind) → (later (options_of raw kind)).ctl.t ≢ slot_numbers - 1
unfolding by_computation
later_t true UNI e = omega arith
later_t false UNI e = omega arith
later_t true NNI e = omega arith
later_t false NNI e = omega arith

module _ (raw : Bool) (kind : Kind) (f : Policer) (meets : Meets (options_of raw kind) f) where
  abbrev o : Options
  o = options_of raw kind

  same : (s : State) → Reached o s → (cell : List ℕ) → (f s cell).served.answer ≡ (slot s cell).answer
  same s reached cell = ap (λ (w : Work). w.answer) (meets.promise s reached cell)

  first : (f (opened o) clean).served.answer ≡ answer_of 0 1 1 0 0 1
  first = same (opened o) (opened_reached raw kind) clean ∙ first_answer raw kind

  second : (f (later o) clean).served.answer ≡ answer_of 0 2 1 0 empty 0
  second = same (later o) (later_reached raw kind) clean ∙ second_answer raw kind

  pub not_always_refuses : AlwaysRefuses (options_of raw kind) f → ⊥
  not_always_refuses bad = bad (opened o) (opened_reached raw kind) clean (ap (λ (a : Answer). a.number) first)

  pub verdict_varies : VerdictNeverVaries (options_of raw kind) f → ⊥
  verdict_varies bad =
      let one : 1 ≡ (f (opened o) clean).served.answer.verdict = ap (λ (a : Answer). a.verdict) (sym first) in
      let two : (f (later o) clean).served.answer.verdict ≡ 2 = ap (λ (a : Answer). a.verdict) second in
      omega (arith, one, bad (opened o) (later o) (opened_reached raw kind) (later_reached raw kind) clean, two)

  pub later_moves_more : LaterOnlyMovesT (options_of raw kind) f → ⊥
  later_moves_more bad =
      let kept = (bad (later o) (later_reached raw kind) (later_t raw kind) clean).3 in
      let moved = ap (λ (w : Work). w.state.words) (meets.promise (later o) (later_reached raw kind) clean) in
      omega (arith, (second_S raw kind).0, (second_S raw kind).1, ap (λ (l : List ℕ). get_or l (s_place 1) 0) (sym kept ∙ moved))

  pub invents_no_D : InventsD (options_of raw kind) f → ⊥
  invents_no_D bad = bad.other (ap (λ (a : Answer). a.d) (same bad.state bad.reached bad.cell))

  pub invents_no_tally : InventsTally (options_of raw kind) f → ⊥
  invents_no_tally bad =
      bad.other (ap (λ (w : Work). (connection_at w.state.words bad.vci).waiting) (meets.promise bad.state bad.reached bad.cell))

  pub sends : NeverSends (options_of raw kind) f → ⊥
  sends bad =
      let out : (f (opened o) clean).served.answer.space ≡ 0 = ap (λ (a : Answer). a.space) first in
      omega (arith, out, bad (opened o) (opened_reached raw kind) clean)

  pub discards_not_all : DiscardsAll (options_of raw kind) f → ⊥
  unfolding lets_in
  discards_not_all bad =
      absurd (let y : ◌≡◌ {A = Bool} true false =
      sym (ap (λ (a : Answer). lets_in a.verdict) first) ∙ bad (opened o) (opened_reached raw kind) clean in
      let x : ◌≡◌ {A = ℕ} 0 1 = cc in omega arith)
