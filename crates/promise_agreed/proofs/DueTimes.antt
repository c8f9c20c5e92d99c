-- The engine's due times are document 01's and its verdicts the leak rule's, from not started on: TAT is always the last
-- conforming cell's due time plus F. By induction over the calls.
use Prim.Native.Nat.{ℕ, suc, ◌+◌}
use mathlib.Core.Path.{◌≡◌, refl, sym, ap, ◌∙◌, subst}
use mathlib.Core.Logic.{◌↔◌}
use mathlib.Core.Bool.{Bool, true, false, ◌&&◌}
use mathlib.Core.List.{List, [], ◌∷◌}
use mathlib.Core.Option.{Option, none, some}
use native.Mathlib.Omega.{arith}
use native.Mathlib.Decide.{ℕ_discrete}
use borrow.Author.Tests.{ne_eqb}
use Rattle.meaning.specs.Plain.{when◌then◌else◌, ◌=?◌}
use Rattle.meaning.specs.Numbers.{accepted}
use Rattle.meaning_runs.specs.Leak.{Opening, due_time, leak_accepts}
use Rattle.call_time.specs.declared.Tat.{Tat}
use Rattle.call_time.specs.declared.Timed.{Timed}
use Rattle.call_time.specs.Schedule.{refusal_of, timed}
use Rattle.call_time.proofs.Cases.{Good, good_is, timed_refused}
use Rattle.call_time.proofs.EngineLaws.{number_is}
use Rattle.promise_agreed.specs.DueTimes.{peak_only, Timing, timing_of, conformed, timed_on, timed_all, from_not_started, DueTimes}
use Rattle.promise_agreed.proofs.StepLaws.{TiedTo, Stepped, steps}

-- TAT against the last due time, whatever slot comes next
abbrev Tied : ℕ → Option ℕ → Tat → Type 0
Tied F none s = s.started ≡ false
Tied F (some p) s = (s.started ≡ true) × (s.tat ≡ p + F)

-- the slot is after the stored one, or the call is refused
in_slot : (N m F C a : ℕ) (p : Option ℕ) (s : Tat) → Tied F p s → Good s N m F C a → TiedTo F a p s
in_slot N m F C a none s k g = k
in_slot N m F C a (some p) s k g = (k.0, k.1, (g.stored k.0).2, (g.stored k.0).0)

any_slot : (F t : ℕ) (p : Option ℕ) (s : Tat) → TiedTo F t p s → Tied F p s
any_slot F t none s k = k
any_slot F t (some p) s k = (k.0, k.1)

module _ (N m F C a : ℕ) (p : Option ℕ) (s : Tat) (k : Tied F p s) where
  abbrev o : Opening
  o = peak_only m F C p

  stepped : refusal_of s N m F C a ≡ 0 → Stepped m F C a p (leak_accepts (peak_only m F C p) a) (timed s N m F C a)
  stepped e =
      let g = good_is s N m F C a e in
      steps N m F C a g.N_low g.N_high g.rules g.run p s (in_slot N m F C a p s k g)

  verdict_is : (b : Bool) (r : Timed) → Stepped m F C a p b r
      → ((r.verdict ≡ accepted) ↔ (b ≡ true)) × (r.verdict ≡ accepted → r.due ≡ due_time (peak_only m F C p) a)
  verdict_is true r st = ((λ v. refl, λ e. st.verdict), λ v. st.due)
  verdict_is false r st = (
    (λ v. absurd (omega (arith, v, st.verdict)), λ e. absurd (let z : ◌≡◌ {A = ℕ} 0 1 = cc in omega arith)),
    λ v. absurd (omega (arith, v, st.verdict)),
  )

  -- the opening afterwards
  abbrev then_is : Timed → Opening
  then_is r = when r.number =? 0 && r.verdict =? accepted then conformed (peak_only m F C p) a else peak_only m F C p

  pub record Next (r : Timed) : Type 0 where
    pub previous : Option ℕ
    pub is : then_is r ≡ peak_only m F C previous
    pub tied : Tied F previous r.tat

  next_of : (b : Bool) (r : Timed) → Stepped m F C a p b r → Next r
  next_of true r st =
      record {
        previous = some (due_time (peak_only m F C p) a);
        is = rw (st.number, st.verdict) refl;
        tied = any_slot F (suc a) (some (due_time (peak_only m F C p) a)) r.tat st.tied;
      }
  next_of false r st =
      record {
        previous = p;
        is = rw (st.number, st.verdict) refl;
        tied = any_slot F (suc a) p r.tat st.tied;
      }

  next : Next (timed s N m F C a)
  next = go (ℕ_discrete (refusal_of s N m F C a) 0)
    where
      go : Dec (refusal_of s N m F C a ≡ 0) → Next (timed s N m F C a)
      go (yes e) = next_of (leak_accepts (peak_only m F C p) a) (timed s N m F C a) (stepped e)
      go (no n) =
          let r = timed_refused s N m F C a (refusal_of s N m F C a) refl n in
          record {
            previous = p;
            is = rw (ne_eqb (timed s N m F C a).number 0 (λ z. n (sym (number_is s N m F C a) ∙ z))) refl;
            tied = kept p k (ap (λ (x : Timed). x.tat) r);
          }
        where
          kept : (q : Option ℕ) → Tied F q s → s ≡ (timed s N m F C a).tat → Tied F q (timed s N m F C a).tat
          kept q y e = subst (Tied F q) e y

pub record Ready (m F C : ℕ) (t : Timing) : Type 0 where
  pub previous : Option ℕ
  pub is : t.opening ≡ peak_only m F C previous
  pub tied : Tied F previous t.state

one : (N m F C a : ℕ) (t : Timing) → Ready m F C t → Ready m F C (timed_on N t a)
one N m F C a t k =
    subst (λ (o : Opening). Ready m F C (timed_on N (timing_of t.state o) a)) (sym k.is)
    (let n = next N m F C a k.previous t.state k.tied in
    record { previous = n.previous; is = n.is; tied = n.tied })

all : (N m F C : ℕ) (t : Timing) (l : List ℕ) → Ready m F C t → Ready m F C (timed_all N t l)
all N m F C t [] k = k
all N m F C t (a ∷ more) k = all N m F C (timed_on N t a) more (one N m F C a t k)

abbrev Said : ℕ → ℕ → Tat → Opening → Type 0
Said N a s o =
    let r = timed s N o.m o.F o.C a in
    r.number ≡ 0
    → ((r.verdict ≡ accepted) ↔ (leak_accepts o a ≡ true)) × (r.verdict ≡ accepted → r.due ≡ due_time o a)

-- REQUEST (v): "due time", as document 01 words it
pub due_times : DueTimes
due_times N m F C before a =
    let t = timed_all N (from_not_started m F C) before in
    let k = all N m F C (from_not_started m F C) before (record { previous = none; is = refl; tied = refl }) in
    subst (Said N a t.state) (sym k.is) (said k.previous t.state k.tied)
  where
    said : (p : Option ℕ) (s : Tat) → Tied F p s → Said N a s (peak_only m F C p)
    said p s y e =
        verdict_is N m F C a p s y (leak_accepts (peak_only m F C p) a) (timed s N m F C a)
        (stepped N m F C a p s y (sym (number_is s N m F C a) ∙ e))
