-- One cell, engine against leak rule: where the engine's TAT is the last due time plus F, it decides as the leak rule does,
-- its due time is the leak rule's, and its TAT is again the last due time plus F. No policer here.
use Prim.Native.Nat.{ℕ, suc, ◌+◌, ◌-◌, ◌*◌, ◌/◌, ◌^◌, ◌≤◌, ◌<◌, max}
use mathlib.Core.Path.{◌≡◌, refl, ap, ◌∙◌}
use mathlib.Core.Bool.{Bool, true, false}
use mathlib.Core.Option.{Option, none, some}
use native.Mathlib.Omega.{arith}
use borrow.Author.Tests.{leb-true, leb-false}
use lib.IntN.{sub_ℕ}
use Rattle.meaning.specs.Plain.{when◌then◌else◌, ◌≤?◌}
use Rattle.meaning.specs.Numbers.{slot_numbers, accepted, excess}
use Rattle.meaning.specs.Bucket.{bucket_of, obeys_rules}
use Rattle.meaning_runs.specs.Leak.{Opening, due_time, due_slot, leak_accepts}
use Rattle.theory_table.proofs.LeakLaws.{due_slot_lem}
use Rattle.call_time.specs.declared.Tat.{Tat}
use Rattle.call_time.specs.declared.Timed.{Timed}
use Rattle.call_time.specs.Schedule.{ahead, tat_of, timed_of, too_late, scheduled, refusal_of, timed}
use Rattle.call_time.proofs.Cases.{ahead_sub, Good, no_refusal, too_early, in_time, first_is, later_is}
use Rattle.call_time.proofs.EngineLaws.{number_is, leaves}
use Rattle.promise_agreed.specs.DueTimes.{peak_only}

-- the engine's state s against the last due time, before slot t: TAT is that plus F
abbrev pub TiedTo : ℕ → ℕ → Option ℕ → Tat → Type 0
TiedTo F t none s = s.started ≡ false
TiedTo F t (some p) s = (s.started ≡ true) × (s.tat ≡ p + F) × (s.arrival < t) × (s.tat < too_late)

-- nothing is lost by waiting
pub tied_later : (F t : ℕ) (p : Option ℕ) (s : Tat) → TiedTo F t p s → TiedTo F (suc t) p s
tied_later F t none s k = k
tied_later F t (some p) s k = (k.0, k.1, omega (arith, k.2), k.3)

abbrev pub next : Bool → Opening → ℕ → Option ℕ
next b o t = when b then some (due_time o t) else o.previous

pub record Stepped (m F C t : ℕ) (p : Option ℕ) (b : Bool) (r : Timed) : Type 0 where
  pub number : r.number ≡ 0
  pub verdict : r.verdict ≡ (when b then accepted else excess)
  pub due : r.due ≡ (when b then due_time (peak_only m F C p) t else 0)
  pub early : b ≡ true → ahead r.early / 2 ^ m ≡ due_slot (peak_only m F C p) t - t
  pub tied : TiedTo F (suc t) (next b (peak_only m F C p) t) r.tat

module _ (N m F C t : ℕ) (N_low : 1 ≤ N) (N_high : N ≤ 1_024) (rules : obeys_rules N (bucket_of m F C 0) ≡ true)
    (run : t < slot_numbers) where
  good : (p : Option ℕ) (s : Tat) → TiedTo F t p s → Good s N m F C t
  good none s k =
      record {
        N_low = N_low;
        N_high = N_high;
        rules = rules;
        run = run;
        stored = λ on. absurd (let z : ◌≡◌ {A = ℕ} 0 1 = cc in omega arith);
      }
  good (some p) s k =
      record {
        N_low = N_low;
        N_high = N_high;
        rules = rules;
        run = run;
        stored = λ on. (k.3, omega (arith, k.2, run), k.2);
      }

  none_given : (p : Option ℕ) (s : Tat) → TiedTo F t p s → refusal_of s N m F C t ≡ 0
  none_given p s k = no_refusal s N m F C t (good p s k)

  delayed : (p : Option ℕ) (e : ℕ) (x : ℕ)
      → due_slot (peak_only m F C p) t ≡ t + x / 2 ^ m → e ≡ x → e / 2 ^ m ≡ due_slot (peak_only m F C p) t - t
  delayed p e x d q = ap (λ (n : ℕ). n / 2 ^ m) q ∙ omega (arith, d)

  pub steps : (p : Option ℕ) (s : Tat) → TiedTo F t p s
      → Stepped m F C t p (leak_accepts (peak_only m F C p) t) (timed s N m F C t)
  unfolding leak_accepts due_time
  steps none s k =
      let now = t * 2 ^ m in
      let fits = leaves s N m F C t (none_given none s k) in
      let r : timed s N m F C t
      ≡ timed_of 0 accepted (sub_ℕ now now) (max now now) (tat_of (max now now + F) t true) =
      first_is s N m F C t (none_given none s k) k ∙ in_time F C t now now (omega arith) in
      record {
        number = number_is s N m F C t ∙ none_given none s k;
        verdict = ap (λ (x : Timed). x.verdict) r;
        due = ap (λ (x : Timed). x.due) r ∙ omega arith;
        early = λ on. delayed none (ahead (timed s N m F C t).early) (0 - now) (due_slot_lem (peak_only m F C none) t)
            (ap (λ (x : Timed). ahead x.early) r ∙ ahead_sub now now ∙ omega arith);
        tied = (
          ap (λ (x : Timed). x.tat.started) r,
          ap (λ (x : Timed). x.tat.tat) r ∙ omega arith,
          omega (arith, ap (λ (x : Timed). x.tat.arrival) r),
          fits.tat_low,
        );
      }
  steps (some p) s k = go (p + F - t * 2 ^ m ≤? C - F) refl
    where
      now : ℕ
      now = t * 2 ^ m

      e : ℕ
      e = s.tat

      none_here : refusal_of s N m F C t ≡ 0
      none_here = none_given (some p) s k

      later : timed s N m F C t ≡ scheduled F C t (t * 2 ^ m) s.tat
      later = later_is s N m F C t none_here k.0

      go : (b : Bool) → (p + F - t * 2 ^ m ≤? C - F) ≡ b → Stepped m F C t (some p) b (timed s N m F C t)
      go true q =
          let fits = leaves s N m F C t none_here in
          let h = leb-true (p + F - t * 2 ^ m) (C - F) q in
          let r : timed s N m F C t ≡ timed_of 0 accepted (sub_ℕ s.tat (t * 2 ^ m)) (max (t * 2 ^ m) s.tat)
          (tat_of (max (t * 2 ^ m) s.tat + F) t true) =
          later ∙ in_time F C t (t * 2 ^ m) s.tat (omega (arith, h, k.1)) in
          record {
            number = number_is s N m F C t ∙ none_here;
            verdict = ap (λ (x : Timed). x.verdict) r;
            due = ap (λ (x : Timed). x.due) r ∙ omega (arith, k.1);
            early = λ on. delayed (some p) (ahead (timed s N m F C t).early) (p + F - t * 2 ^ m)
                (due_slot_lem (peak_only m F C (some p)) t) (ap (λ (x : Timed). ahead x.early) r ∙ ahead_sub s.tat (t * 2 ^ m) ∙ omega (arith, k.1));
            tied = (
              ap (λ (x : Timed). x.tat.started) r,
              ap (λ (x : Timed). x.tat.tat) r ∙ omega (arith, k.1),
              omega (arith, ap (λ (x : Timed). x.tat.arrival) r),
              fits.tat_low,
            );
          }
      go false q =
          let fits = leaves s N m F C t none_here in
          let h = leb-false (p + F - t * 2 ^ m) (C - F) q in
          let r : timed s N m F C t
          ≡ timed_of 0 excess (sub_ℕ s.tat (t * 2 ^ m)) 0 (tat_of s.tat t true) =
          later ∙ too_early F C t (t * 2 ^ m) s.tat (omega (arith, h, k.1)) in
          record {
            number = number_is s N m F C t ∙ none_here;
            verdict = ap (λ (x : Timed). x.verdict) r;
            due = ap (λ (x : Timed). x.due) r;
            early = λ on. absurd (let z : ◌≡◌ {A = ℕ} 0 1 = cc in omega arith);
            tied = (
              ap (λ (x : Timed). x.tat.started) r,
              ap (λ (x : Timed). x.tat.tat) r ∙ k.1,
              omega (arith, ap (λ (x : Timed). x.tat.arrival) r),
              fits.tat_low,
            );
          }
