-- The laws E1, E2 and E3 of the engine.
use Prim.Native.Nat.{ℕ, ◌+◌, ◌-◌, ◌*◌, ◌/◌, ◌^◌, ◌≤◌, ◌<◌, max}
use mathlib.Core.Path.{◌≡◌, refl, sym, ap, ◌∙◌, subst}
use mathlib.Core.Bool.{Bool, true, false, not, ◌&&◌}
use mathlib.Core.List.{List, [], ◌∷◌}
use mathlib.Core.Logic.{◌≢◌}
use native.Mathlib.Nat.{mul-le-mul, mod-lt, add-mul}
use native.Mathlib.Omega.{arith}
use native.Mathlib.Decide.{ℕ_discrete}
use lib.Pow.{pow_mono, pow_pos, split}
use borrow.Author.Tests.{ltb-true, ltb-false, le-ltb, eqb-true}
use lib.IntN.{pos, sub_ℕ}
use Rattle.meaning.specs.Plain.{when◌then◌else◌, ◌<?◌, ◌≤?◌, ◌=?◌}
use Rattle.meaning.specs.Numbers.{most_n, slot_numbers, accepted, excess}
use Rattle.meaning.specs.Bucket.{bucket_of, obeys_rules}
use Rattle.leaf_bucket.proofs.Rules.{Obeys, rules_facts}
use Rattle.call_time.specs.declared.Tat.{Tat}
use Rattle.call_time.specs.declared.Timed.{Timed}
use Rattle.call_time.specs.Schedule.{ahead, tat_of, timed_of, too_late, stored_fits, in_order, refusal_of, scheduled, expected_at, timed}
use Rattle.call_time.specs.Asked.{Ask, asked, asked_all}
use Rattle.call_time.specs.Laws.{Ruled, RuleIs, NeverThree, TatLow, NoRunGetsThree, FirstIs}
use Rattle.call_time.proofs.Cases.{ahead_sub, Good, good_is, no_refusal, stored_good, timed_refused, timed_is, now_low}

-- the number is the refusal's
pub number_is : (s : Tat) (N m F C a : ℕ) → (timed s N m F C a).number ≡ refusal_of s N m F C a
unfolding timed scheduled
number_is s N m F C a = go (refusal_of s N m F C a) (refusal_of s N m F C a =? 0) refl
  where
    now : ℕ
    now = a * 2 ^ m

    ruled : (b : Bool) (x y : Timed) → x.number ≡ 0 → y.number ≡ 0 → (when b then x else y).number ≡ 0
    ruled true x y e f = e
    ruled false x y e f = f

    go : (k : ℕ) (b : Bool) → (k =? 0) ≡ b
        → (when not b then timed_of k 0 (pos 0) 0 s else scheduled F C a (a * 2 ^ m) (expected_at s (a * 2 ^ m))).number ≡ k
    go k false e = refl
    go k true e =
        ruled (C - F <? expected_at s now - now) _ _ refl refl ∙ sym (eqb-true k 0 e)

-- ── E1 ──
ruled : (F C a now e : ℕ) → Ruled F C a now e (scheduled F C a now e)
unfolding scheduled
ruled F C a now e = go (C - F <? e - now) refl
  where
    go : (b : Bool) → (C - F <? e - now) ≡ b
        → Ruled F C a now e
        (when b then timed_of 0 excess (sub_ℕ e now) 0 (tat_of e a true)
        else timed_of 0 accepted (sub_ℕ e now) (max now e) (tat_of (max now e + F) a true))
    go true q =
        let k = ltb-true (C - F) (e - now) q in
        record {
          early_is = refl;
          conforms = (λ x. absurd (omega (arith, x)), λ x. absurd (omega (arith, x, k, ahead_sub e now)));
          fails = (λ x. omega (arith, k, ahead_sub e now), λ x. refl);
          moves = λ x. absurd (omega (arith, x));
          stays = λ x. (refl, refl);
          came = (refl, refl);
        }
    go false q =
        let k = ltb-false (C - F) (e - now) q in
        record {
          early_is = refl;
          conforms = (λ x. omega (arith, k, ahead_sub e now), λ x. refl);
          fails = (λ x. absurd (omega (arith, x)), λ x. absurd (omega (arith, x, k, ahead_sub e now)));
          moves = λ x. (refl, refl);
          stays = λ x. absurd (omega (arith, x));
          came = (refl, refl);
        }

pub rule_is : RuleIs
rule_is s N m F C a e =
    subst (Ruled F C a (a * 2 ^ m) (expected_at s (a * 2 ^ m)))
    (sym (timed_is s N m F C a (sym (number_is s N m F C a) ∙ e)))
    (ruled F C a (a * 2 ^ m) (expected_at s (a * 2 ^ m)))

-- ── E2 ──
-- the tolerance: C-F is below N × L
tolerance_low : (N m F C : ℕ) → N ≤ 1_024 → Obeys N m F C → C - F < 2 ^ 25
tolerance_low N m F C n o =
    let q = (C - F) / 2 ^ m in
    let x : (q + 1) * 2 ^ m ≤ 2 ^ 10 * 2 ^ 15 =
    mul-le-mul {n₁ = q + 1} {m₁ = 2 ^ m} {n₂ = 2 ^ 10} {m₂ = 2 ^ 15} (omega (arith, n, o.delay_low)) (pow_mono o.m_low) in
    omega (arith, x, add-mul q 1 (2 ^ m), split (C - F) m, mod-lt (C - F) {m = 2 ^ m} (pow_pos m))

-- what a call that answers 0 leaves
pub record Fits (s : Tat) : Type 0 where
  pub tat_low : s.tat < too_late
  pub arrival_low : s.arrival < slot_numbers

fits_at : (s : Tat) (N m F C a e : ℕ) → Good s N m F C a → e < 2 ^ 48 → Fits (scheduled F C a (a * 2 ^ m) e).tat
unfolding scheduled too_late
fits_at s N m F C a e g low = go (C - F <? e - a * 2 ^ m) refl
  where
    o : Obeys N m F C
    o = rules_facts N (bucket_of m F C 0) g.rules

    go : (b : Bool) → (C - F <? e - a * 2 ^ m) ≡ b
        → Fits (when b then timed_of 0 excess (sub_ℕ e (a * 2 ^ m)) 0 (tat_of e a true)
        else timed_of 0 accepted (sub_ℕ e (a * 2 ^ m)) (max (a * 2 ^ m) e) (tat_of (max (a * 2 ^ m) e + F) a true)).tat
    go true q = record { tat_low = low; arrival_low = g.run }
    go false q =
        record {
          tat_low = omega (
            arith,
            ltb-false (C - F) (e - a * 2 ^ m) q,
            now_low a m g.run o.m_low,
            tolerance_low N m F C g.N_high o,
            o.F_most,
          );
          arrival_low = g.run;
        }

-- TAT as stored is below 2^48, and so is the slot's start
expected_low : (s : Tat) (N m F C a : ℕ) → Good s N m F C a → expected_at s (a * 2 ^ m) < 2 ^ 48
unfolding expected_at too_late
expected_low s N m F C a g = go s.started refl
  where
    go : (b : Bool) → s.started ≡ b → (when b then s.tat else a * 2 ^ m) < 2 ^ 48
    go true q = (g.stored q).0
    go false q = omega (arith, now_low a m g.run (rules_facts N (bucket_of m F C 0) g.rules).m_low)

pub leaves : (s : Tat) (N m F C a : ℕ) → refusal_of s N m F C a ≡ 0 → Fits (timed s N m F C a).tat
leaves s N m F C a e =
    let g = good_is s N m F C a e in
    subst (λ (r : Timed). Fits r.tat) (sym (timed_is s N m F C a e))
    (fits_at s N m F C a (expected_at s (a * 2 ^ m)) g (expected_low s N m F C a g))

stored_after : (s : Tat) (N m F C a : ℕ) → refusal_of s N m F C a ≡ 0 → stored_fits (timed s N m F C a).tat ≡ true
stored_after s N m F C a e =
    let f = leaves s N m F C a e in stored_good (timed s N m F C a).tat (λ on. (f.tat_low, f.arrival_low))

-- a state whose numbers fit gets no 3
other_number : (s : Tat) (N m F C a : ℕ) → stored_fits s ≡ true → refusal_of s N m F C a ≢ 3
unfolding refusal_of
other_number s N m F C a f = rw f (go (1 ≤? N && N ≤? most_n) (obeys_rules N (bucket_of m F C 0)) (in_order s a))
  where
    go : (x y w : Bool)
        → ◌≡◌ {A = ℕ} (when not x then 1 else when not y then 6 else when not w then 12 else 0) 3
        → ⊥
    go false y w e = omega (arith, e)
    go true false w e = omega (arith, e)
    go true true false e = omega (arith, e)
    go true true true e = omega (arith, e)

not_three : (s : Tat) (N m F C a : ℕ) → stored_fits s ≡ true → (timed s N m F C a).number ≢ 3
not_three s N m F C a f q = other_number s N m F C a f (sym (number_is s N m F C a) ∙ q)

pub never_three : NeverThree
never_three s N m F C a e N' m' F' C' a' =
    not_three (timed s N m F C a).tat N' m' F' C' a' (stored_after s N m F C a (sym (number_is s N m F C a) ∙ e))

-- a call that is refused leaves the state as it came; one that isn't leaves one that fits
kept_fit : (s : Tat) (q : Ask) → stored_fits s ≡ true → stored_fits (asked s q).tat ≡ true
kept_fit s q f = go (ℕ_discrete (refusal_of s q.N q.m q.F q.C q.arrival) 0)
  where
    go : Dec (refusal_of s q.N q.m q.F q.C q.arrival ≡ 0) → stored_fits (asked s q).tat ≡ true
    go (yes e) = stored_after s q.N q.m q.F q.C q.arrival e
    go (no n) =
        ap (λ (r : Timed). stored_fits r.tat)
        (sym (timed_refused s q.N q.m q.F q.C q.arrival _ refl n))
        ∙ f

all_fit : (s : Tat) (qs : List Ask) → stored_fits s ≡ true → stored_fits (asked_all s qs) ≡ true
all_fit s [] f = f
all_fit s (q ∷ qs) f = all_fit (asked s q).tat qs (kept_fit s q f)

-- not started, nothing stored is read
asleep : (s : Tat) → s.started ≡ false → stored_fits s ≡ true
unfolding stored_fits
asleep s e = rw e

pub no_run_gets_three : NoRunGetsThree
no_run_gets_three s e before q =
    not_three (asked_all s before) q.N q.m q.F q.C q.arrival (all_fit s before (asleep s e))

pub tat_low : TatLow
tat_low s N m F C a e v =
    let r = rule_is s N m F C a e in
    let x = expected_at s (a * 2 ^ m) in
    let g = good_is s N m F C a (sym (number_is s N m F C a) ∙ e) in
    let o = rules_facts N (bucket_of m F C 0) g.rules in
    let k = r.conforms.0 v in
    let early : ahead (timed s N m F C a).early ≡ x - a * 2 ^ m =
    ap ahead r.early_is ∙ ahead_sub x (a * 2 ^ m) in
    omega (
      arith,
      (r.moves v).0,
      (r.moves v).1,
      k,
      early,
      now_low a m g.run o.m_low,
      tolerance_low N m F C g.N_high o,
      o.F_most,
    )

-- ── E3 ──
first_rule : (F C a now : ℕ)
    → let r = scheduled F C a now now in
    let q = scheduled F C a now 0 in
    (q.verdict ≡ r.verdict) × (q.due ≡ r.due) × (q.tat ≡ r.tat)
unfolding scheduled
first_rule F C a now =
    let x : 0 - now ≡ 0 = omega arith in
    let y : now - now ≡ 0 = omega arith in
    let u : max now 0 ≡ now = omega arith in
    let w : max now now ≡ now = omega arith in
    rw (x, y, u, w, le-ltb (C - F) 0 (omega arith)) (refl, refl, refl)

pub first_is : FirstIs
unfolding expected_at too_late slot_numbers
first_is s N m F C a p n before e =
    let g = good_is s N m F C a (sym (number_is s N m F C a) ∙ e) in
    let none = no_refusal (tat_of 0 p true) N m F C a (record {
      N_low = g.N_low;
      N_high = g.N_high;
      rules = g.rules;
      run = g.run;
      stored = λ on. (omega arith, omega (arith, before, g.run), before);
    }) in
    let q = timed_is (tat_of 0 p true) N m F C a none in
    let r = timed_is s N m F C a (sym (number_is s N m F C a) ∙ e) in
    let same = first_rule F C a (a * 2 ^ m) in
    (number_is (tat_of 0 p true) N m F C a ∙ none, rw (q, r, n) same.0, rw (q, r, n) same.1, rw (q, r, n) same.2)
