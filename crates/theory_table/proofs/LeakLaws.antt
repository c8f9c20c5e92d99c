-- The exact leak rule by the earliest due time of the next cell: due time, verdict, D, and that due slots grow.
use Prim.Native.Nat.{ℕ, ◌+◌, ◌-◌, ◌*◌, ◌/◌, ◌≤◌, ◌<◌, max}
use mathlib.Core.Path.{◌≡◌, refl, sym, ap, ◌∙◌}
use mathlib.Core.Bool.{Bool, true, false, ◌&&◌, ◌||◌}
use mathlib.Core.Option.{Option, none, some}
use native.Mathlib.Nat.{mul-add-div_right, add-mul, le-div_iff_mul-le, div-mul-le_self, le_trans}
use native.Mathlib.Omega.{arith}
use lib.Pow.{pow_pos}
use borrow.Author.Tests.{leb-true, ltb-true, le-leb, eqb-true}
use Rattle.meaning.specs.Plain.{◌<?◌, ◌≤?◌, ◌=?◌}
use Rattle.meaning.specs.Numbers.{most_m, most_f, most_second_c}
use Rattle.meaning.specs.Bucket.{Bucket, bucket_of, L, obeys_rules, obeys_second, is_none}
use Rattle.meaning.specs.Words.{second_obeys}
use Rattle.meaning_runs.specs.Leak.{Opening, parts, due_after, due_time, due_slot, leak_after, leak_accepts}
use Rattle.theory_table.specs.Stored.{earliest_after, earliest}

pub due_after_lem : (L F t : ℕ) (p : Option ℕ) → due_after L F t p ≡ max (t * L) (earliest_after F p)
due_after_lem L F t none = omega arith
due_after_lem L F t (some p) = refl

pub due_time_lem : (o : Opening) (t : ℕ) → due_time o t ≡ max (t * parts o) (earliest o)
unfolding due_time
due_time_lem o t = due_after_lem (parts o) o.F t o.previous

pub leak_after_lem : (L F C t : ℕ) (p : Option ℕ) → leak_after L F C t p ≡ (earliest_after F p - t * L ≤? C - F)
leak_after_lem L F C t none = sym (le-leb (0 - t * L) (C - F) (omega arith))
leak_after_lem L F C t (some p) = refl

pub leak_is : (o : Opening) (t : ℕ) → leak_accepts o t ≡ (earliest o - t * parts o ≤? o.C - o.F)
unfolding leak_accepts
leak_is o t = leak_after_lem (parts o) o.F o.C t o.previous

-- D slots after the arrival
pub due_slot_lem : (o : Opening) (t : ℕ) → due_slot o t ≡ t + (earliest o - t * parts o) / parts o
unfolding due_slot
due_slot_lem o t =
    ap (λ (n : ℕ). n / parts o) (due_time_lem o t ∙ split)
    ∙ mul-add-div_right (pow_pos o.m) t (earliest o - t * parts o)
  where
    split : max (t * parts o) (earliest o) ≡ t * parts o + (earliest o - t * parts o)
    split = omega arith

-- a larger number divides to no less
pub div_mono : (x y k : ℕ) → 0 < k → x ≤ y → x / k ≤ y / k
div_mono x y k p h = (le-div_iff_mul-le p).1 (le_trans (div-mul-le_self x k) h)

div_grows : (k F d e : ℕ) → 0 < k → k ≤ F → d + F ≤ e → d / k < e / k
div_grows k F d e h h_f hd =
    (le-div_iff_mul-le h).1 (omega (arith, (le-div_iff_mul-le {x = d / k} {y = d} h).0 (omega arith), add-mul (d / k) 1 k))

-- due slots of one opening grow
pub due_grows : (o : Opening) (time t : ℕ) → parts o ≤ o.F → time + o.F ≤ earliest o → time / parts o < due_slot o t
unfolding due_slot
due_grows o time t low h =
    div_grows (parts o) o.F time (due_time o t) (pow_pos o.m) low (omega (arith, due_time_lem o t))

-- ── the rules that an opening obeys ──
pub and_left : (a b : Bool) → a && b ≡ true → a ≡ true
and_left true b e = refl
and_left false b e = e

pub and_right : (a b : Bool) → a && b ≡ true → b ≡ true
and_right true b e = e
and_right false b e = absurd (let z : ◌≡◌ {A = ℕ} 0 1 = cc in omega arith)

pub record Rules (N : ℕ) (b : Bucket) : Type 0 where
  pub F_low : L b ≤ b.F
  pub C_low : b.F ≤ b.C
  pub C_high : (b.C - b.F) / L b < N

pub rules_are : (N : ℕ) (b : Bucket) → obeys_rules N b ≡ true → Rules N b
unfolding obeys_rules
rules_are N b e =
    record {
      F_low = leb-true (L b) b.F (and_right (b.m ≤? most_m) (L b ≤? b.F) e2);
      C_low = leb-true b.F b.C (and_right (b.m ≤? most_m && L b ≤? b.F && b.F ≤? most_f) (b.F ≤? b.C) e4);
      C_high = ltb-true ((b.C - b.F) / L b) N
          (and_right (b.m ≤? most_m && L b ≤? b.F && b.F ≤? most_f && b.F ≤? b.C) ((b.C - b.F) / L b <? N) e);
    }
  where
    e4 : b.m ≤? most_m && L b ≤? b.F && b.F ≤? most_f && b.F ≤? b.C ≡ true
    e4 = and_left (b.m ≤? most_m && L b ≤? b.F && b.F ≤? most_f && b.F ≤? b.C) ((b.C - b.F) / L b <? N) e

    e3 : b.m ≤? most_m && L b ≤? b.F && b.F ≤? most_f ≡ true
    e3 = and_left (b.m ≤? most_m && L b ≤? b.F && b.F ≤? most_f) (b.F ≤? b.C) e4

    e2 : b.m ≤? most_m && L b ≤? b.F ≡ true
    e2 = and_left (b.m ≤? most_m && L b ≤? b.F) (b.F ≤? most_f) e3

-- S is no part of the rules
pub rules_any : (N m F C S : ℕ) → obeys_rules N (bucket_of m F C 0) ≡ true → obeys_rules N (bucket_of m F C S) ≡ true
unfolding obeys_rules
rules_any N m F C S e = e

-- ── those that a second bucket obeys, or none ──
or_cases : {A : Type 0} (a b : Bool) → a || b ≡ true → (a ≡ true → A) → (b ≡ true → A) → A
or_cases true b e f g = f refl
or_cases false b e f g = g e

pub second_C_low : (b : Bucket) (tag : ℕ) → second_obeys b tag ≡ true → b.F ≤ b.C
unfolding second_obeys obeys_second is_none
second_C_low b tag e =
    or_cases (b.m =? 0 && b.F =? 0 && b.C =? 0 && tag =? 0) _ e
    (λ none. let z = and_left (b.m =? 0 && b.F =? 0 && b.C =? 0) (tag =? 0) none in
    omega (arith, eqb-true b.F 0 (and_right (b.m =? 0) (b.F =? 0) (and_left (b.m =? 0 && b.F =? 0) (b.C =? 0) z))))
    (λ some. leb-true b.F b.C (and_right (b.m ≤? most_m && 1 ≤? b.F && b.F ≤? most_f) (b.F ≤? b.C)
    (and_left (b.m ≤? most_m && 1 ≤? b.F && b.F ≤? most_f && b.F ≤? b.C) (b.C ≤? most_second_c)
    (and_left (b.m ≤? most_m && 1 ≤? b.F && b.F ≤? most_f && b.F ≤? b.C && b.C ≤? most_second_c) (tag ≤? 1) some))))

pub second_any : (m F C S tag : ℕ) → second_obeys (bucket_of m F C 0) tag ≡ true → second_obeys (bucket_of m F C S) tag ≡ true
unfolding second_obeys obeys_second is_none
second_any m F C S tag e = e
