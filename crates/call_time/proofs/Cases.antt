-- The cases of the engine's definition, over plain numbers.
use Prim.Native.Nat.{ℕ, zero, suc, ◌+◌, ◌-◌, ◌*◌, ◌^◌, ◌≤◌, ◌<◌, max}
use mathlib.Core.Path.{◌≡◌, refl, ap, ap₂, ◌∙◌}
use mathlib.Core.Bool.{Bool, true, false, cond, not, ◌&&◌, ◌||◌}
use lib.IntN.{ℤ, pos, negsuc, sub_ℕ, ◌-ℤ◌}
use lib.Dec.{ltb}
use mir.Syntax.{w64}
use mir.Val.{SFits, to_z, of_z}
use mir.ValLaws.{to_z_pos, to_z-of_z}
use native.Mathlib.Nat.{lt_of_lt_of_le}
use native.Mathlib.Omega.{arith}
use lib.Pow.{shl_lt, pow_mono}
use borrow.Author.Tests.{ltb-true, leb-true, lt-ltb, le-ltb, le-leb, eq-eqb, ne_eqb}
use Rattle.meaning.specs.Plain.{when◌then◌else◌, ◌<?◌, ◌≤?◌}
use Rattle.meaning.specs.Numbers.{most_n, slot_numbers, accepted, excess}
use Rattle.meaning.specs.Bucket.{bucket_of, obeys_rules}
use Rattle.leaf_bucket.proofs.Rules.{both}
use Rattle.call_time.specs.declared.Tat.{Tat}
use Rattle.call_time.specs.Schedule.{ahead, tat_of, timed_of, too_late, stored_fits, in_order, refusal_of, scheduled, expected_at, timed}

-- ── the rule ──
-- how early a cell is, 0 when late, is what the due time lies after the arrival
module _ (F C a now e : ℕ) where
  pub too_early : C - F < max now e - now → scheduled F C a now e ≡ timed_of 0 excess (sub_ℕ e now) 0 (tat_of e a true)
  unfolding scheduled
  too_early h = rw (lt-ltb (C - F) (e - now) (omega (arith, h))) refl

  pub in_time : max now e - now ≤ C - F
      → scheduled F C a now e ≡ timed_of 0 accepted (sub_ℕ e now) (max now e) (tat_of (max now e + F) a true)
  unfolding scheduled
  in_time h = rw (le-ltb (C - F) (e - now) (omega (arith, h))) refl

-- ── what no refusal means ──
pub record Good (s : Tat) (N m F C a : ℕ) : Type 0 where
  pub N_low : 1 ≤ N
  pub N_high : N ≤ 1_024
  pub rules : obeys_rules N (bucket_of m F C 0) ≡ true
  pub run : a < slot_numbers
  pub stored : s.started ≡ true → (s.tat < too_late) × (s.arrival < slot_numbers) × (s.arrival < a)

-- the two tests of the clock, of a state that is started and of one that isn't
module _ (s : Tat) where
  pub stored_good : (s.started ≡ true → (s.tat < too_late) × (s.arrival < slot_numbers)) → stored_fits s ≡ true
  unfolding stored_fits
  stored_good k = go s.started k
    where
      go : (b : Bool) → (b ≡ true → (s.tat < too_late) × (s.arrival < slot_numbers))
          → not b || (s.tat <? too_late && s.arrival <? slot_numbers) ≡ true
      go false k = refl
      go true k = rw (lt-ltb s.tat too_late (k refl).0, lt-ltb s.arrival slot_numbers (k refl).1) refl

  stored_facts : stored_fits s ≡ true → s.started ≡ true → (s.tat < too_late) × (s.arrival < slot_numbers)
  unfolding stored_fits
  stored_facts e on =
      let t = both (s.tat <? too_late) (s.arrival <? slot_numbers) (rw on at e) in
      (ltb-true s.tat too_late t.0, ltb-true s.arrival slot_numbers t.1)

module _ (s : Tat) (a : ℕ) where
  order_good : a < slot_numbers → (s.started ≡ true → s.arrival < a) → in_order s a ≡ true
  unfolding in_order
  order_good h k = rw (lt-ltb a slot_numbers h) (go s.started k)
    where
      go : (b : Bool) → (b ≡ true → s.arrival < a) → not b || s.arrival <? a ≡ true
      go false k = refl
      go true k = lt-ltb s.arrival a (k refl)

  order_facts : in_order s a ≡ true → (a < slot_numbers) × (s.started ≡ true → s.arrival < a)
  unfolding in_order
  order_facts e =
      let t = both (a <? slot_numbers) (not s.started || s.arrival <? a) e in
      (ltb-true a slot_numbers t.0, λ on. ltb-true s.arrival a (rw on at t.1))

pub no_refusal : (s : Tat) (N m F C a : ℕ) → Good s N m F C a → refusal_of s N m F C a ≡ 0
unfolding refusal_of
no_refusal s N m F C a g =
    rw (
      le-leb 1 N g.N_low,
      le-leb N 1_024 g.N_high,
      g.rules,
      stored_good s (λ on. ((g.stored on).0, (g.stored on).1)),
      order_good s a g.run (λ on. (g.stored on).2),
    ) refl

-- and back: where no number is given, no refusal's case holds
pub good_is : (s : Tat) (N m F C a : ℕ) → refusal_of s N m F C a ≡ 0 → Good s N m F C a
unfolding refusal_of
good_is s N m F C a =
    go (1 ≤? N && N ≤? most_n) (obeys_rules N (bucket_of m F C 0)) (stored_fits s) (in_order s a) refl refl refl refl
  where
    go : (x y u w : Bool) → (1 ≤? N && N ≤? most_n) ≡ x → obeys_rules N (bucket_of m F C 0) ≡ y → stored_fits s ≡ u
        → in_order s a ≡ w
        → ◌≡◌ {A = ℕ} (when not x then 1 else when not y then 6 else when not u then 3 else when not w then 12 else 0) 0
        → Good s N m F C a
    go false y u w ex ey eu ew e = absurd (omega (arith, e))
    go true false u w ex ey eu ew e = absurd (omega (arith, e))
    go true true false w ex ey eu ew e = absurd (omega (arith, e))
    go true true true false ex ey eu ew e = absurd (omega (arith, e))
    go true true true true ex ey eu ew e =
        let n = both (1 ≤? N) (N ≤? most_n) ex in
        let o = order_facts s a ew in
        record {
          N_low = leb-true 1 N n.0;
          N_high = leb-true N 1_024 n.1;
          rules = ey;
          run = o.0;
          stored = λ on. ((stored_facts s eu on).0, (stored_facts s eu on).1, o.1 on);
        }

-- ── the call ──
module _ (s : Tat) (N m F C a : ℕ) where
  pub timed_refused : (k : ℕ) → k ≡ refusal_of s N m F C a → (k ≡ 0 → ⊥) → timed_of k 0 (pos 0) 0 s ≡ timed s N m F C a
  unfolding timed
  timed_refused k e n = rw (← e, ne_eqb k 0 n) refl

  pub timed_is : refusal_of s N m F C a ≡ 0 → timed s N m F C a ≡ scheduled F C a (a * 2 ^ m) (expected_at s (a * 2 ^ m))
  unfolding timed
  timed_is e = rw (eq-eqb (refusal_of s N m F C a) 0 e) refl

  pub first_is : refusal_of s N m F C a ≡ 0 → s.started ≡ false → timed s N m F C a ≡ scheduled F C a (a * 2 ^ m) (a * 2 ^ m)
  unfolding expected_at
  first_is e n = timed_is e ∙ rw n refl

  pub later_is : refusal_of s N m F C a ≡ 0 → s.started ≡ true → timed s N m F C a ≡ scheduled F C a (a * 2 ^ m) s.tat
  unfolding expected_at
  later_is e n = timed_is e ∙ rw n refl

-- ── sizes ──
-- a slot's start in parts of 1/L slot
pub now_low : (a m : ℕ) → a < slot_numbers → m ≤ 15 → a * 2 ^ m < 2 ^ 47
unfolding slot_numbers
now_low a m h k = lt_of_lt_of_le (shl_lt 32 m h) (pow_mono {i = 32 + m} {j = 47} (omega arith))

-- nor has what a cell is expected at more than 48 bits
pub expected_low : (s : Tat) (N m F C a now : ℕ) → Good s N m F C a → now < 2 ^ 48 → (e : ℕ) → e ≡ expected_at s now → e < 2 ^ 48
unfolding expected_at too_late
expected_low s N m F C a now g h e is = go s.started refl is
  where
    go : (b : Bool) → s.started ≡ b → e ≡ (when b then s.tat else now) → e < 2 ^ 48
    go true on k = let t = (g.stored on).0 in omega (arith, k, t)
    go false on k = omega (arith, k, h)

-- ── the sign ──
pos_sub : (a b : ℕ) → pos a -ℤ pos b ≡ sub_ℕ a b
pos_sub a zero = rw (le-ltb a 0 (omega arith)) (ap pos (omega arith))
pos_sub a (suc b) = refl

pub signed_sub : (a b : ℕ) → a < 2 ^ 48 → b < 2 ^ 48 → to_z w64 a -ℤ to_z w64 b ≡ sub_ℕ a b
signed_sub a b h k =
    ap₂ (λ (x y : ℤ). x -ℤ y) (to_z_pos w64 a (omega (arith, h))) (to_z_pos w64 b (omega (arith, k))) ∙ pos_sub a b

pub sub_fits : (a b : ℕ) → a < 2 ^ 48 → b < 2 ^ 48 → SFits w64 (sub_ℕ a b)
sub_fits a b h k = go (ltb a b)
  where
    go : (c : Bool) → SFits w64 (cond c (negsuc (b - suc a)) (pos (a - b)))
    go true = record { sfits = omega (arith, k) }
    go false = record { sfits = omega (arith, h) }

-- and comes back from the bits that hold it
pub back : (z : ℤ) (a b : ℕ) → z ≡ sub_ℕ a b → a < 2 ^ 48 → b < 2 ^ 48 → to_z w64 (of_z w64 z) ≡ sub_ℕ a b
back z a b e h k = ap (λ (x : ℤ). to_z w64 (of_z w64 x)) e ∙ to_z-of_z w64 (sub_ℕ a b) (sub_fits a b h k)

pub ahead_sub : (a b : ℕ) → ahead (sub_ℕ a b) ≡ a - b
ahead_sub a b = go (ltb a b) refl
  where
    go : (c : Bool) → ltb a b ≡ c → ahead (cond c (negsuc (b - suc a)) (pos (a - b))) ≡ a - b
    go true e = omega (arith, ltb-true a b e)
    go false e = refl
