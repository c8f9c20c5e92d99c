-- A bucket's leak rule by the slots of the cells that filled it: the next cell is due, at the earliest, at the largest of slot × L
-- plus F for it and for each cell after it. So cells that the rule takes keep to it in any stretch, and those that keep to it are
-- taken. Numbers and lists alone.
use Prim.Native.Nat.{ℕ, zero, suc, ◌+◌, ◌-◌, ◌*◌, ◌^◌, ◌≤◌, ◌<◌, max}
use mathlib.Core.Path.{◌≡◌, refl, sym, ap, ◌∙◌}
use mathlib.Core.Logic.{◌⊎◌, inl, inr}
use mathlib.Core.Bool.{Bool, true, ◌&&◌}
use mathlib.Core.List.{List, [], ◌∷◌}
use mathlib.Core.Option.{Option, none, some}
use native.Mathlib.Nat.{zero-mul, suc-mul, mul_comm, mul-sub, mul-le-mul_right, le-div_iff_mul-le, suc-add, zero-add, not-suc-le-zero, le_of_suc-le-suc}
use native.Mathlib.Decide.{dec_le}
use native.Mathlib.Omega.{arith}
use borrow.Author.Tests.{leb-true, ltb-true, le-leb}
use lib.ListN.{length, get_or}
use Rattle.meaning.specs.Plain.{when◌then◌else◌, ◌<?◌, ◌≤?◌}
use Rattle.meaning.specs.Words.{Second}
use Rattle.meaning_runs.specs.Leak.{due_after, leak_after}
use Rattle.theory_table.specs.Stored.{earliest_after}
use Rattle.theory_table.proofs.LeakLaws.{due_after_lem, leak_after_lem, and_left, and_right}
use Rattle.promise_bound.proofs.CountLaws.{count, close_few}
use Rattle.promise_sustained.specs.Sustained.{Spans, Keeps, in_slots, most}

sub_mul : (a b L : ℕ) → (a - b) * L ≡ a * L - b * L
sub_mul a b L = mul_comm (a - b) L ∙ mul-sub L a b ∙ omega (arith, mul_comm L a, mul_comm L b)

-- what a cell in slot a asks of the one that is j cells after it
abbrev pub asks : ℕ → ℕ → ℕ → ℕ → ℕ
asks L F a j = a * L + j * F

-- p is the last due time that the rule gave, if any, to the cells of these slots
pub record Reckoned (L F : ℕ) (l : List ℕ) (p : Option ℕ) : Type 0 where
  pub each : (j : ℕ) → j < length l → asks L F (get_or l j 0) (suc j) ≤ earliest_after F p
  pub some_one : (earliest_after F p ≡ 0)
      ⊎ ((j : ℕ) × (j < length l) × (earliest_after F p ≡ asks L F (get_or l j 0) (suc j)))

pub reckoned_none : (L F : ℕ) → Reckoned L F [] none
reckoned_none L F = record { each = λ j low. absurd (not-suc-le-zero low); some_one = inl refl }

module _ (L F t : ℕ) (l : List ℕ) (p : Option ℕ) (r : Reckoned L F l p) where
  abbrev later : Option ℕ
  later = some (due_after L F t p)

  grows : earliest_after F (some (due_after L F t p)) ≡ max (t * L) (earliest_after F p) + F
  grows = ap (λ (d : ℕ). d + F) (due_after_lem L F t p)

  each_more : (j : ℕ) → j < length (t ∷ l) → asks L F (get_or (t ∷ l) j 0) (suc j) ≤ earliest_after F later
  each_more zero low = omega (arith, grows, suc-mul 0 F, zero-mul F)
  each_more (suc j) low = omega (arith, grows, suc-mul (suc j) F, r.each j (le_of_suc-le-suc low))

  abbrev Found : List ℕ → ℕ → Type 0
  Found k e = (e ≡ 0) ⊎ ((j : ℕ) × (j < length k) × (e ≡ asks L F (get_or k j 0) (suc j)))

  first_one : Found (t ∷ l) (t * L + F)
  first_one = inr (0, omega arith, omega (arith, suc-mul 0 F, zero-mul F))

  next_one : Dec (earliest_after F p ≤ t * L) → Found l (earliest_after F p) → Found (t ∷ l) (max (t * L) (earliest_after F p) + F)
  next_one (yes q) f = rw (let e : max (t * L) (earliest_after F p) ≡ t * L = omega arith in e) first_one
  next_one (no q) (inl e) = absurd (q (omega (arith, e)))
  next_one (no q) (inr f) = inr (suc f.0, omega (arith, f.1), omega (arith, f.2, suc-mul (suc f.0) F))

  pub reckoned_more : Reckoned L F (t ∷ l) (some (due_after L F t p))
  reckoned_more =
      record {
        each = each_more;
        some_one = rw grows (next_one (dec_le (earliest_after F p) (t * L)) r.some_one);
      }

module _ (m F C t : ℕ) (l : List ℕ) (p : Option ℕ) (r : Reckoned (2 ^ m) F l p) where
  abbrev L : ℕ
  L = 2 ^ m

  -- a cell that the rule takes
  pub keeps_more : Keeps m F C l → leak_after (2 ^ m) F C t p ≡ true → Keeps m F C (t ∷ l)
  keeps_more k q = go
    where
      within : earliest_after F p - t * L ≤ C - F
      within = leb-true (earliest_after F p - t * L) (C - F) (sym (leak_after_lem L F C t p) ∙ q)

      go : (i n : ℕ) → i + n < length (t ∷ l) → Spans m F C n (get_or (t ∷ l) (i + n) 0) (get_or (t ∷ l) i 0)
      go zero zero low = omega (arith, zero-mul F)
      go zero (suc j) low =
          rw (zero-add (suc j)) (omega (arith, within, sub_mul t (get_or l j 0) L, r.each j (omega (arith, low))))
      go (suc i) n low = rw (suc-add i n) (k i n (omega (arith, low)))

  -- a cell that keeps to it, none of the others being after it
  pub keeps_takes : Keeps m F C (t ∷ l) → ((j : ℕ) → j < length l → get_or l j 0 ≤ t) → leak_after (2 ^ m) F C t p ≡ true
  keeps_takes k low = leak_after_lem L F C t p ∙ le-leb (earliest_after F p - t * L) (C - F) (go r.some_one)
    where
      kept : (j : ℕ) → j < length l → Spans m F C (suc j) (get_or l j 0) t
      kept j h = rw (zero-add (suc j)) at (k 0 (suc j) (omega (arith, h)))

      go : (earliest_after F p ≡ 0) ⊎ ((j : ℕ) × (j < length l) × (earliest_after F p ≡ asks L F (get_or l j 0) (suc j)))
          → earliest_after F p - t * L ≤ C - F
      go (inl z) = omega (arith, z)
      go (inr f) =
          omega (
            arith,
            f.2,
            kept f.0 f.1,
            sub_mul t (get_or l f.0 0) L,
            mul-le-mul_right L (low f.0 f.1),
          )

pub keeps_none : (m F C : ℕ) → Keeps m F C []
keeps_none m F C i n low = absurd (not-suc-le-zero low)

pub keeps_rest : (m F C t : ℕ) (l : List ℕ) → Keeps m F C (t ∷ l) → Keeps m F C l
keeps_rest m F C t l k i n low = rw (suc-add i n) at (k (suc i) n (omega (arith, low)))

-- ── few in a window ──
abbrev inside : ℕ → ℕ → ℕ → Bool
inside x w t = x ≤? t && t <? x + w

in_slots_lem : (x w : ℕ) (l : List ℕ) → in_slots x w l ≡ count (inside x w) 0 l
in_slots_lem x w [] = refl
in_slots_lem x w (t ∷ l) = ap (λ (n : ℕ). (when inside x w t then 1 else 0) + n) (in_slots_lem x w l)

pub few : (s : Second) (x w : ℕ) (l : List ℕ) → 1 ≤ s.F → 1 ≤ w → Keeps s.m s.F s.C l → in_slots x w l ≤ most s w
few s x w l some-F some-w k =
    omega (arith, in_slots_lem x w l, close_few (inside x w) 0 l (most s w) (λ i n low e f. near i n low e f))
  where
    near : (i n : ℕ) → i + n < length l → inside x w (get_or l i 0) ≡ true → inside x w (get_or l (i + n) 0) ≡ true → n < most s w
    near i n low e f =
        omega (
          arith,
          (le-div_iff_mul-le {x = n} {y = (w - 1) * 2 ^ s.m + (s.C - s.F)} some-F).1 (omega (
            arith,
            k i n low,
            mul-le-mul_right {m = a - b} {n = w - 1} (2 ^ s.m) (omega (arith, some-w, to, from)),
          )),
        )
      where
        a : ℕ
        a = get_or l i 0

        b : ℕ
        b = get_or l (i + n) 0

        to : a < x + w
        to = ltb-true a (x + w) (and_right (x ≤? a) (a <? x + w) e)

        from : x ≤ b
        from = leb-true x b (and_left (x ≤? b) (b <? x + w) f)
