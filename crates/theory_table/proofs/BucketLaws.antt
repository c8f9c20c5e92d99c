-- A bucket by its own leak rule, said once and cited for both buckets of a connection: S at the last update is what the rule leaves, so
-- a fall leaves it so, it is excess exactly when the rule does not accept, and a fill moves the rule on by one cell.
use Prim.Native.Nat.{ℕ, zero, suc, ◌+◌, ◌-◌, ◌*◌, ◌^◌, ◌≤◌, ◌<◌}
use mathlib.Core.Path.{◌≡◌, refl, sym, ap, ◌∙◌}
use mathlib.Core.Bool.{true, not}
use mathlib.Core.Option.{Option, some}
use native.Mathlib.Nat.{add-mul}
use native.Mathlib.Decide.{dec_lt}
use native.Mathlib.Omega.{arith}
use borrow.Author.Tests.{leb-true, le-leb, lt-leb, lt-ltb, le-ltb}
use Rattle.meaning.specs.Plain.{◌<?◌, ◌≤?◌}
use Rattle.meaning.specs.Bucket.{bucket_of, fall, is_excess, fill}
use Rattle.meaning_runs.specs.Leak.{due_after, leak_after}
use Rattle.theory_table.specs.Stored.{earliest_after, level_after, bucket_after}
use Rattle.theory_table.proofs.LeakLaws.{due_after_lem, leak_after_lem}

pub one_less : (now : ℕ) → suc now - 1 ≡ now
one_less now = omega arith

module _ (m F C : ℕ) (p : Option ℕ) where
  abbrev e : ℕ
  e = earliest_after F p

  level_later : (now seen : ℕ) → (seen ≡ 0 → e ≡ 0) → seen ≤ suc now
      → level_after m F p seen - (suc now - seen) * 2 ^ m ≡ level_after m F p (suc now)
  level_later now zero u h = omega (arith, u refl)
  level_later now (suc k) u h = rw (back, apart) (omega (arith, add-mul k (now - k) (2 ^ m), whole))
    where
      back : suc k - 1 ≡ k
      back = omega arith

      apart : suc now - suc k ≡ now - k
      apart = omega arith

      whole : (k + (now - k)) * 2 ^ m ≡ (suc now - 1) * 2 ^ m
      whole = ap (λ (i : ℕ). i * 2 ^ m) (omega arith)

  -- "S falls by elapsed × L, not below 0"
  pub falls : (now seen : ℕ) → (seen ≡ 0 → e ≡ 0) → seen ≤ suc now
      → fall (suc now - seen) (bucket_after m F C p seen) ≡ bucket_after m F C p (suc now)
  unfolding fall
  falls now seen u h = ap (bucket_of m F C) (level_later now seen u h)

  pub falls_low : (now seen : ℕ) → (seen ≡ 0 → e ≡ 0) → seen ≤ suc now → level_after m F p seen ≤ C
      → level_after m F p (suc now) ≤ C
  falls_low now seen u h low = omega (arith, level_later now seen u h, low)

  -- no cell has filled it
  pub level_fresh : (k : ℕ) → e ≡ 0 → level_after m F p k ≡ 0
  level_fresh k z = omega (arith, z)

  -- excess exactly when the leak rule says so
  pub excess_after : (now : ℕ) → is_excess (bucket_after m F C p (suc now)) ≡ not (leak_after (2 ^ m) F C now p)
  unfolding is_excess
  excess_after now = rw (one_less now, leak_after_lem (2 ^ m) F C now p) (go (dec_lt (C - F) (e - now * 2 ^ m)))
    where
      go : Dec (C - F < e - now * 2 ^ m) → (C - F <? e - now * 2 ^ m) ≡ not (e - now * 2 ^ m ≤? C - F)
      go (yes q) = rw (lt-ltb (C - F) (e - now * 2 ^ m) q, lt-leb (e - now * 2 ^ m) (C - F) q)
      go (no q) = rw (le-ltb (C - F) (e - now * 2 ^ m) (omega arith), le-leb (e - now * 2 ^ m) (C - F) (omega arith))

  pub leak_le : (now : ℕ) → leak_after (2 ^ m) F C now p ≡ true → e - now * 2 ^ m ≤ C - F
  leak_le now a = leb-true (e - now * 2 ^ m) (C - F) (sym (leak_after_lem (2 ^ m) F C now p) ∙ a)

  -- "S grows by F"
  pub fills : (now : ℕ)
      → fill (bucket_after m F C p (suc now)) ≡ bucket_after m F C (some (due_after (2 ^ m) F now p)) (suc now)
  unfolding fill
  fills now = ap (bucket_of m F C) (rw (one_less now) (omega (arith, due_after_lem (2 ^ m) F now p)))

  -- a cell within the rule fills it no higher than C
  pub fills_low : (now : ℕ) → leak_after (2 ^ m) F C now p ≡ true → F ≤ C
      → level_after m F (some (due_after (2 ^ m) F now p)) (suc now) ≤ C
  fills_low now a low = rw (one_less now) (omega (arith, due_after_lem (2 ^ m) F now p, leak_le now a))
