-- Lists along which a number grows: cells by arrival slot, departures by slot. One connection's part of such a list is one too.
use Prim.Native.Nat.{ℕ, zero, suc, ◌≤◌, ◌<◌}
use mathlib.Core.Path.{◌≡◌}
use mathlib.Core.List.{List, [], ◌∷◌, ◌++◌}
use native.Mathlib.Nat.{not-suc-le-zero, le_of_suc-le-suc}
use native.Mathlib.Decide.{ℕ_discrete}
use native.Mathlib.Omega.{arith}
use lib.ListN.{length, get_or}
use Rattle.meaning_runs.specs.Seen.{of_connection}
use Rattle.theory_queues.specs.Queue.{Rising}
use Rattle.theory_queues.proofs.OrderLaws.{of_connection_yes, of_connection_no}

module _ {A : Type 0} (f : A → ℕ) where
  pub rising_up : (lo hi top : ℕ) (l : List A) → hi ≤ top → Rising f lo hi l → Rising f lo top l
  rising_up lo hi top [] h r = omega arith
  rising_up lo hi top (x ∷ l) h r = (r.0, rising_up (suc (f x)) hi top l h r.1)

  rising_down : (lo up hi : ℕ) (l : List A) → lo ≤ up → Rising f up hi l → Rising f lo hi l
  rising_down lo up hi [] h r = omega arith
  rising_down lo up hi (x ∷ l) h r = (omega arith, r.1)

  pub rising_add : (lo hi : ℕ) (l : List A) (x : A) → hi ≤ f x → Rising f lo hi l → Rising f lo (suc (f x)) (l ++ x ∷ [])
  rising_add lo hi [] x h r = (omega arith, omega arith)
  rising_add lo hi (y ∷ l) x h r = (r.0, rising_add (suc (f y)) hi l x h r.1)

  pub rising_of : (g : A → ℕ) (v lo hi : ℕ) (l : List A) → Rising f lo hi l → Rising f lo hi (of_connection g v l)
  rising_of g v lo hi [] r = r
  rising_of g v lo hi (x ∷ l) r = go (ℕ_discrete (g x) v) (rising_of g v (suc (f x)) hi l r.1)
    where
      go : Dec (g x ≡ v) → Rising f (suc (f x)) hi (of_connection g v l) → Rising f lo hi (of_connection g v (x ∷ l))
      go (yes e) k = rw (of_connection_yes g v x l e) (r.0, k)
      go (no e) k = rw (of_connection_no g v x l e) (rising_down lo (suc (f x)) hi (of_connection g v l) (omega (arith, r.0)) k)

  rising_low : (lo hi : ℕ) (l : List A) (k : ℕ) (d : A) → k < length l → Rising f lo hi l → lo ≤ f (get_or l k d)
  rising_low lo hi [] k d h r = absurd (not-suc-le-zero h)
  rising_low lo hi (x ∷ l) zero d h r = r.0
  rising_low lo hi (x ∷ l) (suc k) d h r = omega (arith, r.0, rising_low (suc (f x)) hi l k d (le_of_suc-le-suc h) r.1)

  -- an earlier one has the smaller number
  pub rising_at : (lo hi : ℕ) (l : List A) (j k : ℕ) (d : A) → j < k → k < length l → Rising f lo hi l
      → f (get_or l j d) < f (get_or l k d)
  rising_at lo hi [] j k d h m r = absurd (not-suc-le-zero m)
  rising_at lo hi (x ∷ l) j zero d h m r = absurd (not-suc-le-zero h)
  rising_at lo hi (x ∷ l) zero (suc k) d h m r = rising_low (suc (f x)) hi l k d (le_of_suc-le-suc m) r.1
  rising_at lo hi (x ∷ l) (suc j) (suc k) d h m r =
      rising_at (suc (f x)) hi l j k d (le_of_suc-le-suc h) (le_of_suc-le-suc m) r.1
