-- Arithmetic of 32 bits: the next slot number, and an elapsed count far below 2^32 is the true one. No other file opens
-- 2^32.
use Prim.Native.Nat.{ℕ, zero, suc, ◌+◌, ◌-◌, ◌%◌, ◌≤◌, ◌<◌}
use mathlib.Core.Path.{◌≡◌, refl, sym, ap}
use mathlib.Core.List.{List, [], ◌∷◌, map}
use native.Mathlib.Omega.{arith}
use lib.ListN.{set, replicate}
use Rattle.meaning.specs.Numbers.{slot_numbers}
use Rattle.meaning.specs.Bucket.{elapsed}
use Rattle.theory_clock.specs.Stored.{stored, stored_arrival, stored_arrivals}
use Rattle.theory_clock.specs.Kept.{longest}

-- an arrival slot is stored as t is, from the first slot on
pub arrival_stored : (k : ℕ) → 1 ≤ k → stored_arrival k ≡ stored k
unfolding stored_arrival stored slot_numbers
arrival_stored k h = omega arith

pub arrivals_set : (l : List ℕ) (x k : ℕ) → 1 ≤ k → set (stored_arrivals l) x (stored k) ≡ stored_arrivals (set l x k)
unfolding stored_arrivals
arrivals_set [] x k h = refl
arrivals_set (y ∷ l) zero k h = ap {B = List ℕ} (λ n. n ∷ map stored_arrival l) (sym (arrival_stored k h))
arrivals_set (y ∷ l) (suc x) k h = ap {B = List ℕ} (λ r. stored_arrival y ∷ r) (arrivals_set l x k h)

-- after setup no cell has come
pub arrivals_none : (n : ℕ) → stored_arrivals (replicate n 0) ≡ replicate n 0
unfolding stored_arrivals stored_arrival slot_numbers
arrivals_none zero = refl
arrivals_none (suc n) = ap {B = List ℕ} (λ r. 0 ∷ r) (arrivals_none n)

-- no connection can be so far behind that its elapsed count wraps
pub numbers_enough : longest < slot_numbers
unfolding slot_numbers longest
numbers_enough = omega arith

pub stored_zero : stored 0 ≡ slot_numbers - 1
unfolding stored slot_numbers
stored_zero = refl

pub stored_next : (k : ℕ) → (stored k + 1) % slot_numbers ≡ stored (k + 1)
unfolding stored slot_numbers
stored_next k = omega arith

-- it does wrap: 2^32 slots later the same number is stored
pub stored_wraps : (k : ℕ) → stored (k + slot_numbers) ≡ stored k
unfolding stored slot_numbers
stored_wraps k = omega arith

pub elapsed_true : (k l : ℕ) → l ≤ k → k ≤ l + longest → elapsed (stored k) (stored l) ≡ k - l
unfolding elapsed stored slot_numbers
elapsed_true k l a b = let c : longest < slot_numbers = numbers_enough in omega arith

-- Without rotation a connection that is silent for 2^32 slots would seem to have been brought up to date in this one.
pub elapsed_lost : (l : ℕ) → elapsed (stored (l + slot_numbers)) (stored l) ≡ 0
unfolding elapsed stored slot_numbers
elapsed_lost l = omega arith
