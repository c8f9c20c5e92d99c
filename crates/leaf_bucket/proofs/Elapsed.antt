-- The elapsed slots on a clock that wraps are the true count while that is below 2^32, and falling twice to one slot is
-- falling once.
use Rattle.std.proofs.Common.{◌≡◌, ℕ, ◌-◌, ◌*◌, ◌%◌, ◌^◌, ◌<◌, ◌≤◌, ap, zero-mul, arith}
use native.Mathlib.Nat.{sub-zero}
use Rattle.meaning.specs.Numbers.{slot_numbers}
use Rattle.meaning.specs.Bucket.{Bucket, bucket_of, elapsed, fall}

-- k and now count the slots without wrapping
pub elapsed_true : (k now : ℕ) → k ≤ now → now - k < slot_numbers → elapsed (now % slot_numbers) (k % slot_numbers) ≡ now - k
unfolding elapsed slot_numbers
elapsed_true k now h l = omega arith

-- nothing has elapsed since this slot
pub elapsed_none : (t : ℕ) → elapsed t t ≡ 0
unfolding elapsed slot_numbers
elapsed_none t = omega arith

-- S brought up to date in slot t, and once more in slot t
pub fallen_twice : (S m last t : ℕ) → (S - elapsed t last * 2 ^ m) - elapsed t t * 2 ^ m ≡ S - elapsed t last * 2 ^ m
fallen_twice S m last t = rw (elapsed_none t, zero-mul (2 ^ m), sub-zero (S - elapsed t last * 2 ^ m))

pub fall_twice : (b : Bucket) (last t : ℕ) → fall (elapsed t t) (fall (elapsed t last) b) ≡ fall (elapsed t last) b
unfolding fall
fall_twice b last t = ap (λ (S : ℕ). bucket_of b.m b.F b.C S) (fallen_twice b.S b.m last t)
