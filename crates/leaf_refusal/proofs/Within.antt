-- What `contains` says of a range of numbers, as the two tests that it makes.
use Rattle.std.proofs.Common.{rules, arith, ◌≡◌, ℕ, false, ◌&&◌}
use Rattle.std.specs.Prelude.{ltb, leb, Some}
use Rattle.std.specs.declared.ops.RangeInclusive.{RangeInclusive}
use Rattle.std.specs.Ordering.{nat_cmp, is_le, is_lt}
use Rattle.std.specs.Range.{range_inclusive_start, range_inclusive_end, range_inclusive_exhausted, range_inclusive_contains}

at_most : (x y : ℕ) → is_le (nat_cmp x y) ≡ leb x y
at_most x y = search (rules, arith)

below : (x y : ℕ) → is_lt (nat_cmp x y) ≡ ltb x y
below x y = search (rules, arith)

-- a range of two ends that holds both
pub within : (r : RangeInclusive ℕ) (a b x : ℕ)
    → range_inclusive_start r ≡ a
    → range_inclusive_end r ≡ b
    → range_inclusive_exhausted r ≡ false
    → range_inclusive_contains (λ n k. Some (nat_cmp n k)) r x ≡ (leb a x && leb x b)
within r a b x s e ex = rw (s, e, ex, at_most a x, at_most x b)

-- and one that holds its start alone
pub within_open : (a b x : ℕ) → (is_le (nat_cmp a x) && is_lt (nat_cmp x b)) ≡ (leb a x && ltb x b)
within_open a b x = rw (at_most a x, below x b)
