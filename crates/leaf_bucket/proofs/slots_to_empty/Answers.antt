-- `leaf_bucket::slots_to_empty` meets its contract: the shift back loses no bit, so it is S exactly where no rest is left.
use Rattle.std.proofs.Common.{◌≡◌, ℕ, ◌<◌, ◌*◌, ◌/◌, ◌%◌, ◌^◌, mod-eq_of_lt, div-mul-le_self, arith, pow_pos, rules}
use Rattle.leaf_bucket.proofs.RoundedUp.{with_rest, without_rest, whole_below}
use Rattle.leaf_bucket.proofs.slots_to_empty.Goals as goal

-- S/L shifted back is at most S, so it fits 32 bits
exact : (s m : ℕ) → s < 2 ^ 32 → (s / 2 ^ m * 2 ^ m) % 2 ^ 32 ≡ s / 2 ^ m * 2 ^ m
exact s m h = mod-eq_of_lt (omega (arith, div-mul-le_self s (2 ^ m)))

pub overflow_add-result : goal.overflow_add-result
overflow_add-result c =
    let a = c.args in
    search (rules, whole_below a.s (2 ^ a.m) (pow_pos a.m) (omega (arith, exact a.s a.m (omega arith))))

pub returns-then-whole-m : goal.returns-then-whole-m
returns-then-whole-m c =
    let a = c.args in
    with_rest a.s (2 ^ a.m) (pow_pos a.m) (omega (arith, exact a.s a.m (omega arith)))

pub returns-else-whole-m : goal.returns-else-whole-m
returns-else-whole-m c =
    let a = c.args in
    without_rest a.s (2 ^ a.m) (pow_pos a.m) (omega (arith, exact a.s a.m (omega arith)))
