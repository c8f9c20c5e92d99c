-- `leaf_bucket::fallen_to` meets its contract: the wrapping difference is what has elapsed; as many slots as empty the bucket
-- use S up, and the product of fewer stays below S, so that the shift loses no bit of 32.
use Rattle.std.proofs.Common.{◌≡◌, ◌*◌, ◌%◌, ◌^◌, ◌<◌, mod-eq_of_lt, arith, pow_pos, rules}
use Rattle.leaf_bucket.proofs.RoundedUp.{emptied, left_over}
use Rattle.leaf_bucket.proofs.fallen_to.Goals as goal

-- fewer slots than empty the bucket: their product is below S
product_below : (c : goal.Else-slots-slots_to_empty)
    → c.elapsed_slots-slots.result * 2 ^ c.args.m < c.args.s
product_below c =
    let a = c.args in
    let k = c.elapsed_slots-slots.result in
    left_over a.s (2 ^ a.m) k (pow_pos a.m) (omega arith)

-- and so no bit is shifted out
exact : (c : goal.Else-slots-slots_to_empty)
    → (c.elapsed_slots-slots.result * 2 ^ c.args.m) % 2 ^ 32
    ≡ c.elapsed_slots-slots.result * 2 ^ c.args.m
exact c = mod-eq_of_lt (omega (arith, product_below c))

pub overflow_sub-result : goal.overflow_sub-result
overflow_sub-result c = search (rules, exact c, product_below c)

pub returns-then-slots-slots_to_empty : goal.returns-then-slots-slots_to_empty
returns-then-slots-slots_to_empty c =
    let a = c.args in
    let k = c.elapsed_slots-slots.result in
    rw (← c.elapsed_slots-slots.ensures) (omega (arith, emptied a.s (2 ^ a.m) k (pow_pos a.m) (omega arith)))

pub returns-else-slots-slots_to_empty : goal.returns-else-slots-slots_to_empty
returns-else-slots-slots_to_empty c = rw (← c.elapsed_slots-slots.ensures) (omega (arith, exact c, product_below c))
