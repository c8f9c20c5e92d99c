-- `leaf_refusal::ranges_hold` meets its contract: each of its two ranges is tested as the contract has it.
use Rattle.std.proofs.Common.{arith, ◌∙◌}
use Rattle.meaning.specs.Numbers.{ranges_hold}
use Rattle.leaf_refusal.proofs.Within.{within}
use Rattle.leaf_refusal.proofs.ranges_hold.Goals as goal

pub returns-then-contains : goal.returns-then-contains
unfolding ranges_hold
returns-then-contains c =
    let n = c.new.ensures in
    let v = c.new-then-contains.ensures in
    let first = c.contains.ensures.value ∙ within c.new.result 1 1024 c.args.n n.start n.end n.exhausted in
    let second = c.contains-then-contains.ensures.value ∙ within c.new-then-contains.result 2 1024 c.args.v v.start v.end v.exhausted in
    grind (arith, first, second, c.if-contains.true)

pub returns-else-contains : goal.returns-else-contains
unfolding ranges_hold
returns-else-contains c =
    let n = c.new.ensures in
    let first = c.contains.ensures.value ∙ within c.new.result 1 1024 c.args.n n.start n.end n.exhausted in
    grind (arith, first, c.if-contains.false)
