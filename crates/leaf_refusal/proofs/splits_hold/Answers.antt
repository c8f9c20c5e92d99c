-- `leaf_refusal::splits_hold` meets its contract: each of its two ranges is tested as the contract has it.
use Rattle.std.proofs.Common.{arith, ◌∙◌}
use Rattle.meaning.specs.Numbers.{splits_hold, paths}
use Rattle.leaf_refusal.proofs.Within.{within_open}
use Rattle.leaf_refusal.proofs.splits_hold.Goals as goal

pub returns-then-contains : goal.returns-then-contains
unfolding splits_hold
returns-then-contains c =
    let first = c.contains.ensures.value ∙ within_open 1 c.args.v c.args.splitvci in
    let second = c.contains-then-contains.ensures.value ∙ within_open 1 paths c.args.splitpath in
    grind (arith, first, second, c.if-contains.true)

pub returns-else-contains : goal.returns-else-contains
unfolding splits_hold
returns-else-contains c =
    let first = c.contains.ensures.value ∙ within_open 1 c.args.v c.args.splitvci in
    grind (arith, first, c.if-contains.false)
