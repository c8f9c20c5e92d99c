-- `mem_lists::pair` meets its contract: the tests are those of the definition.
use Rattle.mem_lists.proofs.PairLaws.{pair_below, pair_empty, pair_neither}
use Rattle.mem_lists.proofs.pair.Goals as goal

pub returns-then-head-n : goal.returns-then-head-n
returns-then-head-n c = pair_below _ _ _ c.requires c.if-head-n.true

pub returns-then-head-eq65535 : goal.returns-then-head-eq65535
returns-then-head-eq65535 c = pair_empty _ _ _ c.if-head-n.false c.if-head-eq65535.true

pub returns : goal.returns
returns c = pair_neither _ _ _ c.if-head-n.false c.if-head-eq65535.false
