-- `mem_walks::Walks::list` walks a list by its head and tail: an empty one by both, any other by its chain.
use mathlib.Core.Path.{◌∙◌}
use Rattle.mem_walks.proofs.ListLaws.{list_empty, list_some}
use Rattle.mem_walks.proofs.Walks.list.Goals as goal

pub returns-then-head-eq65535 : goal.returns-then-head-eq65535
returns-then-head-eq65535 c = list_empty _ _ _ _ _ _ c.if-head-eq65535.true

pub returns-else-head-eq65535 : goal.returns-else-head-eq65535
returns-else-head-eq65535 c = c.walk.ensures ∙ list_some _ _ _ _ _ _ c.if-head-eq65535.false
