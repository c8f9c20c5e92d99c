-- `mem_lists::off_from` meets its contract: the tests are those of the definition.
use Rattle.mem_lists.specs.Leaver.{off_from}
use borrow.Author.Tests.{lt-ltb, le-ltb, eq-eqb, ne_eqb}
use Rattle.mem_lists.proofs.off_from.Goals as goal

pub returns-then-x-tail : goal.returns-then-x-tail
unfolding off_from
returns-then-x-tail c = simp (ne_eqb _ _ c.if-vci-ne0.true, eq-eqb _ _ c.if-x-tail.true)

pub returns-then-follower-n : goal.returns-then-follower-n
unfolding off_from
returns-then-follower-n c = simp (ne_eqb _ _ c.if-vci-ne0.true, ne_eqb _ _ c.if-x-tail.false, lt-ltb _ _ c.if-follower-n.true)

pub returns-else-follower-n : goal.returns-else-follower-n
unfolding off_from
returns-else-follower-n c = simp (ne_eqb _ _ c.if-vci-ne0.true, ne_eqb _ _ c.if-x-tail.false, le-ltb _ _ c.if-follower-n.false)

pub returns-else-vci-ne0 : goal.returns-else-vci-ne0
unfolding off_from
returns-else-vci-ne0 c = simp (eq-eqb _ _ c.if-vci-ne0.false)
