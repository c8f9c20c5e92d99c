-- `mem_lists::goes` meets its contract: the tests are those of the definition.
use Rattle.mem_lists.specs.Leaver.{goes_as}
use borrow.Author.Tests.{eq-eqb, ne_eqb}
use mathlib.Core.Path.{sym}
use Rattle.mem_lists.proofs.goes.Goals as goal

pub returns-then-may_go : goal.returns-then-may_go
unfolding goes_as
returns-then-may_go c = simp (ne_eqb _ _ c.if-u-ne0.true, sym c.may_go.ensures, c.if-may_go.true)

pub returns-else-may_go : goal.returns-else-may_go
unfolding goes_as
returns-else-may_go c = simp (ne_eqb _ _ c.if-u-ne0.true, sym c.may_go.ensures, c.if-may_go.false)

pub returns-else-u-ne0 : goal.returns-else-u-ne0
unfolding goes_as
returns-else-u-ne0 c = simp (eq-eqb _ _ c.if-u-ne0.false)
