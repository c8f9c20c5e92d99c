-- `mem_lists::put_link` meets its contract: one store, where on.
use native.Mathlib.Omega.{arith}
use Rattle.mem_lists.specs.Spaces.{linked}
use Rattle.mem_lists.proofs.put_link.Goals as goal

pub bounds-links-i : goal.bounds-links-i
bounds-links-i c = let h = c.requires c.if-on.true in omega arith

pub returns-then-on : goal.returns-then-on
unfolding linked
returns-then-on c = rw c.if-on.true

pub returns-else-on : goal.returns-else-on
unfolding linked
returns-else-on c = rw c.if-on.false
