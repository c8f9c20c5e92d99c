-- `slot_depart::first_of` meets its contract: the head stays, or, of an empty list, x is the head.
use borrow.Author.Tests.{eq-eqb, ne_eqb}
use Rattle.slot_depart.proofs.first_of.Goals as goal

pub returns-then-head-eq65535 : goal.returns-then-head-eq65535
returns-then-head-eq65535 c = simp (eq-eqb _ _ c.if-head-eq65535.true)

pub returns-else-head-eq65535 : goal.returns-else-head-eq65535
returns-else-head-eq65535 c = simp (ne_eqb _ _ c.if-head-eq65535.false)
