-- `slot_store::tail_of` meets its contract: the tail stays, or, of an empty entry, the cell is its tail.
use borrow.Author.Tests.{eq-eqb, ne_eqb}
use Rattle.slot_plan.specs.Plan.{seat_ends}
use Rattle.slot_store.proofs.tail_of.Goals as goal

pub returns-then-a-eq65535 : goal.returns-then-a-eq65535
unfolding seat_ends
returns-then-a-eq65535 c = simp (eq-eqb _ _ c.if-a-eq65535.true)

pub returns-else-a-eq65535 : goal.returns-else-a-eq65535
unfolding seat_ends
returns-else-a-eq65535 c = simp (ne_eqb _ _ c.if-a-eq65535.false)
