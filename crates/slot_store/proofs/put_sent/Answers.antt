-- `slot_store::put_sent` meets its contract: a tagged cell has another octet 4 and 5, any other is stored as it came.
use borrow.Author.Tests.{eq-eqb, ne_eqb}
use Rattle.meaning.specs.Arrival.{sent_as}
use Rattle.slot_store.proofs.put_sent.Goals as goal

pub returns-then-verdict-eq5 : goal.returns-then-verdict-eq5
unfolding sent_as
returns-then-verdict-eq5 c = simp (c.put_tagged.ensures, eq-eqb _ _ c.if-verdict-eq5.true)

pub returns : goal.returns
unfolding sent_as
returns c = simp (c.put_cell.ensures, ne_eqb _ _ c.if-verdict-eq5.false)
