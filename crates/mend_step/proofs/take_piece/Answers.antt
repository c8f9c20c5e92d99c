-- `take_piece`: at or past the end nothing is taken; below it the piece is the step's.
use borrow.Author.Tests.{le-leb, lt-leb}
use Rattle.mend_step.specs.Salvage.{taken_at}
use Rattle.mend_step.proofs.take_piece.Goals as goal

pub returns-then-total-at : goal.returns-then-total-at
unfolding taken_at
returns-then-total-at c = simp (le-leb _ _ c.if-total-at.true)

pub returns-else-total-at : goal.returns-else-total-at
unfolding taken_at
returns-else-total-at c = simp (lt-leb _ _ c.if-total-at.false, c.step.ensures)
