-- `mem_walks::Walks::walk` walks a chain: what remains of the walk is the whole of it, at each turn, and the spaces' budget falls.
use mathlib.Core.Path.{◌∙◌}
use Rattle.mem_walks.proofs.WalkLaws.{turn_taken, turn_named, turn_end, turn_on, turn_less}
use Rattle.mem_walks.proofs.Walks.walk.Goals as goal

pub returns-then-x-tail : goal.returns-then-x-tail
returns-then-x-tail c =
    turn_end _ _ _ _ _ _ _ _ (rw c.from.ensures at c.take.ensures) _ _ c.visit.ensures c.loop-waits-test.true c.if-visit.true c.if-x-tail.true
    ∙ c.loop-waits.invariant

pub loop-waits-smaller : goal.loop-waits-smaller
loop-waits-smaller c = turn_less _ _ _ _ (rw c.from.ensures at c.take.ensures) c.loop-waits-test.true

pub loop-waits-preserved : goal.loop-waits-preserved
loop-waits-preserved c =
    turn_on _ _ _ _ _ _ _ _ (rw c.from.ensures at c.take.ensures) _ _ c.visit.ensures c.loop-waits-test.true c.if-visit.true c.if-x-tail.false _ (rw c.from-in-loop-waits.ensures at c.at-x.ensures)
    ∙ c.loop-waits.invariant

pub returns-else-visit : goal.returns-else-visit
returns-else-visit c =
    turn_named _ _ _ _ _ _ _ _ (rw c.from.ensures at c.take.ensures) _ _ c.visit.ensures c.loop-waits-test.true c.if-visit.false ∙ c.loop-waits.invariant

pub returns-after-loop-waits : goal.returns-after-loop-waits
returns-after-loop-waits c = turn_taken _ _ _ _ _ _ _ _ (rw c.from.ensures at c.take.ensures) c.loop-waits-test.false ∙ c.loop-waits.invariant
