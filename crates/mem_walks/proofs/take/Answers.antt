-- `mem_walks::take` takes one off a budget: the three ways through it are the three laws of one taking.
use Rattle.mem_walks.proofs.BudgetLaws.{take_yes, take_none, take_past}
use Rattle.mem_walks.proofs.take.Goals as goal
use Rattle.mem_walks.proofs.take.Goals.{else-x-b-via-then-x-b+else-b-x-gt0, else-x-b-via-else-x-b}

pub returns-then-b-x-gt0 : goal.returns-then-b-x-gt0
returns-then-b-x-gt0 c =
    let s = c.args in
    take_yes s.b.now s.x c.if-b-x-gt0.true

pub returns : goal.returns
returns c =
    let s = c.args in
    elim c.else-x-b.branch [
      | else-x-b-via-then-x-b+else-b-x-gt0 w ↦ take_none s.b.now s.x w.if-b-x-gt0.false
      | else-x-b-via-else-x-b w ↦ take_past s.b.now s.x w.if-x-b.false
    ]
