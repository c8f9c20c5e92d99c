-- `mem_walks::Walks::visit` takes the named connection off the cells' budget.
use Rattle.mem_walks.proofs.Walks.visit.Goals as goal

pub returns : goal.returns
returns c = rw (← c.name_at.ensures) c.take.ensures
