-- `slot_store::seated` meets its contract: the record keeps its clock and its Output List, and one space fewer is free.
use Rattle.slot_plan.specs.Plan.{with_ends}
use Rattle.slot_store.proofs.seated.Goals as goal

pub returns : goal.returns
unfolding with_ends
returns c = c.record_with.ensures
