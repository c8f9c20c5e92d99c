-- `slot_depart::left` meets its contract: the record keeps its clock, and the answer is written out field by field.
use mathlib.Core.Path.{refl}
use Rattle.slot_plan.specs.Plan.{with_ends}
use Rattle.slot_depart.proofs.left.Goals as goal

pub returns : goal.returns
unfolding with_ends
returns c = (c.record_with-ctl.ensures, refl)
