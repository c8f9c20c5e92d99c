-- `burst_way::stepped` meets its contract: one slot further, the rest as it is.
use mathlib.Core.Path.{refl}
use Rattle.meaning.specs.Numbers.{slot_numbers}
use Rattle.burst_way.proofs.stepped.Goals as goal

pub returns : goal.returns
unfolding slot_numbers
returns c = refl
