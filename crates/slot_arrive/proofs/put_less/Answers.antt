-- `slot_arrive::put_less` meets its contract: one store.
use Rattle.slot_arrive.specs.Arrival.{one_less}
use mathlib.Core.Path.{refl}
use Rattle.slot_arrive.proofs.put_less.Goals as goal

pub returns : goal.returns
unfolding one_less
returns c = refl
