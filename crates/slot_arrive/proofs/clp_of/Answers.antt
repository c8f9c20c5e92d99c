-- `slot_arrive::clp_of` meets its contract: the low bit of octet 4.
use mathlib.Core.Path.{refl}
use Rattle.meaning.specs.Header.{clp_in}
use Rattle.slot_arrive.proofs.clp_of.Goals as goal

pub returns : goal.returns
unfolding clp_in
returns c = refl
