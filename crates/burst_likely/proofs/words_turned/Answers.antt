-- `burst_likely::words_turned` meets its contract: what falls is written, if anything does.
use mathlib.Core.Path.{refl}
use Rattle.slot_plan.specs.Plan.{rotated}
use Rattle.burst_likely.proofs.words_turned.Goals as goal

pub returns-in-Some : goal.returns-in-Some
unfolding rotated
returns-in-Some c = rw c.in-Some.is c.put_fallen.ensures

pub returns-in_default : goal.returns-in_default
unfolding rotated
returns-in_default c = rw c.in_default.is refl
