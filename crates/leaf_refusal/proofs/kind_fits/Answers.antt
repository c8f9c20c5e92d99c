-- `leaf_refusal::kind_fits` meets its contract: its test is the contract's own.
use Rattle.meaning.specs.Numbers.{kind_in_range}
use mathlib.Core.Path.{refl}
use Rattle.leaf_refusal.proofs.kind_fits.Goals as goal

pub returns : goal.returns
unfolding kind_in_range
returns c = refl
