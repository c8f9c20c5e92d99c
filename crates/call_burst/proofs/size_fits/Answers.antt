-- `call_burst::size_fits` meets its contract: each of the two sizes fits, and no other.
use Rattle.std.proofs.Common.{rules}
use Rattle.call_burst.specs.Burst.{size_fits}
use Rattle.call_burst.proofs.size_fits.Goals as goal

pub returns-in-0 : goal.returns-in-0
unfolding size_fits
returns-in-0 c = search rules

pub returns-in_default : goal.returns-in_default
unfolding size_fits
returns-in_default c = search rules
