-- `call_burst::lengths_fit` meets its contract: the four tests, one after the other.
use Rattle.std.proofs.Common.{rules}
use Rattle.call_burst.specs.Burst.{lengths_fit}
use Rattle.call_burst.proofs.lengths_fit.Goals as goal

pub returns-then-is_times-2 : goal.returns-then-is_times-2
unfolding lengths_fit
returns-then-is_times-2 c = search rules

pub returns-else-is_times-2 : goal.returns-else-is_times-2
unfolding lengths_fit
returns-else-is_times-2 c = search rules
