-- `call_tally::delay_of` meets its contract: the difference wraps as the definition's does.
use Rattle.std.proofs.Common.{arith}
use Rattle.meaning.specs.Numbers.{slot_numbers}
use Rattle.meaning.specs.Bucket.{elapsed}
use Rattle.call_tally.proofs.delay_of.Goals as goal

pub returns : goal.returns
unfolding elapsed slot_numbers
returns c = omega arith
