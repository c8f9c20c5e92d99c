-- `leaf_bucket::elapsed_slots` meets its contract: the wrapping difference is what has elapsed.
use Rattle.std.proofs.Common.{arith}
use Rattle.meaning.specs.Numbers.{slot_numbers}
use Rattle.meaning.specs.Bucket.{elapsed}
use Rattle.leaf_bucket.proofs.elapsed_slots.Goals as goal

pub returns : goal.returns
unfolding elapsed slot_numbers
returns c = omega arith
