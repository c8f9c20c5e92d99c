-- `slot_arrive::second_now` meets its contract: the update, over the three words read.
use Rattle.meaning.specs.Bucket.{fall}
use Rattle.meaning.specs.Words.{connection_at, fallen_to}
use Rattle.slot_arrive.specs.Arrival.{connection_now}
use Rattle.slot_arrive.proofs.second_now.Goals as goal

pub fallen_to-requires : goal.fallen_to-requires
unfolding connection_at
fallen_to-requires c = c.requires.1

pub returns : goal.returns
unfolding connection_at connection_now fallen_to fall
returns c = c.fallen_to.ensures
