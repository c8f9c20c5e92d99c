-- `mem_bits::is_marked` meets its contract: an entry is marked where its bit is set.
use Rattle.meaning.specs.Bits.{is_marked}
use Rattle.mem_bits.proofs.is_marked.Goals as goal

pub returns : goal.returns
unfolding is_marked
returns c = c.is_set.ensures
