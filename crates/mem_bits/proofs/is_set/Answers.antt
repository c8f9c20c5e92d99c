-- `mem_bits::is_set` meets its contract: it reads the bit that the definition reads.
use Rattle.meaning.specs.Bits.{is_set}
use Rattle.mem_bits.proofs.is_set.Goals as goal

pub returns : goal.returns
unfolding is_set
returns c = rw c.from.ensures
