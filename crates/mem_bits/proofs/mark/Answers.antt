-- `mem_bits::mark` meets its contract: the mark of an entry is its bit.
use Rattle.meaning.specs.Bits.{is_marked, marked}
use Rattle.mem_bits.proofs.mark.Goals as goal

pub returns : goal.returns
unfolding marked is_marked
returns c = c.set_bit.ensures
