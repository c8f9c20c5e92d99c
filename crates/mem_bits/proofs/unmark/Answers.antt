-- `mem_bits::unmark` meets its contract: the mark of an entry is its bit.
use Rattle.meaning.specs.Bits.{is_marked, unmarked}
use Rattle.mem_bits.proofs.unmark.Goals as goal

pub returns : goal.returns
unfolding unmarked is_marked
returns c = c.clear_bit.ensures
