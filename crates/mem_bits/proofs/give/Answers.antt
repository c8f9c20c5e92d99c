-- `mem_bits::give` meets its contract: the bit of a space that is not free is clear.
use Rattle.meaning.proofs.BitsLaws.{held_clear}
use Rattle.mem_bits.proofs.give.Goals as goal

pub returns : goal.returns
returns c = rw (held_clear c.args.bits.now c.args.x c.requires.0 c.requires.2) at c.set_bit.ensures
