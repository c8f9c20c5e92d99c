-- `mem_bits::take` meets its contract: the bit of a free space is set.
use native.Mathlib.Omega.{arith}
use Rattle.meaning.proofs.BitsLaws.{free_set, free_space}
use Rattle.mem_bits.proofs.take.Goals as goal

pub clear_bit-requires : goal.clear_bit-requires
clear_bit-requires c = (omega (arith, free_space c.args.bits.now c.args.x c.requires.1), c.requires.0)

pub returns : goal.returns
returns c = rw (free_set c.args.bits.now c.args.x c.requires.1) at c.clear_bit.ensures
