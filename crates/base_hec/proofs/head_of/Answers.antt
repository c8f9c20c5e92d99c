-- `base_hec::head_of` meets its contract: the four octets make the number.
use native.Mathlib.Omega.{arith}
use Rattle.base_hec.specs.Check.{head_of}
use Rattle.base_hec.proofs.head_of.Goals as goal

pub returns : goal.returns
unfolding head_of
returns c = omega (arith, c.from_be_bytes.ensures)
