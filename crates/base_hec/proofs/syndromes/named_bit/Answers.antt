-- `base_hec::syndromes::named_bit` meets its contract: the numbers below 40 are the bits.
use mathlib.Core.Path.{ap, ◌∙◌}
use Rattle.base_hec.specs.WrongBit.{named}
use Rattle.base_hec.proofs.WordLaws.{named_is, named_not}
use Rattle.base_hec.proofs.syndromes.named_bit.Goals as goal

pub returns-then-bit-lt40 : goal.returns-then-bit-lt40
returns-then-bit-lt40 c = named_is _ c.if-bit-lt40.true ∙ ap named c.wrong_bit-bit.ensures

pub returns-else-bit-lt40 : goal.returns-else-bit-lt40
returns-else-bit-lt40 c = named_not _ c.if-bit-lt40.false ∙ ap named c.wrong_bit-bit.ensures
