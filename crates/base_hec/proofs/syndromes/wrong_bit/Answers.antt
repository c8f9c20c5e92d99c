-- `base_hec::syndromes::wrong_bit` meets its contract: its table is that of `specs/WrongBit.antt`, whose rule is proved.
use mathlib.Core.Path.{ap, ◌∙◌}
use native.Mathlib.Omega.{arith}
use Rattle.base_hec.specs.WrongBit.{wrong_bit, wrong_bits}
use Rattle.base_hec.proofs.TableRule.{table_rule}
use Rattle.base_hec.proofs.syndromes.wrong_bit.Goals as goal

pub returns : goal.returns
unfolding wrong_bits
returns c = table_rule c.from.result (omega (arith, c.from.ensures)) ∙ ap wrong_bit c.from.ensures
