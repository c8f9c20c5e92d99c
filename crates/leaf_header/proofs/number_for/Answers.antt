-- `leaf_header::number_for` meets its contract: the tests are those of the definition.
use native.Mathlib.Omega.{arith}
use Rattle.leaf_header.proofs.NameLaws.{number_vc, number_path, number_high, number_past}
use Rattle.leaf_header.proofs.number_for.Goals as goal

pub returns-then-name-from-clause-number : goal.returns-then-name-from-clause-number
returns-then-name-from-clause-number c = number_vc c.args.v c.args.name (omega (arith, c.from.ensures))

pub returns-in-1-to-255-clause-number : goal.returns-in-1-to-255-clause-number
returns-in-1-to-255-clause-number c =
    number_path c.args.v c.args.name (omega (arith, c.from.ensures)) (λ e. omega (arith, e)) (omega arith)

pub returns-in_default-clause-number : goal.returns-in_default-clause-number
returns-in_default-clause-number c =
    number_past c.args.v c.args.name (omega (arith, c.from.ensures)) (omega arith)

pub returns-in_default-2-clause-number : goal.returns-in_default-2-clause-number
returns-in_default-2-clause-number c =
    number_high c.args.v c.args.name (omega (arith, c.from.ensures)) (λ e. omega (arith, e)) (omega arith)
