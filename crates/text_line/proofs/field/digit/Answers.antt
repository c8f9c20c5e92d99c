-- `digit`: an octet from 48 to 57 is a digit, any other is none.
use Rattle.std.proofs.Common.{arith, rules}
use Rattle.text_line.proofs.OctetLaws.{digit_is, digit_low, digit_high, digit_not}
use Rattle.text_line.proofs.field.digit.Goals.{in_default-via-then-text-lt1, in_default-via-else-text-lt1+then-text-lt48, in_default-via-else-text-lt1+else-text-lt48+else-text-lt58}
use Rattle.text_line.proofs.field.digit.Goals as goal

pub returns-in-48-to-57-clause-found : goal.returns-in-48-to-57-clause-found
returns-in-48-to-57-clause-found c = rw c.from.ensures (digit_is c.args.text.now (omega arith) (omega arith) (omega arith))

pub returns-in_default-clause-found : goal.returns-in_default-clause-found
returns-in_default-clause-found c =
    digit_not c.args.text.now (elim c.in_default.branch [
      | in_default-via-then-text-lt1 w ↦ (λ h. search rules)
      | in_default-via-else-text-lt1+then-text-lt48 w ↦ (λ h. digit_low _ (omega arith))
      | in_default-via-else-text-lt1+else-text-lt48+else-text-lt58 w ↦ (λ h. digit_high _ (omega arith))
    ])
