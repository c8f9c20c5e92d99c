-- `nibble`: the three ranges of hex digits, and what lies below, between and above them.
use Rattle.std.proofs.Common.{arith, rules}
use Rattle.text_line.proofs.OctetLaws.{is_digit, is_capital, is_small, nibble_not, nibble_low, nibble_between, nibble_above, nibble_high}
use Rattle.text_line.proofs.field.nibble.Goals.{in_default-via-then-text-lt1, in_default-via-else-text-lt1+then-text-lt48, in_default-via-else-text-lt1+else-text-lt48+else-text-lt58+then-text-lt65, in_default-via-else-text-lt1+else-text-lt48+else-text-lt58+else-text-lt65+else-text-lt71+then-text-lt97, in_default-via-else-text-lt1+else-text-lt48+else-text-lt58+else-text-lt65+else-text-lt71+else-text-lt97+else-text-lt103}
use Rattle.text_line.proofs.field.nibble.Goals as goal

pub returns-in-48-to-57-clause-found : goal.returns-in-48-to-57-clause-found
returns-in-48-to-57-clause-found c = is_digit c.args.text.now (omega arith) (omega arith) (omega arith)

pub returns-in-65-to-70-clause-found : goal.returns-in-65-to-70-clause-found
returns-in-65-to-70-clause-found c = is_capital c.args.text.now (omega arith) (omega arith) (omega arith)

pub returns-in-97-to-102-clause-found : goal.returns-in-97-to-102-clause-found
returns-in-97-to-102-clause-found c = is_small c.args.text.now (omega arith) (omega arith) (omega arith)

pub returns-in_default-clause-found : goal.returns-in_default-clause-found
returns-in_default-clause-found c =
    nibble_not c.args.text.now (elim c.in_default.branch [
      | in_default-via-then-text-lt1 w ↦ (λ h. search rules)
      | in_default-via-else-text-lt1+then-text-lt48 w ↦ (λ h. nibble_low _ (omega arith))
      | in_default-via-else-text-lt1+else-text-lt48+else-text-lt58+then-text-lt65 w ↦ (λ h. nibble_between _ (omega arith) (omega arith))
      | in_default-via-else-text-lt1+else-text-lt48+else-text-lt58+else-text-lt65+else-text-lt71+then-text-lt97 w ↦ (λ h. nibble_above _ (omega arith) (omega arith))
      | in_default-via-else-text-lt1+else-text-lt48+else-text-lt58+else-text-lt65+else-text-lt71+else-text-lt97+else-text-lt103 w ↦ (λ h. nibble_high _ (omega arith))
    ])
