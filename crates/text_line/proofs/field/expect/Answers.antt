-- `expect`: the octet that the text begins with, or another, or none.
use Rattle.std.proofs.Common.{arith, rules}
use Rattle.text_line.proofs.OctetLaws.{expect_is, expect_not}
use Rattle.text_line.proofs.field.expect.Goals.{in_default-via-then-text-lt1, in_default-via-in-len1-up+else-y-x}
use Rattle.text_line.proofs.field.expect.Goals as goal

pub returns-in-len1-up-clause-found : goal.returns-in-len1-up-clause-found
returns-in-len1-up-clause-found c = let a = c.args in expect_is a.x a.text.now (omega arith) c.if-y-x.true

pub returns-in_default-clause-found : goal.returns-in_default-clause-found
returns-in_default-clause-found c =
    let a = c.args in
    expect_not a.x a.text.now (elim c.in_default.branch [ in_default-via-then-text-lt1 w ↦ (λ h e. search rules) | in_default-via-in-len1-up+else-y-x w ↦ (λ h e. w.if-y-x.false e) ])
