-- `number`: no digit is no number, a 0 is a number by itself, any other digit is followed by more.
use Rattle.text_line.proofs.OctetLaws.{finds_none, finds_same, number_no, number_zero, number_digits}
use Rattle.text_line.proofs.field.number.Goals as goal

pub returns-in_err-first-clause-found : goal.returns-in_err-first-clause-found
returns-in_err-first-clause-found c = let a = c.args in finds_none _ _ c.from_residual.ensures (number_no a.most a.text.now c.in_err-first.ensures.found)

pub returns-then-first-eq0-clause-found : goal.returns-then-first-eq0-clause-found
returns-then-first-eq0-clause-found c = let a = c.args in number_zero a.most a.text.now c.in_ok-first.ensures.found c.if-first-eq0.true

pub returns-clause-found : goal.returns-clause-found
returns-clause-found c =
    let a = c.args in finds_same _ _ c.digits.ensures.found (number_digits a.most a.text.now c.in_ok-first.ensures.found c.if-first-eq0.false)
