-- `text_write::write`: what the judge refuses; or the octets are laid.
use Rattle.text_write.proofs.Answer.{text_refused, text_laid}
use Rattle.text_write.proofs.write.Goals as goal

pub returns-in_err-long-clause-out_after : goal.returns-in_err-long-clause-out_after
returns-in_err-long-clause-out_after c =
    let a = c.args in let e = c.in_err-long in text_refused a.text.now a.out.now e.field-0.0 c.from_residual.result e.ensures.value c.from_residual.ensures.1

pub returns-clause-out_after : goal.returns-clause-out_after
returns-clause-out_after c = let a = c.args in text_laid a.text.now a.out.now c.lay.new.out c.in_ok-long.long c.in_ok-long.ensures.value c.lay.ensures
