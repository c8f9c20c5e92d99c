-- `digits`: the digits from the value so far on are those from the start on; a value above its bound stays above it.
use Rattle.std.proofs.Common.{sym, ap, ◌∙◌, arith}
use Rattle.text_meaning.specs.Grammar.{within}
use Rattle.text_line.proofs.OctetLaws.{digits_stop, digits_go, within_is, within_not}
use Rattle.text_line.proofs.field.digits.Goals as goal

pub returns-in_default-clause-found : goal.returns-in_default-clause-found
returns-in_default-clause-found c =
    let h = c.loop-v in let a = c.args in
    ap (within a.most) (sym h.invariant.0 ∙ digits_stop h.v h.rest.now c.in_default.ensures.found) ∙ within_is a.most (omega arith)

pub loop-v-preserved : goal.loop-v-preserved
loop-v-preserved c = let h = c.loop-v in (sym (digits_go h.v h.rest.now c.in-Some.ensures.found) ∙ h.invariant.0, omega (arith, c.in-Some.ensures.on.1))

pub returns-clause-found : goal.returns-clause-found
returns-clause-found c = let h = c.loop-v in let a = c.args in ap (within a.most) (sym h.invariant.0) ∙ within_not a.most h.v h.rest.now (omega arith)
