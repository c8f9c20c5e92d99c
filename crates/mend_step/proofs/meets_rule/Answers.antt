-- `meets_rule`: the reader's answer tells whether a record stands there and where it ends; the end of the input or a mark must follow.
use mathlib.Core.Path.{◌∙◌}
use borrow.Author.Tests.{eq-eqb}
use Rattle.mend_step.proofs.Cases.{answer_none, answer_read, rule_none, rule_end, rule_mark, mark_known}
use borrow.Author.Rules.{rules}
use Rattle.mend_step.proofs.meets_rule.Goals as goal

pub returns-in_default : goal.returns-in_default
returns-in_default c = rule_none _ _ _ (answer_none _ _ c.event_at.result c.event_at.ensures c.in_default.not-Read)

pub returns-then-next-total : goal.returns-then-next-total
returns-then-next-total c =
    eq-eqb _ _ c.if-next-total.true
    ∙ rule_end _ _ _ _ (answer_read _ _ c.event_at.result _ _ c.event_at.ensures c.in-Read.is) (search rules)

pub returns-else-next-total : goal.returns-else-next-total
returns-else-next-total c =
    rule_mark _ _ _ _ (answer_read _ _ c.event_at.result _ _ c.event_at.ensures c.in-Read.is) c.if-next-total.false
    (c.is_some.ensures ∙ mark_known _ _ c.at.result c.at.ensures)
