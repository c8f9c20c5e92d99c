-- `resume_after`: the places passed don't meet the rule, so the search from p goes on from q.
use mathlib.Core.Path.{sym, ◌∙◌}
use borrow.Author.Rules.{rules}
use Rattle.mend_step.proofs.Cases.{first_end, first_meets, first_skips, resume_is, resume_end}
use Rattle.mend_step.proofs.resume_after.Goals as goal

pub returns-then-long-p : goal.returns-then-long-p
returns-then-long-p c = resume_end _ _ _ (search rules)

pub loop-q-init : goal.loop-q-init
loop-q-init c = resume_is _ _ _

pub returns-then-meets_rule : goal.returns-then-meets_rule
returns-then-meets_rule c =
    let l = c.loop-q in
    sym (l.invariant ∙ first_meets _ _ l.q (search rules) (sym c.meets_rule.ensures ∙ c.if-meets_rule.true))

pub loop-q-preserved : goal.loop-q-preserved
loop-q-preserved c =
    let l = c.loop-q in
    l.invariant ∙ first_skips _ _ l.q (search rules) (sym c.meets_rule.ensures ∙ c.if-meets_rule.false)

pub returns : goal.returns
returns c =
    let l = c.loop-q in
    sym (l.invariant ∙ first_end _ _ l.q (search rules))
