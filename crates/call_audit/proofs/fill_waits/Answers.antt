-- `call_audit::fill_waits` judges all connections and fills the cells' budget: the V records, then the path records, without the
-- first of each.
use mathlib.Core.Path.{◌∙◌}
use Rattle.call_audit.proofs.WaitsLaws.{both_filled, all_fit, first_fit, second_fit}
use Rattle.call_audit.proofs.fill_waits.Goals as goal

pub returns-then-fill_from-clause-yes : goal.returns-then-fill_from-clause-yes
returns-then-fill_from-clause-yes c =
    let a = c.args in
    let words = a.words.now in
    let one = c.fill_from.ensures.yes c.if-fill_from.true in
    λ y.
    let two = c.fill_from-then-fill_from.ensures.yes y in
    (all_fit a.n a.v words one.0 two.0, λ k. two.1 k ∙ both_filled words a.v _ _ c.requires.0 c.requires.4 one.1 k)

pub returns-then-fill_from-clause-no : goal.returns-then-fill_from-clause-no
returns-then-fill_from-clause-no c = λ all. c.fill_from-then-fill_from.ensures.no (second_fit c.args.n c.args.v c.args.words.now all)

pub returns-else-fill_from-clause-no : goal.returns-else-fill_from-clause-no
returns-else-fill_from-clause-no c = λ all. c.fill_from.ensures.no (first_fit c.args.n c.args.v c.args.words.now all)
