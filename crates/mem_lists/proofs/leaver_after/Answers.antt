-- `mem_lists::leaver_after` meets its contract: one test after the other.
use Rattle.mem_lists.specs.Leaver.{goes_as, leaver_after}
use mathlib.Core.Path.{sym, ◌∙◌, ap}
use borrow.Author.Tests.{eq-eqb, ne_eqb}
use Rattle.mem_lists.proofs.leaver_after.Goals as goal

pub returns-then-x-s : goal.returns-then-x-s
unfolding leaver_after
returns-then-x-s c = simp (eq-eqb _ _ c.if-x-s.true)

pub returns-then-u-own : goal.returns-then-u-own
unfolding leaver_after
returns-then-u-own c =
    simp (
      ne_eqb _ _ c.if-x-s.false,
      eq-eqb _ _ (sym c.number_in-u.ensures.number ∙ c.if-u-own.true),
    )

pub returns : goal.returns
unfolding leaver_after
returns c =
    let a = c.args in
    let number = c.number_in-u.ensures.number in
    (c.goes.ensures ∙ ap (goes_as a.n a.words.now) number)
    ∙ simp (
      ne_eqb _ _ c.if-x-s.false,
      ne_eqb _ _ (λ e. c.if-u-own.false (number ∙ e)),
    )
