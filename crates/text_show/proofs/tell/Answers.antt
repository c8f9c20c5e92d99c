-- `text_show::tell`: the lines, and behind them what is said of the place where they end.
use mathlib.Core.Path.{refl, sym, ◌∙◌}
use mathlib.Core.Bool.{true, false}
use lib.Seq.{length-take-le}
use borrow.Author.Rules.{rules}
use Rattle.text_show.proofs.Whole.{took_well}
use Rattle.text_show.proofs.Shows.{shown_cut, shown_end, shown_stop, taken_end, taken_stop}
use Rattle.text_show.proofs.tell.Goals as goal

pub returns-in_default-clause-shown : goal.returns-in_default-clause-shown
returns-in_default-clause-shown g c = shown_cut _ false c.in_default.ensures.handed.1 refl

pub returns-then-at_end-clause-shown : goal.returns-then-at_end-clause-shown
returns-then-at_end-clause-shown g c =
    shown_end _ true c.in-Some.ensures.handed refl (sym c.at_end.ensures ∙ c.if-at_end.true)

pub returns-then-at_end-clause-written : goal.returns-then-at_end-clause-written
returns-then-at_end-clause-written g c =
    λ _. taken_end _ true c.in-Some.ensures.handed refl (sym c.at_end.ensures ∙ c.if-at_end.true) (λ _. c.in-Some.ensures.written)

pub slice_bounds-write_all-end-2 : goal.slice_bounds-write_all-end-2
slice_bounds-write_all-end-2 g c =
    let u = c.stop_line-used in
    sym (length-take-le u.result _ (search rules))

pub returns-clause-shown : goal.returns-clause-shown
returns-clause-shown g c =
    shown_stop _ true c.in-Some.ensures.handed _ refl (sym c.at_end.ensures ∙ c.if-at_end.false) c.stop_line-used.ensures.put

pub returns-clause-written : goal.returns-clause-written
returns-clause-written g c =
    let u = c.stop_line-used in
    λ e. taken_stop _ true c.in-Some.ensures.handed refl (sym c.at_end.ensures ∙ c.if-at_end.false) (λ _. c.in-Some.ensures.written)
    u.ensures.put (search rules) (took_well _ _ _ c.is_ok.ensures.value e c.write_all.ensures.bytes)
