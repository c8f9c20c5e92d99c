-- `mend_fill::fill`: 17 and nothing else, or what `pieces` takes.
use mathlib.Core.Path.{◌≡◌, sym, ap, ◌∙◌}
use mathlib.Core.Bool.{false, not}
use Rattle.mend_fill.specs.Fill.{refuses}
use Rattle.mend_fill.proofs.PieceLaws.{refuses_first, refuses_later, fill_refused, fill_taken}
use Rattle.mend_fill.proofs.fill.Goals as goal
use Rattle.mend_fill.proofs.fill.Goals.{else-at-eq0-via-then-at-eq0+else-not-begins, else-at-eq0-via-else-at-eq0}

pub returns-then-not-begins : goal.returns-then-not-begins
returns-then-not-begins c =
    fill_refused _ _ _ _ _ (sym (refuses_first _ _ c.if-at-eq0.true c.begins.ensures) ∙ ap not c.if-not-begins.true)

pub returns : goal.returns
returns c = fill_taken _ _ _ _ _ taken c.pieces.ensures
  where
    taken : refuses c.args.trace.now c.args.at ≡ false
    taken = elim c.else-at-eq0.branch [
      | else-at-eq0-via-then-at-eq0+else-not-begins w ↦ sym (refuses_first _ _ w.if-at-eq0.true w.begins.ensures) ∙ ap not w.if-not-begins.false
      | else-at-eq0-via-else-at-eq0 w ↦ sym (refuses_later _ _ w.if-at-eq0.false)
    ]
