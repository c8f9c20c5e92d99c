-- `call_time::early_by` meets its contract: below 2^48 no cast changes a number, and the difference fits.
use mathlib.Core.Path.{sym, subst, ◌∙◌}
use mir.Syntax.{w64}
use mir.Val.{SFits}
use mir.ValLaws.{to_z-of_z}
use Rattle.call_time.proofs.Cases.{signed_sub, sub_fits}
use Rattle.call_time.proofs.early_by.Goals as goal

pub overflow_sub-result : goal.overflow_sub-result
overflow_sub-result c =
    let a = c.args in
    subst (SFits w64) (sym (signed_sub a.expected a.now c.requires.1 c.requires.0))
    (sub_fits a.expected a.now c.requires.1 c.requires.0)

pub returns : goal.returns
returns c =
    let a = c.args in
    to_z-of_z w64 _ (overflow_sub-result c) ∙ signed_sub a.expected a.now c.requires.1 c.requires.0
