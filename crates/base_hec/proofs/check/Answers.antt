-- `base_hec::check` meets its contract: a header whose fifth octet is as checked is clean, and any other is in error.
use mathlib.Core.Path.{sym, ap, ◌∙◌}
use Rattle.base_hec.specs.Word.{erred_word}
use Rattle.base_hec.proofs.WordLaws.{named_some, named_none, erred_mended, erred_several, erred_detection, checked_clean, checked_erred}
use Rattle.base_hec.proofs.check.Goals as goal

pub returns-then-syndrome-eq0 : goal.returns-then-syndrome-eq0
returns-then-syndrome-eq0 c =
    let k = c.check_of in
    let a = c.args in
    checked_clean a.mode a.head a.fifth k.result k.ensures c.if-syndrome-eq0.true

pub returns-in-Some : goal.returns-in-Some
returns-in-Some c =
    let k = c.check_of in
    let a = c.args in
    let bit = named_some _ c.in-Some.bit (sym c.in-Some.is ∙ c.named_bit.ensures) in
    c.mended.ensures
    ∙ erred_mended a.mode a.head a.fifth c.in-Some.bit c.if-mode-eq0.true bit.1
    ∙ ap (erred_word a.mode a.head a.fifth) (sym bit.0)
    ∙ checked_erred a.mode a.head a.fifth k.result k.ensures c.if-syndrome-eq0.false

pub returns-in_default : goal.returns-in_default
returns-in_default c =
    let k = c.check_of in
    let a = c.args in
    erred_detection a.mode a.head a.fifth _ c.if-mode-eq0.false
    ∙ checked_erred a.mode a.head a.fifth k.result k.ensures c.if-syndrome-eq0.false

pub returns-in_default-2 : goal.returns-in_default-2
returns-in_default-2 c =
    let k = c.check_of in
    let a = c.args in
    erred_several a.mode a.head a.fifth _ (named_none _ (sym c.in_default.is ∙ c.named_bit.ensures))
    ∙ checked_erred a.mode a.head a.fifth k.result k.ensures c.if-syndrome-eq0.false
