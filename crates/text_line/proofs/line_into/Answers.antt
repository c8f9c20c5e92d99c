-- `line_into`: no mark, or none of a shape, is no line; a count of slots, or fields behind the mark, make one.
use Rattle.std.proofs.Common.{◌≡◌, ℕ, Some, None, List, get_or, ◌-◌, length, take, drop, length-drop, length-take, subst, sym, ap, ◌∙◌, refl, arith}
use Rattle.meaning.specs.Plain.{next}
use Rattle.text_meaning.specs.Grammar.{fields_at}
use Rattle.text_line.specs.declared.Shape.{Shape as Code-Shape}
use Rattle.text_line.specs.Found.{fields_named, shape_named, ShapeFits}
use Rattle.text_line.proofs.OctetLaws.{finds_none}
use Rattle.text_line.proofs.LineLaws.{line_short, line_unmarked, line_shapeless, line_slots, line_unread, line_fields, letters_put}
use Rattle.text_line.proofs.line_into.Goals as goal

pub returns-in_default-clause-found : goal.returns-in_default-clause-found
returns-in_default-clause-found c = line_short c.args.first c.args.text.now (omega arith)

pub returns-in_err-mark-clause-found : goal.returns-in_err-mark-clause-found
returns-in_err-mark-clause-found c =
    let a = c.args in
    finds_none _ _ c.from_residual.ensures
    (line_unmarked a.first a.text.now c.from_be_bytes.result (omega arith) c.from_be_bytes.ensures
    (λ k e. let z : ◌≡◌ {A = _} None (Some k) = (c.in_err-mark.ensures k).1 e in absurd (cc)))

pub returns-in_err-shape_of-clause-found : goal.returns-in_err-shape_of-clause-found
returns-in_err-shape_of-clause-found c =
    let a = c.args in let k = c.in_ok-mark.mark in
    finds_none _ _ c.from_residual-in_err-shape_of.ensures
    (line_shapeless a.first a.text.now c.from_be_bytes.result (omega arith) c.from_be_bytes.ensures k ((c.in_ok-mark.ensures k).0 refl) c.in_err-shape_of.ensures.found)

pub returns-in_err-slots-in-Slots-clause-found : goal.returns-in_err-slots-in-Slots-clause-found
returns-in_err-slots-in-Slots-clause-found c =
    let a = c.args in let k = c.in_ok-mark.mark in
    finds_none _ _ c.from_residual-in_err-slots-in-Slots.ensures
    (line_slots a.first a.text.now c.from_be_bytes.result (omega arith) c.from_be_bytes.ensures k ((c.in_ok-mark.ensures k).0 refl)
    (c.in_ok-shape_of.ensures.found ∙ ap (λ (x : Code-Shape). next (shape_named x)) c.in-Slots.is)
    ∙ c.in_err-slots-in-Slots.ensures.found)

pub returns-in_ok-slots-in-Slots-clause-found : goal.returns-in_ok-slots-in-Slots-clause-found
returns-in_ok-slots-in-Slots-clause-found c =
    let a = c.args in let k = c.in_ok-mark.mark in
    line_slots a.first a.text.now c.from_be_bytes.result (omega arith) c.from_be_bytes.ensures k ((c.in_ok-mark.ensures k).0 refl)
    (c.in_ok-shape_of.ensures.found ∙ ap (λ (x : Code-Shape). next (shape_named x)) c.in-Slots.is)
    ∙ c.in_ok-slots-in-Slots.ensures.found

pub returns-in_err-long-in-Fields-clause-found : goal.returns-in_err-long-in-Fields-clause-found
returns-in_err-long-in-Fields-clause-found c =
    let a = c.args in let k = c.in_ok-mark.mark in let m = c.from_be_bytes.result in
    let p = letters_put a.rec.now m (get_or a.text.now 0 0) (get_or a.text.now 1 0) (omega arith) c.from_be_bytes.ensures (omega (arith, c.type_inv.text 1)) in
    finds_none _ _ c.from_residual-in_err-long-in-Fields.ensures
    (line_unread a.first a.text.now m (omega arith) c.from_be_bytes.ensures k ((c.in_ok-mark.ensures k).0 refl)
    (c.in_ok-shape_of.ensures.found ∙ ap (λ (x : Code-Shape). next (shape_named x)) c.in-Fields.is)
    (ap (λ (o : List ℕ). fields_at (fields_named c.in-Fields.fields.now) o (take (length a.text.now - 2) (drop 2 a.text.now))) (sym p) ∙ c.in_err-long-in-Fields.ensures.found))

pub returns-in_ok-long-in-Fields-clause-found : goal.returns-in_ok-long-in-Fields-clause-found
returns-in_ok-long-in-Fields-clause-found c =
    let a = c.args in let k = c.in_ok-mark.mark in let m = c.from_be_bytes.result in
    let p = letters_put a.rec.now m (get_or a.text.now 0 0) (get_or a.text.now 1 0) (omega arith) c.from_be_bytes.ensures (omega (arith, c.type_inv.text 1)) in
    line_fields a.first a.text.now m (omega arith) c.from_be_bytes.ensures k ((c.in_ok-mark.ensures k).0 refl)
    (c.in_ok-shape_of.ensures.found ∙ ap (λ (x : Code-Shape). next (shape_named x)) c.in-Fields.is)
    (ap (λ (o : List ℕ). fields_at (fields_named c.in-Fields.fields.now) o (take (length a.text.now - 2) (drop 2 a.text.now))) (sym p) ∙ c.in_ok-long-in-Fields.ensures.found)

pub returns-in_ok-long-in-Fields-clause-on : goal.returns-in_ok-long-in-Fields-clause-on
returns-in_ok-long-in-Fields-clause-on c =
    let t = c.args.text.now in
    let x = subst ShapeFits c.in-Fields.is c.in_ok-shape_of.ensures.fits in
    let z = c.in_ok-long-in-Fields.ensures.on in
    (omega (arith, z.1, length-drop 2 t, length-take (length t - 2) (drop 2 t)), (omega (arith, z.0), omega (arith, x, z.0)))
