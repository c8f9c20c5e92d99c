-- `text_scribe::write_within`: a text within the limit is written; of one that goes on only the front is judged.
use Rattle.std.proofs.Common.{◌≡◌, ◌≤◌, Ok, Err, length, take, subst, sym, ap, ◌∙◌, arith}
use lib.Seq.{length-take-le}
use Rattle.text_meaning.specs.declared.WriteError.{WriteError}
use Rattle.text_meaning.specs.declared.WriteError.TheVariants.{Unreadable, TooShort}
use Rattle.text_meaning.specs.Writing.{Answer, PlaceWithin}
use Rattle.text_scribe.specs.Scribe.{limit}
use Rattle.text_scribe.proofs.Said.{said_within, said_stop, said_beyond}
use Rattle.text_scribe.proofs.write_within.Goals as goal

pub returns-then-input-le-LIMIT-clause-out_after : goal.returns-then-input-le-LIMIT-clause-out_after
returns-then-input-le-LIMIT-clause-out_after c =
    let a = c.args in c.write.ensures.out_after ∙ said_within a.input.now a.out.now c.if-input-le-LIMIT.true

pub slice_bounds-judge-end : goal.slice_bounds-judge-end
slice_bounds-judge-end c = sym (length-take-le limit c.args.input.now (omega (arith, c.if-input-le-LIMIT.false)))

pub returns-in-Err-Unreadable-clause-out_after : goal.returns-in-Err-Unreadable-clause-out_after
returns-in-Err-Unreadable-clause-out_after c =
    let a = c.args in let u = c.in-Err-Unreadable in
    said_stop a.input.now a.out.now c.if-input-le-LIMIT.false u.place (ap (λ (e : WriteError). Err e) (sym u.field-0-is) ∙ u.ensures.value)

pub returns-in-Err-Unreadable-clause-place_le_limit : goal.returns-in-Err-Unreadable-clause-place_le_limit
returns-in-Err-Unreadable-clause-place_le_limit c =
    let u = c.in-Err-Unreadable in
    let w : u.place ≤ length (take limit c.args.input.now) = subst (λ (e : WriteError). PlaceWithin (length (take limit c.args.input.now)) (Err e)) u.field-0-is u.ensures.place_in_bounds in
    omega (arith, w, length-take-le limit c.args.input.now (omega (arith, c.if-input-le-LIMIT.false)))

pub returns-in-Ok-clause-out_after : goal.returns-in-Ok-clause-out_after
returns-in-Ok-clause-out_after c =
    let a = c.args in
    said_beyond a.input.now a.out.now c.if-input-le-LIMIT.false c.judge.result c.judge.ensures.value
    (λ p e. let z : ◌≡◌ {A = Answer} (Ok c.in-Ok.field-0) (Err (Unreadable p)) = sym c.in-Ok.is ∙ e in absurd (cc))

pub returns-in-Err-TooShort-clause-out_after : goal.returns-in-Err-TooShort-clause-out_after
returns-in-Err-TooShort-clause-out_after c =
    let a = c.args in let t = c.in-Err-TooShort in
    said_beyond a.input.now a.out.now c.if-input-le-LIMIT.false c.judge.result c.judge.ensures.value
    (λ p e.
    let z : ◌≡◌ {A = Answer} (Err (TooShort _)) (Err (Unreadable p)) = ap (λ (x : WriteError). Err x) (sym t.field-0-is) ∙ sym t.is ∙ e in
    absurd (cc))
