-- `text_record::write_cell`: a CA of 53 octets.
use Rattle.std.proofs.Common.{replicate, refl, ap, ◌∙◌}
use Rattle.std.specs.Int.{w16, to_be_bytes}
use Rattle.trace_record.specs.Trace.{mark_ca}
use Rattle.text_meaning.specs.Shapes.{of16}
use Rattle.text_record.proofs.Cases.{as_put, cell_other, cell_later, two_parts, refused}
use Rattle.text_record.proofs.write_cell.Goals as goal

pub returns-then-cell-ne53 : goal.returns-then-cell-ne53
returns-then-cell-ne53 c = refused _ _ _ (cell_other _ _ c.if-cell-ne53.true)

pub returns : goal.returns
returns c =
    let cell = c.args.cell.now in
    let p = two_parts (replicate 55 0) (of16 mark_ca) cell c.copy_from_slice.new.self c.copy_from_slice-2.new.self 2 53
    (c.copy_from_slice.ensures.after ∙ c.to_be_bytes.ensures ∙ ap (to_be_bytes w16) c.letters.ensures) c.copy_from_slice-2.ensures.after refl refl c.if-cell-ne53.false in
    c.put_later.ensures _ (as_put p (cell_later cell c.if-cell-ne53.false))
