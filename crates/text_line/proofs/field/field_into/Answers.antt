-- `field_into`: a cell, or a number.
use Rattle.text_line.proofs.HexLaws.{a_cell}
use Rattle.text_line.proofs.field.field_into.Goals as goal

pub returns-in-Cell-clause-found : goal.returns-in-Cell-clause-found
returns-in-Cell-clause-found c =
    let a = c.args in a_cell _ a.text.now a.kind c.hexes.new.rec a.at c.hexes.result c.in-Cell.is c.hexes.ensures.found
