-- `call_slot::is_checked` meets its promise: without a cell the check has nothing to look at.
use mathlib.Core.Path.{◌∙◌}
use borrow.Author.Tests.{ne_eqb}
use Rattle.call_slot.proofs.Front.{no_cell, of_cell}
use Rattle.call_slot.proofs.is_checked.Goals as goal

pub returns-then-octets-eq53 : goal.returns-then-octets-eq53
returns-then-octets-eq53 c =
    let a = c.args in
    of_cell a.raw a.octets c.if-octets-eq53.true

pub returns-else-octets-eq53 : goal.returns-else-octets-eq53
returns-else-octets-eq53 c =
    let a = c.args in
    ne_eqb a.octets 53 c.if-octets-eq53.false ∙ no_cell a.raw a.octets c.if-octets-eq53.false
