-- `list_fill::fill` fills with the memory that it was lent, part by part: the parts are the struct's, and come back with it.
use mathlib.Core.Path.{sym}
use borrow.Author.Rules.{rules}
use Rattle.list_fill.proofs.Parts.{filled_back}
use Rattle.list_fill.proofs.fill.Goals as goal

pub returns : goal.returns
returns c =
    let o = c.fill_with in
    let n = o.ensures.same in
    filled_back o.new.memory
    (search (rules, sym n.cells.name)) (search (rules, sym n.links.name)) (search (rules, sym n.calendar.name))
    (search (rules, sym n.words.name)) (search (rules, sym n.bits.name)) (search (rules, sym n.arrived.name)) o.ensures.filled
