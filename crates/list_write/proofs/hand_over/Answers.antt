-- `list_write::hand_over` fills and writes with the memory that it was lent, part by part: the parts are the struct's, and come back with it.
use mathlib.Core.Path.{sym}
use borrow.Author.Rules.{rules}
use Rattle.list_write.proofs.Parts.{handed_back}
use Rattle.list_write.proofs.hand_over.Goals as goal

pub returns : goal.returns
returns g c =
    let o = c.write_fills in
    let n = o.ensures.same in
    record {
      handed = handed_back o.new.memory
          (search (rules, sym n.cells.name)) (search (rules, sym n.links.name)) (search (rules, sym n.calendar.name))
          (search (rules, sym n.words.name)) (search (rules, sym n.bits.name)) (search (rules, sym n.arrived.name)) o.ensures.handed;
      written = o.ensures.written;
    }
