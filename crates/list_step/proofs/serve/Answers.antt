-- `list_step::serve` makes the step of a slot with the memory that it was lent, part by part: the parts are the struct's, and come back with it.
use Rattle.std.proofs.Common.{sym}
use borrow.Author.Rules.{rules}
use Rattle.list_step.proofs.Step.{did_back}
use Rattle.list_step.proofs.serve.Goals as goal

pub returns : goal.returns
returns c =
    let o = c.serve_with in
    let n = o.ensures.same in
    did_back o.new.memory
    (search (rules, sym n.cells.name)) (search (rules, sym n.links.name)) (search (rules, sym n.calendar.name))
    (search (rules, sym n.words.name)) (search (rules, sym n.bits.name)) (search (rules, sym n.arrived.name)) o.ensures.did
