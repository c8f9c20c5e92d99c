-- `mem_cell::copy_tagged` meets its contract: the copy, octet 4 with CLP 1, and the octet 5 that belongs to it.
use native.Mathlib.Omega.{arith}
use lib.ListN.{length-set}
use Rattle.meaning.proofs.TaggedLaws.{tagged_stored}
use borrow.Author.Rules.{rules}
use Rattle.mem_cell.proofs.copy_tagged.Goals as goal

pub bounds-part-4 : goal.bounds-part-4
bounds-part-4 c = simp length-set (search rules)

pub returns : goal.returns
returns c =
    let copied = c.before in
    let a = copied.args in
    tagged_stored a.cell.now (omega (arith, copied.requires.1)) _ _ _ _ copied.copy_cell.ensures c.with_clp.ensures
    c.head_of.ensures c.check_of.ensures
