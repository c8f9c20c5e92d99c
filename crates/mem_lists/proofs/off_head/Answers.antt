-- `mem_lists::off_head` meets its contract: the VC that leaver finds departs, and the link is read where head and tail differ.
use Rattle.mem_lists.proofs.OffLaws.{off_is}
use Rattle.mem_lists.specs.Leaver.{off_from}
use mathlib.Core.Path.{◌∙◌, ap}
use Prim.Native.Nat.{ℕ}
use Rattle.mem_lists.proofs.off_head.Goals as goal
use Rattle.mem_lists.proofs.off_head.Goals.{then-x-tail, else-x-tail}

pub returns : goal.returns
returns c =
    let a = c.args in
    let next = c.if-x-tail.follower in
    (c.off_from.ensures ∙ ap (λ (g : ℕ). off_from a.n g a.x next a.tail) c.leaver-vci.ensures)
    ∙ off_is a.n a.v a.kind a.cells.now a.links.now a.words.now a.x a.tail next
    (elim c.if-x-tail.branch [ then-x-tail w ↦ λ ne. absurd (ne w.if-x-tail.true) | else-x-tail w ↦ λ ne. w.follower-is ])
