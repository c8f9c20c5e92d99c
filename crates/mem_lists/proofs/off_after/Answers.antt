-- `mem_lists::off_after` meets its contract: as off_head, with VC and link as the accepted cell and the join will leave them.
use Rattle.mem_lists.proofs.OffLaws.{from_same}
use Rattle.mem_lists.specs.Leaver.{off_from, off_after}
use mathlib.Core.Path.{◌∙◌, ap}
use Prim.Native.Nat.{ℕ}
use Rattle.mem_lists.proofs.off_after.Goals as goal
use Rattle.mem_lists.proofs.off_after.Goals.{then-x-tail, else-x-tail}

pub returns : goal.returns
unfolding off_after
returns c =
    let a = c.args in
    let next = c.if-x-tail.follower in
    (c.off_from.ensures
    ∙ ap (λ (g : ℕ). off_from a.n g a.x next a.tail) c.leaver_after-vci.ensures)
    ∙ from_same a.n _ a.x next _ a.tail
    (elim c.if-x-tail.branch [ then-x-tail w ↦ λ ne. absurd (ne w.if-x-tail.true) | else-x-tail w ↦ λ ne. w.follower-is ∙ w.links_after-follower.ensures ])
