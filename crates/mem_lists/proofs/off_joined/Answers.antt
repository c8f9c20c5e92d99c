-- `mem_lists::off_joined` meets its contract: as off_head, with the link as the join will leave it.
use Rattle.mem_lists.proofs.OffLaws.{off_is}
use Rattle.mem_lists.specs.Leaver.{off_from}
use Rattle.mem_lists.specs.Spaces.{linked}
use lib.ListN.{set}
use mathlib.Core.Path.{◌∙◌, ap}
use Prim.Native.Nat.{ℕ}
use Rattle.mem_lists.proofs.off_joined.Goals as goal
use Rattle.mem_lists.proofs.off_joined.Goals.{then-x-tail, else-x-tail}

pub returns : goal.returns
unfolding linked
returns c =
    let a = c.args in
    let next = c.if-x-tail.follower in
    (c.off_from.ensures ∙ ap (λ (g : ℕ). off_from a.n g a.x next a.tail) c.leaver-vci.ensures)
    ∙ off_is a.n a.v a.kind a.cells.now (set a.links.now a.old a.head) a.words.now a.x a.tail next
    (elim c.if-x-tail.branch [ then-x-tail w ↦ λ ne. absurd (ne w.if-x-tail.true) | else-x-tail w ↦ λ ne. w.follower-is ∙ w.link_after-follower.ensures ])
