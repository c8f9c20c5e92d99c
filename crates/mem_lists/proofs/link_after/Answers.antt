-- `mem_lists::link_after` meets its contract: the link read is the one that the write, where on, leaves.
use Rattle.mem_lists.proofs.LinkLaws.{linked_off, linked_own, linked_other}
use mathlib.Core.Path.{sym}
use Rattle.mem_lists.proofs.link_after.Goals as goal
use Rattle.mem_lists.proofs.link_after.Goals.{then-on+else-x-i, else-on}

pub returns-then-x-i : goal.returns-then-x-i
returns-then-x-i c =
    let a = c.args in
    sym (linked_own a.on a.i a.y a.links.now a.x c.if-on.true c.if-x-i.true c.requires)

pub returns : goal.returns
returns c =
    let a = c.args in
    elim c.if-on.branch [
      | then-on+else-x-i w ↦ sym (linked_other a.on a.i a.y a.links.now a.x w.if-on.true w.if-x-i.false)
      | else-on w ↦ sym (linked_off a.on a.i a.y a.links.now a.x w.if-on.false)
    ]
