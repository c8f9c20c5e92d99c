-- `mem_lists::links_after` meets its contract: the later write is looked at first, then the earlier one.
use Rattle.mem_lists.proofs.LinkLaws.{linked_off, linked_own, linked_other, linked_length}
use Rattle.mem_lists.specs.Spaces.{linked}
use native.Mathlib.Omega.{arith}
use mathlib.Core.Path.{sym, ◌∙◌}
use Rattle.mem_lists.proofs.links_after.Goals as goal
use Rattle.mem_lists.proofs.links_after.Goals.{then-joins+else-x-old, else-joins}

pub returns-then-x-old : goal.returns-then-x-old
returns-then-x-old c =
    let a = c.args in
    let l = linked a.named a.s a.y a.links.now in
    sym
    (linked_own a.joins a.old a.head l a.x c.if-joins.true c.if-x-old.true
    (omega (arith, linked_length a.named a.s a.y a.links.now, c.requires)))

pub returns : goal.returns
returns c =
    let a = c.args in
    let l = linked a.named a.s a.y a.links.now in
    c.link_after.ensures
    ∙ elim c.if-joins.branch [
      | then-joins+else-x-old w ↦ sym (linked_other a.joins a.old a.head l a.x w.if-joins.true w.if-x-old.false)
      | else-joins w ↦ sym (linked_off a.joins a.old a.head l a.x w.if-joins.false)
    ]
