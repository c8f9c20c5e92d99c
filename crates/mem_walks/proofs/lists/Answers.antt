-- `mem_walks::lists` walks the Output List and the queues, and stops as `lists_of` does.
use mathlib.Core.Path.{ap, ◌∙◌}
use mathlib.Core.Bool.{Bool}
use Rattle.mem_walks.specs.Walk.{walked}
use Rattle.mem_walks.proofs.StoredLaws.{lists_output, lists_on}
use Rattle.mem_walks.proofs.lists.Goals as goal

pub returns-then-list : goal.returns-then-list
returns-then-list c =
    let r₁ = walked c.list.result c.list.new.spaces c.list.new.waits in
    c.entries.ensures ∙ lists_on _ _ _ _ _ _ _ r₁ c.list.ensures c.if-list.true

pub returns-else-list : goal.returns-else-list
returns-else-list c =
    let r₁ = walked c.list.result c.list.new.spaces c.list.new.waits in
    ap (λ (a : Bool). walked a r₁.spaces r₁.waits) c.if-list.false ∙ lists_output _ _ _ _ _ _ _ r₁ c.list.ensures c.if-list.false
