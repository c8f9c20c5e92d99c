-- `mem_walks::Walks::entries` walks the time slot queues: what remains of the entries is the whole of them, at each turn.
use mathlib.Core.Path.{◌∙◌}
use native.Mathlib.Omega.{arith}
use Rattle.mem_walks.specs.Walk.{walked}
use Rattle.mem_walks.proofs.EntryLaws.{entry_turn, entry_stop, entries_done}
use Rattle.mem_walks.proofs.Walks.entries.Goals as goal

pub loop-e-preserved : goal.loop-e-preserved
loop-e-preserved c =
    let r = walked c.list.result c.list.new.spaces c.list.new.waits in
    entry_turn _ _ _ _ _ _ _ _ _ r (omega (arith, c.loop-e-test.true, c.from-e-end.ensures)) c.at-head.ensures c.at-tail.ensures c.list.ensures c.if-not-list.false
    ∙ c.loop-e.invariant

pub returns-then-not-list : goal.returns-then-not-list
returns-then-not-list c =
    let r = walked c.list.result c.list.new.spaces c.list.new.waits in
    entry_stop _ _ _ _ _ _ _ _ _ r (omega (arith, c.loop-e-test.true, c.from-e-end.ensures)) c.at-head.ensures c.at-tail.ensures c.list.ensures c.if-not-list.true
    ∙ c.loop-e.invariant

pub returns : goal.returns
returns c = entries_done _ _ _ _ _ _ _ (omega (arith, c.loop-e-test.false, c.from-e-end.ensures)) ∙ c.loop-e.invariant
