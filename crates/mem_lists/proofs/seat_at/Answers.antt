-- `mem_lists::seat_at` meets its contract: the head and the tail of the entry, tested one after the other, fit or not.
use Rattle.mem_lists.specs.Spaces.{seat_at}
use Rattle.meaning.specs.Lists.{entry_at}
use Rattle.mem_lists.proofs.PairLaws.{head_high, tail_high, both_low, tail_left, both_empty}
use Prim.Native.Nat.{◌+◌, ◌*◌}
use lib.ListN.{get_or}
use Rattle.mem_lists.proofs.seat_at.Goals as goal

pub returns-then-tail : goal.returns-then-tail
unfolding seat_at entry_at
returns-then-tail c = simp (tail_left _ _ _ c.requires.0 c.if-head.true c.if-tail.true)

pub returns-then-head-n : goal.returns-then-head-n
unfolding seat_at entry_at
returns-then-head-n c =
    let a = c.args in
    simp (head_high _ _ (get_or a.calendar.now (2 * a.e + 1) 0) c.if-head.false c.if-head-n.true)

pub returns-then-tail-n : goal.returns-then-tail-n
unfolding seat_at entry_at
returns-then-tail-n c = simp (tail_high _ _ _ c.requires.0 c.if-head-n.false c.if-tail-n.true)

pub returns-else-tail : goal.returns-else-tail
unfolding seat_at entry_at
returns-else-tail c = simp (both_empty _ _ _ c.requires.0 c.if-head.true c.if-tail.false)

pub returns-else-tail-n : goal.returns-else-tail-n
unfolding seat_at entry_at
returns-else-tail-n c = simp (both_low _ _ _ c.if-head-n.false c.if-tail-n.false)
