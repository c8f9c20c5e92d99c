-- `list_lines::slot_line` puts a slot's line: served or refused, by the answer's number.
use borrow.Author.Rules.{rules}
use Rattle.list_lines.proofs.Puts.{put_is}
use Rattle.list_lines.proofs.Words.{slot_served, slot_refused}
use Rattle.list_lines.proofs.slot_line.Goals as goal

pub returns-then-a-eq0 : goal.returns-then-a-eq0
returns-then-a-eq0 c =
    record { put = put_is (slot_served _ _ c.if-a-eq0.true) c.served_line.ensures.put; upper_bound = search rules }

pub returns-else-a-eq0 : goal.returns-else-a-eq0
returns-else-a-eq0 c =
    record { put = put_is (slot_refused _ _ c.if-a-eq0.false) c.refused_line.ensures.put; upper_bound = search rules }
