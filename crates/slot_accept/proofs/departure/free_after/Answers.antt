-- `slot_accept::departure::free_after` meets its contract: the taken space is not free, and every other is as it was.
use mathlib.Core.Path.{◌∙◌}
use Rattle.slot_accept.proofs.SeatLaws.{same_space, other_space}
use Rattle.slot_accept.proofs.departure.free_after.Goals as goal

pub returns-then-y-x : goal.returns-then-y-x
returns-then-y-x c = same_space _ _ _ c.requires.1 c.if-y-x.true

pub returns : goal.returns
returns c =
    c.is_free.ensures ∙ other_space c.args.bits.now c.args.x c.args.y c.requires.1 c.if-y-x.false
