-- `slot_accept::departure::head_joined` meets its contract: the cell is the head where it joined entry T; any other entry keeps its head.
use Rattle.slot_plan.proofs.Cases.{own_head, far_head}
use Rattle.slot_accept.proofs.departure.head_joined.Goals as goal

pub returns-then-a-turn : goal.returns-then-a-turn
returns-then-a-turn c =
    own_head c.args.calendar.now c.args.a c.args.turn c.if-a-turn.true c.requires

pub returns : goal.returns
returns c =
    far_head c.args.calendar.now c.args.a c.args.turn c.if-a-turn.false
