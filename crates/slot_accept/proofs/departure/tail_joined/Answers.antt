-- `slot_accept::departure::tail_joined` meets its contract: entry T has the tail that the seat gives it where the cell joined it; any other keeps its tail.
use Rattle.slot_plan.proofs.Cases.{own_tail, far_tail}
use Rattle.slot_accept.proofs.departure.tail_joined.Goals as goal

pub returns-then-a-turn : goal.returns-then-a-turn
returns-then-a-turn c =
    own_tail c.args.calendar.now c.args.a c.args.turn c.tail_of.result c.tail_of.ensures
    c.if-a-turn.true c.requires

pub returns : goal.returns
returns c =
    far_tail c.args.calendar.now c.args.a c.args.turn c.if-a-turn.false
