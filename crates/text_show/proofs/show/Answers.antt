-- `text_show::show`: a buffer too short is left alone; of a longer input the front is read.
use Rattle.text_show.proofs.Shows.{too_short, show_front, taken_front}
use Rattle.text_show.proofs.show.Goals as goal

pub returns-then-out-lt-LINE_ROOM-clause-promise : goal.returns-then-out-lt-LINE_ROOM-clause-promise
returns-then-out-lt-LINE_ROOM-clause-promise g c = let a = c.args in too_short a.input.now a.out.now c.if-out-lt-LINE_ROOM.true

pub returns-clause-promise : goal.returns-clause-promise
returns-clause-promise g c = show_front c.args.input.now c.min.result c.min.ensures _ _ _ c.if-out-lt-LINE_ROOM.false c.tell.ensures.shown

pub returns-clause-written : goal.returns-clause-written
returns-clause-written g c = λ e. taken_front c.args.input.now c.min.result c.min.ensures _ _ _ _ (c.tell.ensures.written e)
