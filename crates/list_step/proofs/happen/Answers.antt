-- `list_step::happen` makes the step of one record: by cases of the event, the function of its call.
use Rattle.std.proofs.Common.{arith}
use Rattle.list_whole.specs.Run.{record_step}
use Rattle.list_whole.proofs.Same.{same_memory, same_words}
use Rattle.list_step.proofs.Step.{cell_within, did_cell, did_pause}
use Rattle.list_step.proofs.happen.Goals as goal

pub overflow_add-end : goal.overflow_add-end
overflow_add-end c =
    omega (arith, cell_within c.args.trace.now c.args.event _ c.in-Cell.is c.requires.cell_within)

pub slice_bounds-serve_with-end : goal.slice_bounds-serve_with-end
slice_bounds-serve_with-end c =
    omega (arith, cell_within c.args.trace.now c.args.event _ c.in-Cell.is c.requires.cell_within)

pub returns-in-Setup : goal.returns-in-Setup
unfolding record_step
returns-in-Setup c = rw c.in-Setup.is (record { did = c.set_up.ensures.did _; same = c.set_up.ensures.same })

pub returns-in-Open : goal.returns-in-Open
unfolding record_step
returns-in-Open c = rw c.in-Open.is (record { did = c.open_connection.ensures _ _ _ _ _; same = same_words _ _ c.open_connection.auto.words })

pub returns-in-Close : goal.returns-in-Close
unfolding record_step
returns-in-Close c = rw c.in-Close.is (record { did = c.close_connection.ensures _ _ _ _ _; same = same_words _ _ c.close_connection.auto.words })

pub returns-in-Cell : goal.returns-in-Cell
returns-in-Cell c = rw c.in-Cell.is (record { did = did_cell _ _ _ _ _ _ _ _ _ c.serve_with.ensures.did; same = c.serve_with.ensures.same })

pub returns-in-Pause : goal.returns-in-Pause
returns-in-Pause c = rw c.in-Pause.is (record { did = did_pause _ _ _ _ _ _ _ _ _ _ _ _ _ c.moved.ensures; same = same_memory _ })

pub returns-in-Sustain : goal.returns-in-Sustain
unfolding record_step
returns-in-Sustain c = rw c.in-Sustain.is (record { did = c.open_connection-in-Sustain.ensures _ _ _ _ _; same = same_words _ _ c.open_connection-in-Sustain.auto.words })

pub returns-in-OpenPath : goal.returns-in-OpenPath
unfolding record_step
returns-in-OpenPath c = rw c.in-OpenPath.is (record { did = c.open_connection-in-OpenPath.ensures _ _ _ _ _; same = same_words _ _ c.open_connection-in-OpenPath.auto.words })

pub returns-in-ClosePath : goal.returns-in-ClosePath
unfolding record_step
returns-in-ClosePath c = rw c.in-ClosePath.is (record { did = c.close_connection-in-ClosePath.ensures _ _ _ _ _; same = same_words _ _ c.close_connection-in-ClosePath.auto.words })
