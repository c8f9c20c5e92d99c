-- `list_fill::start` answers the run at its beginning: a record of zeros, nothing read and nothing counted.
use Rattle.list_whole.specs.Fill.{start_run}
use Rattle.list_step.proofs.Did.{no_counts}
use Rattle.list_fill.proofs.start.Goals as goal

pub returns : goal.returns
unfolding start_run
returns c = rw (c.no_record.ensures, no_counts c.default.result c.default.ensures)
