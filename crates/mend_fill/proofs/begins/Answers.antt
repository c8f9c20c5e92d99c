-- `mend_fill::begins`: the reader's answer at the start tells. Assumes nothing.
use mathlib.Core.Path.{sym, ap}
use Rattle.mend_step.proofs.Cases.{answer_none}
use Rattle.mend_fill.specs.Fill.{begun}
use Rattle.mend_fill.proofs.PieceLaws.{read_begun}
use Rattle.mend_fill.proofs.begins.Goals as goal

pub returns-in_default : goal.returns-in_default
returns-in_default c = sym (ap begun (answer_none _ _ c.event_at.result c.event_at.ensures c.in_default.not-Read))

pub returns-in-Read : goal.returns-in-Read
returns-in-Read c = read_begun _ _ c.event_at.result _ _ c.event_at.ensures c.in-Read.is
