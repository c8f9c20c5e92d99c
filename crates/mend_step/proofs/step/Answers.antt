-- `step`: the reader's answer tells whether a record is kept; otherwise the walk goes on where `resume_after` says.
use Rattle.mend_step.proofs.Cases.{answer_none, answer_read, step_none, step_read}
use Rattle.mend_step.proofs.step.Goals as goal

pub returns-in_default : goal.returns-in_default
returns-in_default c =
    step_none _ _ _ (answer_none _ _ c.event_at.result c.event_at.ensures c.in_default.not-Read) c.resume_after.ensures

pub returns-in-Read : goal.returns-in-Read
returns-in-Read c = step_read _ _ _ _ (answer_read _ _ c.event_at.result _ _ c.event_at.ensures c.in-Read.is)
