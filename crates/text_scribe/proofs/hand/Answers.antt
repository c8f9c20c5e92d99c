-- `text_scribe::hand` makes the trace or the line, which lies within its memory, and hands it over.
use Rattle.std.proofs.Common.{arith}
use Rattle.text_scribe.proofs.Passes.{handed_trace, taken_trace, handed_line, taken_line}
use Rattle.text_scribe.proofs.hand.Goals as goal

pub returns-in-Ok-clause-handed : goal.returns-in-Ok-clause-handed
returns-in-Ok-clause-handed g c = let k = c.in-Ok in handed_trace k.long k.ensures.scribe_promise k.ensures.trace_in_bounds.0 c.pass.ensures.passed

pub returns-in-Ok-clause-written : goal.returns-in-Ok-clause-written
returns-in-Ok-clause-written g c = let k = c.in-Ok in λ e. taken_trace k.long k.ensures.scribe_promise k.ensures.trace_in_bounds.0 _ _ _ (c.pass.ensures.written e)

pub returns-in-Err-clause-handed : goal.returns-in-Err-clause-handed
returns-in-Err-clause-handed g c =
    let k = c.in-Err in handed_line k.long k.ensures.scribe_promise (omega (arith, k.ensures.trace_in_bounds.1, c.requires.0)) c.pass-in-Err.ensures.passed

pub returns-in-Err-clause-written : goal.returns-in-Err-clause-written
returns-in-Err-clause-written g c =
    let k = c.in-Err in λ e. taken_line k.long k.ensures.scribe_promise (omega (arith, k.ensures.trace_in_bounds.1, c.requires.0)) _ _ _ (c.pass-in-Err.ensures.written e)
