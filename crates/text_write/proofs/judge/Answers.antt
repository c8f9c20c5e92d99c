-- `text_write::judge`: line by line, with the rest of a pause and the room that is left; the first line that isn't good stops it.
use Rattle.std.proofs.Common.{sym, rules}
use Rattle.text_write.proofs.Judging.{judging_start, judging_more, judging_stop, judging_none, judging_short, judging_fits}
use Rattle.text_write.proofs.judge.Goals as goal

pub loop-p-init : goal.loop-p-init
loop-p-init c = judging_start _ _

pub returns-in_default-clause-value : goal.returns-in_default-clause-value
returns-in_default-clause-value c = judging_stop c.loop-p.invariant c.loop-p-test.true (sym c.in_default.ensures.result_after)

pub loop-p-preserved : goal.loop-p-preserved
loop-p-preserved c =
    let l = c.in-Some in
    judging_more c.loop-p.invariant c.loop-p-test.true c.line_at.new.rec l.line l.next l.ensures.result_after l.ensures.line_within (search rules) c.leaves-rest.ensures.0
    c.adds_long.ensures
    c.less-room.ensures

pub returns-then-p-eq0-clause-value : goal.returns-then-p-eq0-clause-value
returns-then-p-eq0-clause-value c = judging_none c.loop-p.invariant c.if-p-eq0.true c.loop-p-test.false

pub overflow_sub-result : goal.overflow_sub-result
overflow_sub-result c = (judging_fits c.loop-p.invariant c.rest_long.ensures.0 c.less.ensures c.if-p-eq0.false c.loop-p-test.false c.in-Some-less.is).0

pub returns-in-Some-less-clause-value : goal.returns-in-Some-less-clause-value
returns-in-Some-less-clause-value c = (judging_fits c.loop-p.invariant c.rest_long.ensures.0 c.less.ensures c.if-p-eq0.false c.loop-p-test.false c.in-Some-less.is).1

pub returns-in-None-clause-value : goal.returns-in-None-clause-value
returns-in-None-clause-value c = judging_short c.loop-p.invariant c.rest_long.ensures.0 c.less.ensures c.if-p-eq0.false c.loop-p-test.false c.in-None.is
