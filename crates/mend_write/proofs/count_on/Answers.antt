-- `mend_write::count_on` counts what the reads answered: the invariant is the answers so far. It ends, since each read that
-- goes on adds an octet, and the number is bounded.
use mathlib.Core.Path.{refl}
use borrow.Author.Rules.{rules}
use Rattle.mend_write.proofs.ReadLaws.{reads_none, reads_failed, reads_ended, reads_long, reads_more}
use Rattle.mend_write.proofs.count_on.Goals as goal

pub loop-total-init : goal.loop-total-init
loop-total-init g c = (reads_none _, refl)

pub returns-in_default : goal.returns-in_default
returns-in_default g c = reads_failed _ _ c.loop-total.invariant.0

pub returns-then-more-eq0 : goal.returns-then-more-eq0
returns-then-more-eq0 g c =
    reads_ended _ _ c.loop-total.invariant.0 c.loop-total-test.true

pub loop-total-preserved : goal.loop-total-preserved
loop-total-preserved g c =
    let h = c.loop-total in
    (reads_more _ _ h.invariant.0 _ c.loop-total-test.true c.if-more-eq0.false (search rules), search rules)

pub returns : goal.returns
returns g c = reads_long _ _ c.loop-total.invariant.0 c.loop-total-test.false
