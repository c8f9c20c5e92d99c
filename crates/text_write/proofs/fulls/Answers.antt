-- `text_write::fulls`: after i turns the first i full records stand there.
use Rattle.std.proofs.Common.{arith}
use Rattle.list_lines.proofs.Puts.{put_is, put_then, put_none}
use Rattle.text_write.proofs.AddLaws.{fulls_more, fulls_none}
use Rattle.text_write.proofs.fulls.Goals as goal

pub loop-i-init : goal.loop-i-init
loop-i-init c = (omega arith, put_is fulls_none (put_none _ _))

pub loop-i-preserved : goal.loop-i-preserved
loop-i-preserved c =
    let h = c.loop-i in
    let w = c.pause_record-to in
    (omega (arith, h.invariant.0, w.ensures.next), put_is (fulls_more h._i) (put_then h.invariant.1 w.ensures))
