-- `text_write::rest_record`: nothing of none, else one SL.
use native.Mathlib.Omega.{arith}
use Rattle.list_lines.proofs.Puts.{put_is, put_none}
use Rattle.text_write.proofs.AddLaws.{rest_none, rest_some, long_some}
use Rattle.text_write.proofs.rest_record.Goals as goal

pub returns-then-rest-eq0 : goal.returns-then-rest-eq0
returns-then-rest-eq0 c = put_is (rest_none _ c.if-rest-eq0.true) (put_none _ _)

pub pause_record-requires : goal.pause_record-requires
pause_record-requires c = omega (arith, long_some _ c.if-rest-eq0.false, c.requires.0)

pub returns : goal.returns
returns c = put_is (rest_some _ c.if-rest-eq0.false) c.pause_record.ensures
