-- `text_write::rest_long`: no octets where there is no rest, else those of one record.
use Rattle.std.proofs.Common.{sym, arith}
use Rattle.text_write.proofs.AddLaws.{long_none, long_some}
use Rattle.text_write.proofs.rest_long.Goals as goal

pub returns-then-rest-eq0 : goal.returns-then-rest-eq0
returns-then-rest-eq0 c = (sym (long_none _ c.if-rest-eq0.true), omega arith)

pub returns-else-rest-eq0 : goal.returns-else-rest-eq0
returns-else-rest-eq0 c = (sym (long_some _ c.if-rest-eq0.false), omega arith)
