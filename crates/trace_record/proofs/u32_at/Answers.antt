-- `u32_at`: four octets make the number that document 01 has high octet first.
use Rattle.trace_record.specs.Trace.{be16, be32}
use borrow.Author.Rules.{rules}
use Rattle.trace_record.proofs.u32_at.Goals as goal

pub returns : goal.returns
unfolding be32 be16
returns c = search rules
