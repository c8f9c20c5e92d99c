-- `text_write::put_line`: the full records of a pause; or the rest before a record, and its octets.
use Rattle.std.proofs.Common.{subst, ap, arith}
use lib.Seq.{length-take-le}
use Rattle.list_lines.proofs.Puts.{put_is, put_then}
use Rattle.text_line.specs.declared.Line.{Line}
use Rattle.text_line.specs.Found.{event_found, LongWithin}
use Rattle.text_write.specs.Adds.{adds, adds_long}
use Rattle.text_write.proofs.AddLaws.{rest_long_lem}
use Rattle.text_write.proofs.put_line.Goals as goal

pub text-requires : goal.text-requires
text-requires c =
    let a = c.args in let r = c.in-Record in
    let w = subst LongWithin r.is c.requires.bounds.2 in
    let e = ap (adds_long a.rest) r.is in
    omega (arith, c.requires.room, e, w.1, c.requires.bounds.1, c.rest_record-a.ensures.next, rest_long_lem a.rest, length-take-le r.long a.rec.now (omega (arith, w.1, c.requires.bounds.1)))

pub returns-in-Record : goal.returns-in-Record
returns-in-Record c =
    let a = c.args in
    put_is (ap (λ (l : Line). adds a.rest (event_found a.rec.now l)) c.in-Record.is) (put_then c.rest_record-a.ensures c.text.ensures)
