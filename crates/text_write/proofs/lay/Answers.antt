-- `text_write::lay`: line by line, with the rest of a pause; every line has room, since all was judged before.
use Rattle.std.proofs.Common.{sym, rules}
use Rattle.text_write.proofs.Laying.{laying_start, laying_stops, laying_room, laying_more, ending_room, laying_end}
use Rattle.text_write.proofs.lay.Goals as goal

pub loop-line-init : goal.loop-line-init
loop-line-init c = laying_start _ _

pub put_line-at-requires-clause-room : goal.put_line-at-requires-clause-room
put_line-at-requires-clause-room c =
    let l = c.in-Some in
    laying_room c.loop-line.invariant c.requires c.line_at.new.rec l.line l.next l.ensures.result_after l.ensures.line_within (search rules)

pub loop-line-preserved : goal.loop-line-preserved
loop-line-preserved c =
    let l = c.in-Some in
    laying_more c.loop-line.invariant c.requires c.line_at.new.rec l.line l.next l.ensures.result_after l.ensures.line_within (search rules) c.leaves-rest.ensures.0
    c.put_line-at.ensures
    (search rules)

pub rest_record-requires : goal.rest_record-requires
rest_record-requires c =
    let h = c.loop-line in
    (ending_room h.invariant c.requires (laying_stops h.invariant c.requires (sym c.in_default.ensures.result_after)), h.invariant.reached.below)

pub returns : goal.returns
returns c =
    let h = c.loop-line in
    laying_end h.invariant c.requires (laying_stops h.invariant c.requires (sym c.in_default.ensures.result_after)) c.rest_record.ensures
