-- `text_scribe::scribe`: the trace alone, or one line alone.
use Rattle.std.proofs.Common.{Err, sym, ap, ◌∙◌, arith}
use Rattle.list_lines.proofs.Puts.{put_is, put_none}
use Rattle.text_meaning.specs.declared.WriteError.{WriteError}
use Rattle.text_meaning.specs.Writing.{wrote}
use Rattle.text_scribe.specs.Scribe.{said_of}
use Rattle.text_scribe.proofs.Said.{came_all, came_none, came_short, short_words}
use Rattle.text_scribe.proofs.scribe.Goals as goal

pub returns-in-Ok-clause-scribe_promise : goal.returns-in-Ok-clause-scribe_promise
returns-in-Ok-clause-scribe_promise c =
    let a = c.args in
    let t = came_all a.out.now c.write_within.new.out (said_of a.input.now) c.in-Ok.long c.in-Ok.ensures.out_after in
    record { trace = t.0; error = put_is t.1 (put_none a.line.now 0) }

pub returns-in-Ok-clause-trace_in_bounds : goal.returns-in-Ok-clause-trace_in_bounds
returns-in-Ok-clause-trace_in_bounds c =
    let a = c.args in
    let t = came_all a.out.now c.write_within.new.out (said_of a.input.now) c.in-Ok.long c.in-Ok.ensures.out_after in
    (t.2, omega arith)

pub returns-in-Err-Unreadable-clause-scribe_promise : goal.returns-in-Err-Unreadable-clause-scribe_promise
returns-in-Err-Unreadable-clause-scribe_promise c =
    let a = c.args in let u = c.in-Err-Unreadable in
    let t = came_none a.out.now c.write_within.new.out (said_of a.input.now) u.place (ap (λ (e : WriteError). wrote (Err e) c.write_within.new.out) (sym u.field-0-is) ∙ u.ensures.out_after) in
    record { trace = t.0; error = put_is t.1 c.stop_line.ensures.put }

pub returns-in-Err-TooShort-clause-scribe_promise : goal.returns-in-Err-TooShort-clause-scribe_promise
returns-in-Err-TooShort-clause-scribe_promise c =
    let a = c.args in
    let t = came_short a.out.now c.write_within.new.out (said_of a.input.now) _ (ap (λ (e : WriteError). wrote (Err e) c.write_within.new.out) (sym c.in-Err-TooShort.field-0-is) ∙ c.in-Err-TooShort.ensures.out_after) in
    record { trace = t.0; error = put_is (t.1 ∙ short_words) c.text.ensures }
