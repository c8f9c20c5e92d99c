-- `line_at`: the line as `line_into` reads it into octets of its own, of which a record's then are copied.
use Rattle.std.proofs.Common.{◌-◌, length, subst, sym, ap, ◌∙◌, arith}
use Rattle.meaning.specs.Plain.{next, ◌=?◌}
use Rattle.text_meaning.specs.Grammar.{line}
use Rattle.text_meaning.specs.Writing.{placed}
use Rattle.text_line.specs.declared.Line.{Line}
use Rattle.text_line.specs.Found.{event_found, LongWithin}
use Rattle.text_line.proofs.LineLaws.{here_is, beyond, at_none, at_some, none_puts, none_found, record_found, pause_found}
use Rattle.text_line.proofs.line_at.Goals as goal

pub returns-in_err-here-clause-result_after : goal.returns-in_err-here-clause-result_after
returns-in_err-here-clause-result_after c =
    let a = c.args in none_found a.rec.now _ c.from_residual.ensures (at_none a.text.now a.p (beyond a.text.now a.p (omega (arith, c.in_err-here.ensures.lookup))))

pub returns-in_err-here-clause-rec_after : goal.returns-in_err-here-clause-rec_after
returns-in_err-here-clause-rec_after c =
    let a = c.args in none_puts a.rec.now (at_none a.text.now a.p (beyond a.text.now a.p (omega (arith, c.in_err-here.ensures.lookup))))

pub returns-in_err-line-clause-result_after : goal.returns-in_err-line-clause-result_after
returns-in_err-line-clause-result_after c =
    let a = c.args in let h = c.in_ok-here in
    none_found a.rec.now _ c.from_residual-in_err-line.ensures
    (at_none a.text.now a.p (ap (line (a.p =? 0)) (sym (here_is a.text.now a.p h.here.now h.ensures.lookup.0.2)) ∙ c.in_err-line.ensures.found))

pub returns-in_err-line-clause-rec_after : goal.returns-in_err-line-clause-rec_after
returns-in_err-line-clause-rec_after c =
    let a = c.args in let h = c.in_ok-here in
    none_puts a.rec.now (at_none a.text.now a.p (ap (line (a.p =? 0)) (sym (here_is a.text.now a.p h.here.now h.ensures.lookup.0.2)) ∙ c.in_err-line.ensures.found))

pub returns-in-Record-clause-result_after : goal.returns-in-Record-clause-result_after
returns-in-Record-clause-result_after c =
    let a = c.args in let h = c.in_ok-here in let l = c.in_ok-line in let own = c.line_into.new.rec in
    let q = length a.text.now - length l.rest.now in
    let w = subst LongWithin c.in-Record.is l.ensures.on.1 in
    let e = at_some a.text.now a.p (ap (line (a.p =? 0)) (sym (here_is a.text.now a.p h.here.now h.ensures.lookup.0.2)) ∙ l.ensures.found) in
    (record_found own q c.in-Record.long (e ∙ ap (λ (x : Line). next (placed (event_found own x) q)) c.in-Record.is) c.text.ensures (omega (arith, w.1)) (omega (arith, c.requires))).0

pub returns-in_default-clause-result_after : goal.returns-in_default-clause-result_after
returns-in_default-clause-result_after c =
    let a = c.args in let h = c.in_ok-here in let l = c.in_ok-line in
    let e = at_some a.text.now a.p (ap (line (a.p =? 0)) (sym (here_is a.text.now a.p h.here.now h.ensures.lookup.0.2)) ∙ l.ensures.found) in
    (pause_found c.line_into.new.rec (length a.text.now - length l.rest.now) l.line c.in_default.field-0 a.rec.now c.in_default.is e).0

pub returns-in-Record-clause-rec_after : goal.returns-in-Record-clause-rec_after
returns-in-Record-clause-rec_after c =
    let a = c.args in let h = c.in_ok-here in let l = c.in_ok-line in let own = c.line_into.new.rec in
    let q = length a.text.now - length l.rest.now in
    let w = subst LongWithin c.in-Record.is l.ensures.on.1 in
    let e = at_some a.text.now a.p (ap (line (a.p =? 0)) (sym (here_is a.text.now a.p h.here.now h.ensures.lookup.0.2)) ∙ l.ensures.found) in
    (record_found own q c.in-Record.long (e ∙ ap (λ (x : Line). next (placed (event_found own x) q)) c.in-Record.is) c.text.ensures (omega (arith, w.1)) (omega (arith, c.requires))).1

pub returns-in_default-clause-rec_after : goal.returns-in_default-clause-rec_after
returns-in_default-clause-rec_after c =
    let a = c.args in let h = c.in_ok-here in let l = c.in_ok-line in
    let e = at_some a.text.now a.p (ap (line (a.p =? 0)) (sym (here_is a.text.now a.p h.here.now h.ensures.lookup.0.2)) ∙ l.ensures.found) in
    (pause_found c.line_into.new.rec (length a.text.now - length l.rest.now) l.line c.in_default.field-0 a.rec.now c.in_default.is e).1
