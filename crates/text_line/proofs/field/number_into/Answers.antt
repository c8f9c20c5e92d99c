-- `number_into`: a number that fits its field is put behind the octets before it.
use Rattle.std.proofs.Common.{ℕ, ◌≤◌, ◌<◌, List, take, sym, ap, ◌∙◌, arith}
use Rattle.meaning.specs.Plain.{next}
use Rattle.text_meaning.specs.Shapes.{wide, top}
use Rattle.text_meaning.specs.Grammar.{part, number}
use Rattle.text_line.specs.Found.{field_named}
use Rattle.text_line.proofs.OctetLaws.{finds_none}
use Rattle.text_line.proofs.HexLaws.{no_number, a_number, only_32, put_8, put_16, put_32}
use Rattle.text_line.proofs.field.number_into.Goals as goal
use Rattle.text_line.proofs.field.number_into.Goals.{in-N8, in-N16, in_default}

pub returns-in_err-n-clause-found : goal.returns-in_err-n-clause-found
returns-in_err-n-clause-found c =
    let a = c.args in
    finds_none _ _ c.from_residual.ensures
    (no_number _ a.text.now a.kind c.requires.number (ap (λ (k : ℕ). number k a.text.now) (sym c.top.ensures) ∙ c.in_err-n.ensures.found))

pub returns-clause-found : goal.returns-clause-found
returns-clause-found c =
    let a = c.args in
    let n = c.in_ok-n in
    let b : n.n ≤ top (field_named a.kind) = omega (arith, n.ensures.on.0, c.top.ensures) in
    let r = c.requires in
    a_number (take a.at a.rec.now) a.text.now a.kind n.n n.rest.now r.number (ap (λ (k : ℕ). number k a.text.now) (sym c.top.ensures) ∙ n.ensures.found)
    ∙ ap (λ (l : List ℕ). next (part l n.rest.now))
    (elim c.match-kind.branch [
      | in-N8 w ↦ put_8 a.rec.now a.at n.n a.kind _ w.in-N8.is (omega (arith, r.room, ap (λ k. wide (field_named k)) w.in-N8.is)) w.rec-is
      | in-N16 w ↦
          let s = w.copy_from_slice in
          let h : n.n ≤ 65535 = omega (arith, b, ap (λ k. top (field_named k)) w.in-N16.is) in
          put_16 a.rec.now a.at n.n a.kind _ _ s.new.self w.in-N16.is h (s.ensures.after ∙ w.to_be_bytes.ensures) (omega (arith, r.room)) w.rec-is
      | in_default w ↦
          let s = w.copy_from_slice-in_default in
          let e = only_32 a.kind r.number w.in_default.not-N8 w.in_default.not-N16 in
          let h : n.n < 4294967296 = omega (arith, b, ap (λ k. top (field_named k)) e) in
          put_32 a.rec.now a.at n.n a.kind _ _ s.new.self e h (s.ensures.after ∙ w.to_be_bytes-in_default.ensures) (omega (arith, r.room)) w.rec-is
    ])
