-- `fields`: the fields that are left, put behind the octets so far, are all fields put behind the mark.
use Rattle.std.proofs.Common.{ℕ, ◌+◌, take, drop, sym, ap, ◌∙◌, arith}
use Rattle.text_meaning.specs.Grammar.{fields_at}
use Rattle.text_line.specs.Found.{fields_named}
use Rattle.text_line.proofs.OctetLaws.{finds_none}
use Rattle.text_line.proofs.FieldLaws.{span_more, no_space, no_field, one_field, span_none, no_feed, all_fields}
use Rattle.text_line.proofs.field.fields.Goals as goal

pub returns-in_err-after-clause-found : goal.returns-in_err-after-clause-found
returns-in_err-after-clause-found c =
    let h = c.loop-kind in let a = c.args in
    finds_none _ _ c.from_residual.ensures (sym h.invariant.0 ∙ no_space a.kinds.now h.kind-index (omega arith) (take h.at h.rec) h.rest.now c.in_err-after.ensures.found)

pub field_into-requires : goal.field_into-requires
field_into-requires c = let h = c.loop-kind in let m = span_more c.args.kinds.now h.kind-index (omega arith) in omega (arith, m, h.invariant.1)

pub returns-in_err-rest-clause-found : goal.returns-in_err-rest-clause-found
returns-in_err-rest-clause-found c =
    let h = c.loop-kind in let a = c.args in
    finds_none _ _ c.from_residual-in_err-rest.ensures
    (sym h.invariant.0 ∙ no_field a.kinds.now h.kind-index (omega arith) (take h.at h.rec) h.rest.now c.in_ok-after.ensures.found c.in_err-rest.ensures.found)

pub loop-kind-preserved : goal.loop-kind-preserved
loop-kind-preserved c =
    let h = c.loop-kind in let a = c.args in let w = c.wide-at in let f = c.field_into in let t = c.in_ok-rest in
    let m = span_more a.kinds.now h.kind-index (omega arith) in
    let o = one_field a.kinds.now h.kind-index (omega arith) (take h.at h.rec) h.rest.now c.in_ok-after.ensures.found t.ensures.found in (
      ap (λ (k : ℕ). fields_at (fields_named (drop (h.kind-index + 1) a.kinds.now)) (take (h.at + k) f.new.rec) t.rest.now) w.ensures ∙ sym o ∙ h.invariant.0,
      omega (arith, m, h.invariant.1, w.ensures),
      omega (arith, t.ensures.on, c.in_ok-after.ensures.on),
    )

pub returns-in_err-after-2-clause-found : goal.returns-in_err-after-2-clause-found
returns-in_err-after-2-clause-found c =
    let h = c.loop-kind in let a = c.args in
    finds_none _ _ c.from_residual-in_err-after-2.ensures (sym h.invariant.0 ∙ no_feed a.kinds.now h.kind-index (omega arith) (take h.at h.rec) h.rest.now c.in_err-after-2.ensures.found)

pub returns-clause-found : goal.returns-clause-found
returns-clause-found c =
    let h = c.loop-kind in let a = c.args in sym h.invariant.0 ∙ all_fields a.kinds.now h.kind-index (omega arith) (take h.at h.rec) h.rest.now c.in_ok-after-2.ensures.found

pub returns-clause-on : goal.returns-clause-on
returns-clause-on c =
    let h = c.loop-kind in let s = span_none c.args.kinds.now h.kind-index (omega arith) in (omega (arith, s, h.invariant.1), omega (arith, c.in_ok-after-2.ensures.on))
