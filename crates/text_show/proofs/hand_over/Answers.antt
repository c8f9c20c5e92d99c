-- `text_show::hand_over` fills and writes until no record stands there: the invariant is the fills so far, the measure what is
-- left of the trace.
use mathlib.Core.Path.{sym, ◌∙◌}
use native.Mathlib.Omega.{arith}
use lib.Seq.{length-take-le}
use Rattle.text_show.proofs.Whole.{going_none, going_more, going_all, took, sofar_more, sofar_some, sofar_all, fill_leads}
use Rattle.text_show.proofs.hand_over.Goals as goal

pub loop-out-init : goal.loop-out-init
loop-out-init g c = going_none _ _ _

pub slice_bounds-write_all-end : goal.slice_bounds-write_all-end
slice_bounds-write_all-end g c = omega (arith, c.fill-f.ensures.within)

pub slice_bounds-write_all-end-in-loop-out : goal.slice_bounds-write_all-end-in-loop-out
slice_bounds-write_all-end-in-loop-out g c =
    let f = c.fill-f in
    sym (length-take-le f.result.used _ (omega (arith, f.ensures.within)))

pub returns-then-is_err-clause-handed : goal.returns-then-is_err-clause-handed
returns-then-is_err-clause-handed g c =
    (_, sofar_some _ (sofar_more _ c.loop-out.invariant.sofar (sym c.stands.ensures ∙ c.loop-out-test.true) c.fill-f.ensures))

pub loop-out-smaller : goal.loop-out-smaller
loop-out-smaller g c =
    let h = c.loop-out in
    let s = sym c.stands.ensures ∙ c.loop-out-test.true in
    let d = sofar_more _ h.invariant.sofar s c.fill-f.ensures in
    let l = fill_leads _ s (omega (arith, c.requires)) c.fill-f.ensures in
    omega (arith, l, d.within)

pub loop-out-preserved : goal.loop-out-preserved
loop-out-preserved g c =
    let w = took _ _ _ c.is_err.ensures.value c.if-is_err.false c.write_all.ensures.bytes in
    going_more _ _ c.loop-out.invariant (sym c.stands.ensures ∙ c.loop-out-test.true) c.fill-f.ensures w

pub returns-clause-handed : goal.returns-clause-handed
returns-clause-handed g c = sofar_all _ c.loop-out.invariant.sofar (sym c.stands.ensures ∙ c.loop-out-test.false)

pub returns-clause-written : goal.returns-clause-written
returns-clause-written g c = going_all _ c.loop-out.invariant (sym c.stands.ensures ∙ c.loop-out-test.false)
