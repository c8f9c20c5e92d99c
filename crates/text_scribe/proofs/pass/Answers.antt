-- `text_scribe::pass` fills and writes until all is handed over: the invariant is the fills so far and what is left.
use Rattle.std.proofs.Common.{List, ℕ, sym, ap, ◌∙◌, subst, arith, rules}
use Rattle.std.specs.Slice.Iter.{chunks_rest, chunks_size}
use Rattle.text_scribe.proofs.Passes.{took, Sofar, sofar_none, sofar_more, sofar_cut}
use Rattle.text_scribe.proofs.pass.Goals as goal

pub loop-part-init : goal.loop-part-init
loop-part-init g c =
    let x = c.into_iter-part-iterator.ensures.into_iter_gives in
    let y = c.chunks-part-items.ensures in
    let r = ap chunks_rest x ∙ y.rest in
    let z = ap chunks_size x ∙ y.size in
    let w = g.W.Write.contents c.args.to.now in
    let a = c.args in (
      subst (λ (l : List ℕ). Sofar a.all.now a.out.now w l a.out.now w) (sym r) (sofar_none a.all.now a.out.now w),
      z,
      omega (arith, z, c.requires),
      tt,
    )

pub returns-then-is_err-clause-passed : goal.returns-then-is_err-clause-passed
returns-then-is_err-clause-passed g c =
    let h = c.loop-part in let k = c.in-Some.ensures.steps in
    sofar_cut h.invariant.0 c.in-Some.part.now _ k.1.0 k.1.1 k.1.2 h.invariant.1 c.text-used.ensures (search rules)

pub loop-part-preserved : goal.loop-part-preserved
loop-part-preserved g c =
    let h = c.loop-part in let k = c.in-Some.ensures.steps in
    let w = took _ _ _ c.is_err.ensures.value c.if-is_err.false c.write_all.ensures.bytes in (
      sofar_more h.invariant.0 c.in-Some.part.now _ k.1.0 k.1.1 k.1.2 h.invariant.1 c.text-used.ensures (search rules) w,
      k.0 ∙ h.invariant.1,
      omega (arith, k.0, h.invariant.1, c.requires),
      search rules,
    )
