-- `call_audit::fill_spaces` gives each of the n spaces that is not free 1: those below x are done, at each turn.
use mathlib.Core.Path.{◌≡◌, sym, ◌∙◌}
use Prim.Native.Nat.{◌<◌}
use native.Mathlib.Omega.{arith}
use lib.ListN.{length}
use Rattle.call_audit.proofs.WaitsLaws.{inside_no, inside_turn}
use Rattle.call_audit.proofs.fill_spaces.Goals as goal

pub loop-x-init : goal.loop-x-init
loop-x-init c = λ k. c.requires.2 k ∙ sym (inside_no _ k 0 (omega arith))

pub loop-x-preserved : goal.loop-x-preserved
loop-x-preserved c =
    let a = c.loop-x in
    let h : a.x < length a.b = omega arith in
    rw c.from.ensures (inside_turn _ a.b a.x _ h c.uses_of.ensures a.invariant)

pub returns : goal.returns
returns c = let e : c.loop-x.x ≡ c.args.n = omega arith in rw e at c.loop-x.invariant
