-- `mend_fill::number` makes the digits from the last to the first: what is left of the number has its digits in front of those
-- that stand already.
use Prim.Native.Nat.{ℕ, suc, ◌+◌, ◌-◌, ◌/◌, ◌%◌, ◌^◌, ◌<◌}
use mathlib.Core.Path.{◌≡◌, refl, sym, ap, subst, ◌∙◌}
use mathlib.Core.List.{List, [], ◌∷◌, ◌++◌, append-nil}
use native.Mathlib.Omega.{arith}
use borrow.Author.Rules.{rules}
use lib.ListN.{set, length-set}
use Rattle.list_lines.proofs.Puts.{put_is, put_then, put_one}
use Rattle.mend_fill.specs.Lines.{numeral}
use Rattle.mend_fill.proofs.Parts.{part_long, digit_step, digit_last, digit_fewer}
use Rattle.mend_fill.proofs.number.Goals as goal

-- src/lib.rt:55:5
pub loop-rest-init : goal.loop-rest-init
unfolding numeral
loop-rest-init c = (search rules, search rules, refl, sym (append-nil _))

-- src/lib.rt:58:9
pub overflow_sub-i : goal.overflow_sub-i
overflow_sub-i c =
    let h = c.loop-rest in
    omega (arith, (digit_fewer h.i h.rest h.invariant.1 c.loop-rest-test.true).0)

-- src/lib.rt:55:5
pub loop-rest-preserved : goal.loop-rest-preserved
loop-rest-preserved c =
    let h = c.loop-rest in
    let f = digit_fewer h.i h.rest h.invariant.1 c.loop-rest-test.true in
    let e : h.i ≡ suc (h.i - 1) = omega (arith, f.0) in (
      omega (arith, h.invariant.0),
      subst (λ (k : ℕ). h.rest / 10 < 10 ^ k) e f.1,
      length-set h.digits h.i (48 + h.rest % 10) ∙ h.invariant.2,
      digit_step _ h.i (h.i - 1) h.rest h.digits e (omega (arith, h.invariant.0, h.invariant.2)) c.loop-rest-test.true h.invariant.3,
    )

pub text-end-requires : goal.text-end-requires
text-end-requires c =
    let h = c.loop-rest in
    let e = length-set h.digits h.i (48 + h.rest) in
    let m = part_long (set h.digits h.i (48 + h.rest)) h.i 20 (omega (arith, h.invariant.0)) (omega (arith, e, h.invariant.2)) in
    omega (arith, m, c.requires)

pub bounds-text-end : goal.bounds-text-end
bounds-text-end c =
    let h = c.loop-rest in
    let e = length-set h.digits h.i (48 + h.rest) in
    let m = part_long (set h.digits h.i (48 + h.rest)) h.i 20 (omega (arith, h.invariant.0)) (omega (arith, e, h.invariant.2)) in
    omega (arith, c.text-end.ensures.next, m, c.requires)

pub overflow_add-result : goal.overflow_add-result
overflow_add-result c =
    let h = c.loop-rest in
    let e = length-set h.digits h.i (48 + h.rest) in
    let m = part_long (set h.digits h.i (48 + h.rest)) h.i 20 (omega (arith, h.invariant.0)) (omega (arith, e, h.invariant.2)) in
    omega (arith, c.text-end.ensures.next, m, c.requires)

pub returns : goal.returns
returns c =
    let h = c.loop-rest in
    let e = length-set h.digits h.i (48 + h.rest) in
    let m = part_long (set h.digits h.i (48 + h.rest)) h.i 20 (omega (arith, h.invariant.0)) (omega (arith, e, h.invariant.2)) in
    let k = c.text-end in
    let l = digit_last _ h.i h.rest h.digits (omega (arith, h.invariant.0, h.invariant.2)) h.invariant.2 c.loop-rest-test.false h.invariant.3 in
    record { put = put_is (ap (λ (x : List ℕ). x ++ (c.args.after ∷ [])) l) (put_then k.ensures (put_one _ _ _)); upper_bound = omega (arith, k.ensures.next, m, h.invariant.0) }
