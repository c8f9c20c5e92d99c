-- `mem_marks::first_mark` meets its contract: at each turn no entry from `from` on is marked in the words before i.
use Prim.Native.Nat.{◌+◌, ◌-◌, ◌*◌, ◌/◌, ◌%◌, ◌^◌}
use mathlib.Core.Path.{◌≡◌, refl}
use native.Mathlib.Omega.{arith}
use lib.ListN.{get_or}
use Rattle.mem_marks.proofs.WordLaws.{none_in, first_is, more_none, less_none, words_none, slice_none}
use Rattle.mem_marks.proofs.first_mark.Goals as goal

pub returns-then-part-ne0 : goal.returns-then-part-ne0
returns-then-part-ne0 c =
    let a = c.args in
    let bits = a.bits.now in
    let w = c.from.result in
    let j = (1024 + a.from) % 64 in
    rw c.then_some.ensures
    (first_is bits w j a.from (get_or bits w 0 / 2 ^ j) (omega (arith, c.from.ensures)) (omega arith) refl (c.type_inv.bits w).fits
    c.if-part-ne0.true a.from a.to (omega arith) (λ e p q. absurd (omega arith)))

pub loop-i-init : goal.loop-i-init
loop-i-init c =
    let a = c.args in
    let bits = a.bits.now in
    let w = c.from.result in
    let j = (1024 + a.from) % 64 in
    let next = c.from-next.result + 1 in
    let r = c.skip.result in
    let here = none_in bits w j a.from (get_or bits w 0 / 2 ^ j) (omega (arith, c.from.ensures)) (omega arith) refl c.if-part-ne0.false in (
      omega (arith, c.from-next.ensures),
      omega (arith, c.from-next.ensures),
      more_none bits a.from (64 * next - 1024) (64 * (next + r) - 1024)
          (less_none bits a.from (64 * next - 1024) (a.from + (64 - j)) (omega (arith, c.from-next.ensures)) here)
          (words_none bits next (next + r) (omega (arith, c.from-next.ensures)) (slice_none bits next c.from-last.result r c.skip.ensures.0 c.skip.ensures.1)),
    )

pub returns-then-word-ne0 : goal.returns-then-word-ne0
returns-then-word-ne0 c =
    let a = c.args in
    let bits = a.bits.now in
    let i = c.loop-i.i in
    let inv = c.loop-i.invariant in
    let same : get_or bits i 0 ≡ get_or bits i 0 / 2 ^ 0 = omega arith in
    rw c.then_some-then-word-ne0.ensures
    (first_is bits i 0 (64 * i - 1024) (get_or bits i 0) (omega (arith, inv.0)) (omega arith) same (c.type_inv.bits i).fits c.if-word-ne0.true a.from a.to inv.1 inv.2)

pub loop-i-preserved : goal.loop-i-preserved
loop-i-preserved c =
    let a = c.args in
    let bits = a.bits.now in
    let i = c.loop-i.i in
    let inv = c.loop-i.invariant in
    let same : get_or bits i 0 ≡ get_or bits i 0 / 2 ^ 0 = omega arith in
    let here = none_in bits i 0 (64 * i - 1024) (get_or bits i 0) (omega (arith, inv.0)) (omega arith) same c.if-word-ne0.false in (
      omega (arith, inv.0),
      omega (arith, inv.1),
      more_none bits a.from (64 * i - 1024) (64 * (i + 1) - 1024) inv.2
          (less_none bits (64 * i - 1024) (64 * (i + 1) - 1024) (64 * i - 1024 + (64 - 0)) (omega (arith, inv.0)) here),
    )
