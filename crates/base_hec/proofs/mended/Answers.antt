-- `base_hec::mended` meets its contract: a bit below 32 stands in the first four octets, one from 32 on in the fifth.
use Prim.Native.Nat.{◌-◌, ◌*◌, ◌%◌, ◌^◌}
use native.Mathlib.Omega.{arith}
use Rattle.base_hec.proofs.WordLaws.{one_bit, mended_first, mended_last}
use Rattle.base_hec.proofs.mended.Goals as goal

pub returns-then-bit-lt32 : goal.returns-then-bit-lt32
returns-then-bit-lt32 c =
    let a = c.args in
    mended_first a.bit a.head a.fifth ((1 * 2 ^ (31 - a.bit)) % 2 ^ 32) c.if-bit-lt32.true
    (one_bit 32 (31 - a.bit) (omega arith))

pub returns-else-bit-lt32 : goal.returns-else-bit-lt32
returns-else-bit-lt32 c =
    let a = c.args in
    mended_last a.bit a.head a.fifth ((1 * 2 ^ (39 - a.bit)) % 2 ^ 8) c.if-bit-lt32.false (one_bit 8 (39 - a.bit) (omega arith))
