-- `list_lines::number` puts one digit, or the digits that the library writes, and one octet more.
use native.Mathlib.Omega.{arith}
use mathlib.Core.Path.{refl}
use Rattle.list_lines.proofs.Decimals.{one_digit, digits_many, put_digits}
use Rattle.list_lines.proofs.Puts.{put_then, put_one}
use Rattle.list_lines.proofs.number.Goals as goal

pub returns-then-n-lt10-clause-put : goal.returns-then-n-lt10-clause-put
returns-then-n-lt10-clause-put c = rw (one_digit _ c.if-n-lt10.true) (record { list = refl; next = refl })

pub write_digits-requires : goal.write_digits-requires
write_digits-requires c =
    let i = c.ilog10.ensures in
    let m = c.max.ensures in
    let many = digits_many c.ilog10.result c.args.n (rw (← m) i.power_le) (rw (← m) i.next_power_gt) (omega arith) in
    rw c.from.ensures (omega arith, omega arith)

pub returns : goal.returns
returns c =
    let i = c.ilog10.ensures in
    let m = c.max.ensures in
    let w = c.write_digits.ensures in
    record {
      put = put_then (put_digits _ _ c.from.ensures (rw (← m) i.power_le) (rw (← m) i.next_power_gt) (omega arith) refl (omega arith) w.start w.written w.before) (put_one _ _ _);
      upper_bound = omega arith;
    }
