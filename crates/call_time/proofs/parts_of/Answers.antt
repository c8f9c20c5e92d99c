-- `call_time::parts_of` meets its contract: the shift loses no bit of 64.
use native.Mathlib.Omega.{arith}
use lib.Pow.{shl_exact}
use Rattle.call_time.proofs.parts_of.Goals as goal

pub returns : goal.returns
returns c = shl_exact 32 c.args.m 64 c.requires.0 (omega (arith, c.requires.1))
