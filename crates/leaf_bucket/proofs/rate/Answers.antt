-- `leaf_bucket::rate` meets its contract: with m at most 15 the shift loses no bit of 32, so it is the power.
use Rattle.std.proofs.Common.{◌^◌, ◌∙◌, one-mul, arith, shl_exact}
use Rattle.leaf_bucket.proofs.rate.Goals as goal

pub returns : goal.returns
returns c = shl_exact {a = 1} 1 c.args.m 32 (omega arith) (omega arith) ∙ one-mul (2 ^ c.args.m)
