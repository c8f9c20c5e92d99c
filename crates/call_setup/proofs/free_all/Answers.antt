-- `call_setup::free_all` meets its contract: in the end all 32 words are such.
use Rattle.std.proofs.Common.{arith}
use Rattle.call_setup.proofs.Fulls.{full_all}
use Rattle.call_setup.proofs.free_all.Goals as goal

pub returns : goal.returns
returns c = full_all _ _ c.requires _ _ c.loop-w.invariant (omega (arith, c.requires, c.loop-w-test.false))
