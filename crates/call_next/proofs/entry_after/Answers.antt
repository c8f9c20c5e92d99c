-- `call_next::entry_after` meets its contract: the sum is below N, or N is taken off.
use mathlib.Core.Path.{sym}
use native.Mathlib.Omega.{arith}
use Rattle.mem_marks.proofs.RingLaws.{near, round}
use Rattle.call_next.proofs.entry_after.Goals as goal

pub returns-then-e-n : goal.returns-then-e-n
returns-then-e-n c = let a = c.args in record { is = sym (near a.n a.turn a.d c.if-e-n.true); low = c.if-e-n.true }

pub returns-else-e-n : goal.returns-else-e-n
returns-else-e-n c =
    let a = c.args in
    record { is = sym (round a.n a.turn a.d c.requires.1 c.requires.2 c.if-e-n.false); low = omega arith }
