-- `call_burst::is_times` meets its contract: a length is so many times another where no rest is left and the quotient is that many.
use mathlib.Core.Path.{sym, ◌∙◌}
use Prim.Native.Nat.{◌%◌}
use borrow.Author.Tests.{ne_eqb}
use Rattle.call_burst.proofs.Refusals.{times_rest}
use Rattle.call_burst.proofs.is_times.Goals as goal

pub returns-else-long-each-eq0 : goal.returns-else-long-each-eq0
returns-else-long-each-eq0 c =
    let a = c.args in
    ne_eqb (a.long % a.each) 0 c.if-long-each-eq0.false ∙ sym (times_rest a.long a.each a.k c.if-long-each-eq0.false)
