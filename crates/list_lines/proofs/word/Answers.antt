-- `list_lines::word` puts a number or a dash.
use native.Mathlib.Omega.{arith}
use Rattle.list_lines.proofs.word.Goals as goal

pub returns-in-Some : goal.returns-in-Some
returns-in-Some c = rw c.in-Some.is c.number.ensures

pub returns-in-None : goal.returns-in-None
returns-in-None c = rw c.in-None.is (record { put = c.text.ensures; upper_bound = omega (arith, c.text.ensures.next) })
