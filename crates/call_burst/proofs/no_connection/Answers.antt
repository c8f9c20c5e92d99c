-- `call_burst::no_connection` meets its contract: the two tests, one after the other.
use mathlib.Core.Path.{sym, ◌∙◌}
use borrow.Author.Tests.{eq-eqb, ne_eqb}
use Rattle.meaning.specs.Numbers.{unused}
use Rattle.meaning.proofs.NamesLaws.{unused_0}
use Rattle.call_burst.proofs.no_connection.Goals as goal

pub returns-then-c-eq0 : goal.returns-then-c-eq0
returns-then-c-eq0 c = eq-eqb c.args.c 0 c.if-c-eq0.true ∙ sym (unused_0 c.args.v c.args.c c.if-c-eq0.true)

pub returns-else-c-eq0 : goal.returns-else-c-eq0
unfolding unused
returns-else-c-eq0 c = simp (ne_eqb c.args.c 0 c.if-c-eq0.false)
