-- `mem_words::none_second` meets its contract: two tests of the words' bits together.
use mathlib.Core.Path.{◌∙◌}
use borrow.Author.Tests.{ne_eqb}
use Rattle.meaning.specs.Words.{connection_at}
use Rattle.mem_words.proofs.NoneLaws.{some_rate, no_rate}
use Rattle.mem_words.proofs.none_second.Goals as goal

pub returns-then-words-base-eq0 : goal.returns-then-words-base-eq0
unfolding connection_at
returns-then-words-base-eq0 c = rw (← c.from-base.ensures) (no_rate _ c.if-words-base-eq0.true)

pub returns-else-words-base-eq0 : goal.returns-else-words-base-eq0
unfolding connection_at
returns-else-words-base-eq0 c =
    ne_eqb _ 0 c.if-words-base-eq0.false ∙ rw (← c.from-base.ensures) (some_rate _ c.if-words-base-eq0.false)
