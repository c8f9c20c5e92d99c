-- `mem_words::second_fits` meets its contract: the limits of m, F, C and flag are judged first, then S against C.
use mathlib.Core.Path.{sym, ◌∙◌}
use Rattle.meaning.specs.Words.{connection_at}
use Rattle.mem_words.proofs.Fits.{second_breaks, second_obeys_lem}
use Rattle.mem_words.proofs.second_fits.Goals as goal

pub returns-then-obeys_second : goal.returns-then-obeys_second
unfolding connection_at
returns-then-obeys_second c = rw (← c.from-base.ensures) (second_obeys_lem _ _ (sym c.obeys_second.ensures ∙ c.if-obeys_second.true))

pub returns-else-obeys_second : goal.returns-else-obeys_second
unfolding connection_at
returns-else-obeys_second c = c.if-obeys_second.false ∙ rw (← c.from-base.ensures) (second_breaks _ _ (sym c.obeys_second.ensures ∙ c.if-obeys_second.false))
