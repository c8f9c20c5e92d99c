-- `mem_words::bucket_fits` meets its contract: the rules on m, F and C are judged first, then S against C.
use mathlib.Core.Path.{sym, ◌∙◌}
use Rattle.meaning.specs.Words.{connection_at}
use Rattle.mem_words.proofs.Fits.{bucket_breaks, bucket_obeys}
use Rattle.mem_words.proofs.bucket_fits.Goals as goal

pub returns-then-obeys_rules : goal.returns-then-obeys_rules
unfolding connection_at
returns-then-obeys_rules c = rw (← c.from-base.ensures) (bucket_obeys _ _ (sym c.obeys_rules.ensures ∙ c.if-obeys_rules.true))

pub returns-else-obeys_rules : goal.returns-else-obeys_rules
unfolding connection_at
returns-else-obeys_rules c = c.if-obeys_rules.false ∙ rw (← c.from-base.ensures) (bucket_breaks _ _ (sym c.obeys_rules.ensures ∙ c.if-obeys_rules.false))
