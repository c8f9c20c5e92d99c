-- `slot_arrive::bring_both` meets its contract: with the second bucket in range both have fallen.
use mathlib.Core.Path.{sym, ◌∙◌}
use Rattle.mem_words.proofs.Fits.{second_facts}
use Rattle.slot_arrive.specs.Both.{brought_both}
use Rattle.slot_arrive.proofs.bring_both.Goals as goal

pub returns-then-not-second_fits : goal.returns-then-not-second_fits
unfolding brought_both
returns-then-not-second_fits c = simp (sym c.second_fits.ensures ∙ c.if-not-second_fits.true)

pub second_now-second-requires : goal.second_now-second-requires
second_now-second-requires c = (c.requires, (second_facts _ _ (sym c.second_fits.ensures ∙ c.if-not-second_fits.false)).m_low)

pub returns : goal.returns
unfolding brought_both
returns c = simp (sym c.second_fits.ensures ∙ c.if-not-second_fits.false, c.second_now-second.ensures)
