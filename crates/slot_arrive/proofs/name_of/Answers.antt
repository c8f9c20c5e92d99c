-- `slot_arrive::name_of` meets its contract: a cell of 53 octets has a header.
use mathlib.Core.Path.{◌∙◌}
use native.Mathlib.Omega.{arith}
use borrow.Author.Tests.{eq-eqb, ne_eqb}
use Rattle.slot_arrive.specs.Arrival.{cell_name}
use Rattle.slot_arrive.proofs.name_of.Goals as goal

pub returns-then-cell-eq0 : goal.returns-then-cell-eq0
unfolding cell_name
returns-then-cell-eq0 c =
    record { name = simp (eq-eqb _ _ c.if-cell-eq0.true); reads = λ some. absurd (some c.if-cell-eq0.true) }

pub name_at-requires : goal.name_at-requires
name_at-requires c = let h = c.requires c.if-cell-eq0.false in omega (arith, h)

pub returns : goal.returns
unfolding cell_name
returns c =
    record { name = c.name_at.ensures.name ∙ simp (ne_eqb _ _ c.if-cell-eq0.false); reads = λ _. c.name_at.ensures.reads }
