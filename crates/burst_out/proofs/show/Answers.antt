-- `burst_out::show` meets its contract: a departing cell is copied; where nothing departs, showing the slot's own octets changes nothing.
use mathlib.Core.Path.{sym, ◌∙◌}
use Rattle.burst_out.proofs.ShowLaws.{shown_cell, shown_none}
use Rattle.burst_out.proofs.show.Goals as goal

pub returns-then-space-eq65535 : goal.returns-then-space-eq65535
returns-then-space-eq65535 c = let a = c.args in let p = c.requires in sym (shown_none a.departures.now a.i p.octets_in_bounds a.cells.now p.shows.allowed a.space c.if-space-eq65535.true)

pub returns : goal.returns
returns c = let a = c.args in let p = c.requires in (rw c.from.ensures at c.copy_departure.ensures) ∙ sym (shown_cell a.departures.now a.i p.octets_in_bounds a.cells.now p.shows.allowed a.space (p.shows.low c.if-space-eq65535.false))
