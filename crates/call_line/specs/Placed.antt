-- A part of a lent slice as numbers, for a caller to whom no slice can be handed back.
use Rattle.std.specs.Prelude.{ℕ}
use Rattle.meaning.specs.Line.{Slice, cell_memory, idle_cell, Part}
use Rattle.call_line.specs.declared.Place.{Place}

-- which slice: 0 the cell memory, 1 the idle cell
abbrev pub slice_number : Slice → ℕ
slice_number cell_memory = 0
slice_number idle_cell = 1

abbrev pub place_of : Part → Place
place_of p = record { from_idle = slice_number p.slice; start = p.start; length = p.long }
