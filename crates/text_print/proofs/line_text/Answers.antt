-- `text_print::line_text` puts the line of a record, by cases of the event.
use native.Mathlib.Omega.{arith}
use Rattle.text_print.specs.Print.{line_of}
use Rattle.text_print.proofs.Made.{cell_within}
use borrow.Author.Rules.{rules}
use Rattle.text_print.proofs.line_text.Goals as goal

pub cell_text-requires : goal.cell_text-requires
cell_text-requires c = (cell_within c.args.trace.now c.args.event _ c.in-Cell.is c.requires.0, search rules)

pub returns-in-Setup : goal.returns-in-Setup
returns-in-Setup c =
    record { put = rw c.in-Setup.is (c.setup_text.ensures.by_index _); upper_bound = omega (arith, c.setup_text.ensures.upper_bound) }

pub returns-in-Open : goal.returns-in-Open
unfolding line_of
returns-in-Open c =
    record { put = rw c.in-Open.is c.open_text.ensures.put; upper_bound = omega (arith, c.open_text.ensures.upper_bound) }

pub returns-in-Close : goal.returns-in-Close
unfolding line_of
returns-in-Close c =
    record { put = rw c.in-Close.is c.close_text.ensures.put; upper_bound = omega (arith, c.close_text.ensures.upper_bound) }

pub returns-in-Cell : goal.returns-in-Cell
returns-in-Cell c =
    record { put = rw c.in-Cell.is c.cell_text.ensures.put; upper_bound = omega (arith, c.cell_text.ensures.upper_bound) }

pub returns-in-Pause : goal.returns-in-Pause
returns-in-Pause c =
    record { put = rw c.in-Pause.is (c.pause_text.ensures.by_index _); upper_bound = omega (arith, c.pause_text.ensures.upper_bound) }

pub returns-in-Sustain : goal.returns-in-Sustain
returns-in-Sustain c =
    record { put = rw c.in-Sustain.is (c.sustain_text.ensures.by_index _); upper_bound = omega (arith, c.sustain_text.ensures.upper_bound) }

pub returns-in-OpenPath : goal.returns-in-OpenPath
unfolding line_of
returns-in-OpenPath c =
    record { put = rw c.in-OpenPath.is c.open_text-in-OpenPath.ensures.put; upper_bound = omega (arith, c.open_text-in-OpenPath.ensures.upper_bound) }

pub returns-in-ClosePath : goal.returns-in-ClosePath
unfolding line_of
returns-in-ClosePath c =
    record { put = rw c.in-ClosePath.is c.close_text-in-ClosePath.ensures.put; upper_bound = omega (arith, c.close_text-in-ClosePath.ensures.upper_bound) }
