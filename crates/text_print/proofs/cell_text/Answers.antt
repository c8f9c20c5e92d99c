-- `text_print::cell_text` puts the line of a CA: its mark, the hex digits, the line feed.
use native.Mathlib.Omega.{arith}
use Rattle.list_lines.proofs.Puts.{put_is, put_then}
use Rattle.text_print.proofs.Words.{cell_words}
use Rattle.text_print.proofs.cell_text.Goals as goal

pub returns : goal.returns
returns c =
    record { put = put_is (cell_words _ _) (put_then (put_then c.mark-a.ensures c.hexes-b.ensures.put) c.text.ensures); upper_bound = omega (arith, c.mark-a.ensures.next, c.hexes-b.ensures.value, c.text.ensures.next) }
