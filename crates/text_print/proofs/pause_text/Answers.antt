-- `text_print::pause_text` puts the line of an SL: its mark, then a number.
use native.Mathlib.Omega.{arith}
use Rattle.list_lines.proofs.Puts.{put_is, put_then}
use Rattle.text_print.proofs.Words.{number_put, pause_words}
use Rattle.text_print.proofs.pause_text.Goals as goal

pub returns : goal.returns
returns c =
    record { by_index = λ trace. put_is (pause_words trace _) (put_then c.mark-a.ensures (number_put _ c.from.ensures c.number.ensures.put)); upper_bound = omega (arith, c.mark-a.ensures.next, c.number.ensures.upper_bound) }
