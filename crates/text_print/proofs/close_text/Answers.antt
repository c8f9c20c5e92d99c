-- `text_print::close_text` puts the line of a closing: its mark, then a number.
use native.Mathlib.Omega.{arith}
use Rattle.list_lines.proofs.Puts.{put_is, put_then}
use Rattle.text_print.proofs.Words.{number_put, close_words}
use Rattle.text_print.proofs.close_text.Goals as goal

pub returns : goal.returns
returns c =
    record { put = put_is (close_words _ _) (put_then c.mark-a.ensures (number_put _ c.from.ensures c.number.ensures.put)); upper_bound = omega (arith, c.mark-a.ensures.next, c.number.ensures.upper_bound) }
