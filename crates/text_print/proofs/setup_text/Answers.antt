-- `text_print::setup_text` puts the line of a GM, GR or GN: its mark, then two numbers.
use native.Mathlib.Omega.{arith}
use Rattle.list_lines.proofs.Puts.{put_is, put_then}
use Rattle.text_print.proofs.Words.{number_put, setup_words}
use Rattle.text_print.proofs.setup_text.Goals as goal

pub returns : goal.returns
returns c =
    record { by_index = λ trace. put_is (setup_words trace _ _ _ _ c.mark.ensures) (put_then (put_then c.mark-a.ensures (number_put _ c.from.ensures c.number-b.ensures.put)) (number_put _ c.from-2.ensures c.number.ensures.put)); upper_bound = omega (arith, c.mark-a.ensures.next, c.number-b.ensures.upper_bound, c.number.ensures.upper_bound) }
