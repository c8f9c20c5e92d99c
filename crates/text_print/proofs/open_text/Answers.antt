-- `text_print::open_text` puts the line of an opening: its mark, then four numbers.
use native.Mathlib.Omega.{arith}
use Rattle.list_lines.proofs.Puts.{put_is, put_then}
use Rattle.text_print.proofs.Words.{number_put, open_words}
use Rattle.text_print.proofs.open_text.Goals as goal

pub returns : goal.returns
returns c =
    record { put = put_is (open_words _ _ _ _ _) (put_then (put_then (put_then (put_then c.mark-a.ensures (number_put _ c.from.ensures c.number-b.ensures.put)) (number_put _ c.from-2.ensures c.number-d.ensures.put)) c.number-e.ensures.put) c.number.ensures.put); upper_bound = omega (arith, c.mark-a.ensures.next, c.number-b.ensures.upper_bound, c.number-d.ensures.upper_bound, c.number-e.ensures.upper_bound, c.number.ensures.upper_bound) }
