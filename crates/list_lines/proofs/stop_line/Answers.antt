-- `list_lines::stop_line` puts the stop line: the words, then the place.
use native.Mathlib.Omega.{arith}
use Rattle.list_lines.proofs.Words.{stop_words}
use Rattle.list_lines.proofs.Puts.{put_is, put_then}
use Rattle.list_lines.proofs.stop_line.Goals as goal

pub returns : goal.returns
returns c =
    record { put = put_is (stop_words _) (put_then c.text-a.ensures c.number.ensures.put); upper_bound = omega (arith, c.text-a.ensures.next, c.number.ensures.upper_bound) }
