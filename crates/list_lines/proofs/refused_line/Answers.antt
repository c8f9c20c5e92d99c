-- `list_lines::refused_line` puts a refused slot's line: the word, then the number.
use native.Mathlib.Omega.{arith}
use Rattle.list_lines.proofs.Words.{refused_words}
use Rattle.list_lines.proofs.Puts.{put_is, put_then}
use Rattle.list_lines.proofs.refused_line.Goals as goal

pub returns : goal.returns
returns c =
    record { put = rw (← c.from.ensures) (put_is (refused_words _) (put_then c.text-a.ensures c.number.ensures.put)); upper_bound = omega (arith, c.text-a.ensures.next, c.number.ensures.upper_bound) }
