-- `list_lines::setup_line` puts the line of a setup: the word, then three numbers.
use native.Mathlib.Omega.{arith}
use Rattle.list_lines.proofs.Words.{setup_words}
use Rattle.list_lines.proofs.Puts.{put_is, put_then}
use Rattle.list_lines.proofs.setup_line.Goals as goal

pub returns : goal.returns
returns c =
    record {
      put = rw (← c.from.ensures, ← c.from-2.ensures, ← c.from-3.ensures)
          (put_is (setup_words _ _ _) (put_then (put_then (put_then c.text-a.ensures c.number-b.ensures.put) c.number-c.ensures.put) c.number.ensures.put));
      upper_bound = omega (arith, c.text-a.ensures.next, c.number-b.ensures.upper_bound, c.number-c.ensures.upper_bound, c.number.ensures.upper_bound);
    }
