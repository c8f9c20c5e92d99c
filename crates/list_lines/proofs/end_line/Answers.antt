-- `list_lines::end_line` puts the end line: the word, then five numbers.
use native.Mathlib.Omega.{arith}
use Rattle.list_lines.proofs.Words.{end_words}
use Rattle.list_lines.proofs.Puts.{put_is, put_then}
use Rattle.list_lines.proofs.end_line.Goals as goal

pub returns : goal.returns
returns c =
    record {
      put = put_is (end_words _ _ _ _ _)
          (put_then (put_then (put_then (put_then (put_then c.text-a.ensures c.number-b.ensures.put) c.number-c.ensures.put) c.number-d.ensures.put) c.number-e.ensures.put) c.number.ensures.put);
      upper_bound = omega (arith, c.text-a.ensures.next, c.number-b.ensures.upper_bound, c.number-c.ensures.upper_bound, c.number-d.ensures.upper_bound, c.number-e.ensures.upper_bound, c.number.ensures.upper_bound);
    }
