-- `list_lines::connection_line` puts a word, then two numbers, each behind the one before.
use native.Mathlib.Omega.{arith}
use Rattle.list_lines.proofs.Puts.{put_then}
use Rattle.list_lines.proofs.connection_line.Goals as goal

pub returns : goal.returns
returns c =
    record { put = rw (← c.from.ensures) (put_then (put_then c.text-a.ensures c.number-b.ensures.put) c.number.ensures.put); upper_bound = omega (arith, c.text-a.ensures.next, c.number-b.ensures.upper_bound, c.number.ensures.upper_bound) }
