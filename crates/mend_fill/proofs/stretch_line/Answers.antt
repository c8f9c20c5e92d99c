-- `mend_fill::stretch_line` puts two numbers, each with the octet after it. Assumes nothing.
use native.Mathlib.Omega.{arith}
use Rattle.list_lines.proofs.Puts.{put_is, put_then}
use Rattle.mend_fill.proofs.PieceLaws.{line_of}
use Rattle.mend_fill.proofs.stretch_line.Goals as goal

-- src/lib.rt:75:9
-- src/lib.rt:76:5
-- src/lib.rt:70:1
-- src/lib.rt:70:1
pub returns : goal.returns
returns c =
    let h = c.number-end in
    let k = c.number in
    record { put = put_is (line_of _ _) (put_then h.ensures.put k.ensures.put); upper_bound = omega (arith, h.ensures.upper_bound, k.ensures.upper_bound) }
