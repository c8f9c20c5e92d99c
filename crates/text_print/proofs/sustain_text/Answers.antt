-- `text_print::sustain_text` puts the line of a VS: its mark, then eight numbers.
use native.Mathlib.Omega.{arith}
use Rattle.list_lines.proofs.Puts.{put_is, put_then}
use Rattle.text_print.proofs.Words.{number_put, sustain_words}
use Rattle.text_print.proofs.sustain_text.Goals as goal

pub number-i-requires : goal.number-i-requires
number-i-requires c =
    omega (arith, c.requires, c.mark-a.ensures.next, c.mark-a.auto.out, c.number-b.ensures.upper_bound, c.number-b.auto.out, c.number-d.ensures.upper_bound, c.number-d.auto.out, c.number-e.ensures.upper_bound, c.number-e.auto.out, c.number-g.ensures.upper_bound, c.number-g.auto.out, c.number-h.ensures.upper_bound, c.number-h.auto.out)

pub number-j-requires : goal.number-j-requires
number-j-requires c =
    omega (arith, c.requires, c.mark-a.ensures.next, c.mark-a.auto.out, c.number-b.ensures.upper_bound, c.number-b.auto.out, c.number-d.ensures.upper_bound, c.number-d.auto.out, c.number-e.ensures.upper_bound, c.number-e.auto.out, c.number-g.ensures.upper_bound, c.number-g.auto.out, c.number-h.ensures.upper_bound, c.number-h.auto.out, c.number-i.ensures.upper_bound, c.number-i.auto.out)

pub number-requires : goal.number-requires
number-requires c =
    omega (arith, c.requires, c.mark-a.ensures.next, c.mark-a.auto.out, c.number-b.ensures.upper_bound, c.number-b.auto.out, c.number-d.ensures.upper_bound, c.number-d.auto.out, c.number-e.ensures.upper_bound, c.number-e.auto.out, c.number-g.ensures.upper_bound, c.number-g.auto.out, c.number-h.ensures.upper_bound, c.number-h.auto.out, c.number-i.ensures.upper_bound, c.number-i.auto.out, c.number-j.ensures.upper_bound, c.number-j.auto.out)

pub shape_of-out : goal.shape_of-out
shape_of-out c =
    omega (arith, c.mark-a.auto.out, c.number-b.auto.out, c.number-d.auto.out, c.number-e.auto.out, c.number-g.auto.out, c.number-h.auto.out, c.number-i.auto.out, c.number-j.auto.out, c.number.auto.out)

pub returns : goal.returns
returns c =
    record { by_index = λ trace. put_is (sustain_words trace _ _ _ _ _) (put_then (put_then (put_then (put_then (put_then (put_then (put_then (put_then c.mark-a.ensures (number_put _ c.from.ensures c.number-b.ensures.put)) (number_put _ c.from-2.ensures c.number-d.ensures.put)) c.number-e.ensures.put) c.number-g.ensures.put) (number_put _ c.from-3.ensures c.number-h.ensures.put)) c.number-i.ensures.put) c.number-j.ensures.put) (number_put _ c.from-4.ensures c.number.ensures.put)); upper_bound = omega (arith, c.mark-a.ensures.next, c.number-b.ensures.upper_bound, c.number-d.ensures.upper_bound, c.number-e.ensures.upper_bound, c.number-g.ensures.upper_bound, c.number-h.ensures.upper_bound, c.number-i.ensures.upper_bound, c.number-j.ensures.upper_bound, c.number.ensures.upper_bound) }
