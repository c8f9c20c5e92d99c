-- `list_step::counted` counts an answer: four counts, each by `counted_if`; an accepted or tagged cell is counted as accepted.
use Rattle.list_whole.specs.Run.{counted}
use Rattle.list_step.proofs.counted.Goals as goal

pub returns : goal.returns
unfolding counted
returns c =
    rw (c.counted_if-4.ensures, c.counted_if-3.ensures, c.counted_if-2.ensures, c.counted_if.ensures, c.lets_in.ensures)
