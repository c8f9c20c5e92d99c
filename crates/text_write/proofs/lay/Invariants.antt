-- `text_write::lay`: line by line, with the rest of a pause; every line has room, since all was judged before.
use Rattle.std.proofs.Common.{◌-◌, length}
use Rattle.text_write.proofs.Laying.{Laying}
use Rattle.text_write.proofs.lay.Given as goal

abbrev pub invariant-loop-line : goal.invariant-loop-line
invariant-loop-line l = Laying l.text l.initial.out l.p l.rest l.out l.at

abbrev pub decreases-loop-line : goal.decreases-loop-line
decreases-loop-line l = length l.text - l.p
