-- `text_write::judge`: line by line, with the rest of a pause and the room that is left; the first line that isn't good stops it.
use Rattle.std.proofs.Common.{◌-◌, length}
use Rattle.text_write.proofs.Judging.{Judging}
use Rattle.text_write.proofs.judge.Given as goal

abbrev pub invariant-loop-p : goal.invariant-loop-p
invariant-loop-p l = Judging l.text l.most l.p l.rest l.room

abbrev pub decreases-loop-p : goal.decreases-loop-p
decreases-loop-p l = length l.text - l.p
