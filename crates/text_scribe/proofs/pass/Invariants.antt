-- `text_scribe::pass` fills and writes until all is handed over: the invariant is the fills so far and what is left.
use Rattle.std.proofs.Common.{◌≡◌, length}
use Rattle.std.specs.Slice.Iter.{chunks_rest, chunks_size}
use Rattle.text_scribe.proofs.Passes.{Sofar}
use Rattle.text_scribe.proofs.pass.Given as goal

abbrev pub invariant-loop-part : goal.invariant-loop-part
invariant-loop-part g l = Sofar l.all l.initial.out (g.W.Write.contents l.initial.to) (chunks_rest l.part-iterator) l.out (g.W.Write.contents l.to)
    × (chunks_size l.part-iterator ≡ length l.initial.out)
    × (goal.iterator-loop-part g).can_next l.part-iterator
    × (goal.iterator-loop-part g).is_finite l.part-iterator
