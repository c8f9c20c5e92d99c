-- `mem_marks::skip` meets its contract: at each turn the words of the fours before k are 0.
use Rattle.std.proofs.Common.{◌≡◌, ℕ, ◌*◌, ◌<◌, get_or}
use Rattle.mem_marks.proofs.skip.Given as goal

abbrev pub invariant-loop-k : goal.invariant-loop-k
invariant-loop-k l = (w : ℕ) → w < 4 * l.k → get_or l.words w 0 ≡ 0
