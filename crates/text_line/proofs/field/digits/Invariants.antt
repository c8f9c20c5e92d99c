-- `digits`: the digits from the value so far on are those from the start on.
use Rattle.std.proofs.Common.{◌≡◌, ◌≤◌, length}
use Rattle.text_meaning.specs.Grammar.{digits}
use Rattle.text_line.proofs.field.digits.Given as goal

abbrev pub invariant-loop-v : goal.invariant-loop-v
invariant-loop-v l = (digits l.v l.rest ≡ digits l.first l.text) × (length l.rest ≤ length l.text)

abbrev pub decreases-loop-v : goal.decreases-loop-v
decreases-loop-v l = length l.rest
