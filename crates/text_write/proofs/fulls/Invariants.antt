-- `text_write::fulls`: after i turns the first i full records stand there.
use Rattle.std.proofs.Common.{◌≡◌, ◌+◌, ◌*◌}
use Rattle.list_lines.specs.Put.{Put}
use Rattle.text_meaning.specs.Events.{fulls}
use Rattle.text_write.proofs.fulls.Given as goal

abbrev pub invariant-loop-i : goal.invariant-loop-i
invariant-loop-i l = (l.to ≡ l.at + 4 * l._i) × Put l.initial.out l.at (fulls l._i) l.out l.to
