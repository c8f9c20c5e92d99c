-- `hexes`: the digits from here on, put behind the octets so far, are all digits put behind the first.
use Rattle.std.proofs.Common.{◌≡◌, ◌+◌, ◌-◌, ◌≤◌, length, take}
use Rattle.text_meaning.specs.Grammar.{hexes}
use Rattle.text_line.proofs.field.hexes.Given as goal

abbrev pub invariant-loop-k : goal.invariant-loop-k
invariant-loop-k l = (hexes (l.at + 53 - l.k) (take l.k l.rec) l.rest ≡ hexes 53 (take l.at l.initial.rec) l.text) × (length l.rest + (l.k - l.at) ≤ length l.text)
