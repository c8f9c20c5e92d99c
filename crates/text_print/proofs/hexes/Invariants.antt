-- `text_print::hexes` puts the octets of a cell one by one: after i turns the first i stand there in hex.
use Rattle.std.proofs.Common.{◌≡◌, ◌+◌, take, drop}
use Rattle.list_lines.specs.Put.{Put}
use Rattle.text_print.specs.Print.{hex_of}
use Rattle.text_print.proofs.hexes.Given as goal

abbrev pub invariant-loop-i : goal.invariant-loop-i
invariant-loop-i l = (l.to ≡ l.at + (l.i + l.i)) × Put l.initial.out l.at (hex_of (take l.i (drop l.start l.trace))) l.out l.to
