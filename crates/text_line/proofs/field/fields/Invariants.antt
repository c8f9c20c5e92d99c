-- `fields`: the fields that are left, put behind the octets so far, are all fields put behind the mark.
use Rattle.std.proofs.Common.{◌≡◌, ◌+◌, ◌≤◌, length, take, drop}
use Rattle.text_meaning.specs.Grammar.{fields_at}
use Rattle.text_line.specs.Found.{fields_named, span}
use Rattle.text_line.proofs.field.fields.Given as goal

abbrev pub invariant-loop-kind : goal.invariant-loop-kind
invariant-loop-kind l =
    (fields_at (fields_named (drop l.kind-index l.kinds)) (take l.at l.rec) l.rest ≡ fields_at (fields_named l.kinds) (take 2 l.initial.rec) l.text)
    × (l.at + span (fields_named (drop l.kind-index l.kinds)) ≡ 2 + span (fields_named l.kinds))
    × (length l.rest ≤ length l.text)
