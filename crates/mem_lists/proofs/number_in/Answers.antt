-- `mem_lists::number_in` meets its contract: the header is read as one number, which names the connection.
use Prim.Native.Nat.{◌*◌}
use mathlib.Core.Path.{◌∙◌}
use Rattle.leaf_header.proofs.NameLaws.{numbered_is}
use Rattle.mem_lists.proofs.number_in.Goals as goal

pub returns : goal.returns
returns c =
    let a = c.args in
    let is =
    numbered_is a.kind a.v c.requires.0 a.cells.now (53 * a.x) _ c.name_at-name.ensures.name
    c.name_at-name.ensures.reads in
    let r = c.number_for.ensures.number ∙ is in
    record { number = r; low = c.number_for.ensures.low }
