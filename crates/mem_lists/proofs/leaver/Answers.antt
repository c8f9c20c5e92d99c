-- `mem_lists::leaver` meets its contract: the connection that the header names, if a cell of it may depart.
use Rattle.mem_lists.proofs.LeaverLaws.{leaver_is}
use Rattle.mem_lists.specs.Leaver.{goes_as}
use mathlib.Core.Path.{◌∙◌, ap}
use Rattle.mem_lists.proofs.leaver.Goals as goal

pub returns : goal.returns
returns c =
    let a = c.args in
    (c.goes.ensures ∙ ap (goes_as a.n a.words.now) c.number_in-u.ensures.number)
    ∙ leaver_is a.n a.v a.kind a.cells.now a.words.now a.x
