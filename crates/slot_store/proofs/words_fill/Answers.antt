-- `slot_store::words_fill` meets its contract: rotation's VC is written first, then the cell's, which may be the same.
use mathlib.Core.Path.{◌≡◌, ◌∙◌, ap}
use Rattle.slot_arrive.specs.Arrival.{filled}
use Rattle.slot_plan.specs.Plan.{rotated}
use Rattle.slot_plan.proofs.Ends.{rotated_some, rotated_none}
use Rattle.slot_store.proofs.words_fill.Goals as goal
use Rattle.slot_store.proofs.words_fill.Goals.{in-Some, in_default}

pub returns : goal.returns
returns c =
    let k = c.args.k in
    let j = c.args.j in
    let rotates : c.match-b.words ≡ rotated k c.args.b c.args.words.now = elim c.match-b.branch [
      | in-Some w ↦ rotated_some k c.args.b _ c.args.words.now _ w.in-Some.is (w.words-is ∙ w.put_fallen.ensures)
      | in_default w ↦ rotated_none k c.args.b c.args.words.now _ w.in_default.is w.words-is
    ] in
    c.put_fill.ensures ∙ ap (filled j.vci j.s j.second k.t j.waiting) rotates
