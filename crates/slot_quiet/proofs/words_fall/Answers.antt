-- `slot_quiet::words_fall` meets its contract: rotation's VC is written first, then the cell's, which may be the same.
use native.Mathlib.Omega.{arith}
use mathlib.Core.Path.{◌≡◌, ◌∙◌, ap}
use Rattle.meaning.specs.Plain.{◌=?◌}
use Rattle.meaning.specs.Numbers.{excess}
use Rattle.slot_arrive.specs.Arrival.{fallen}
use Rattle.slot_plan.specs.Plan.{rotated}
use Rattle.slot_plan.proofs.Ends.{rotated_some, rotated_none}
use Rattle.slot_quiet.proofs.words_fall.Goals as goal
use Rattle.slot_quiet.proofs.words_fall.Goals.{in-Some, in_default}

pub put_fall-requires : goal.put_fall-requires
put_fall-requires c =
    λ e. let h = c.requires.has_connection_2 e in omega (arith, h, c.match-b.auto.words)

pub returns : goal.returns
returns c =
    let k = c.args.k in
    let j = c.args.j in
    let rotates : c.match-b.words ≡ rotated k c.args.b c.args.words.now = elim c.match-b.branch [
      | in-Some w ↦ rotated_some k c.args.b _ c.args.words.now _ w.in-Some.is (w.words-is ∙ w.put_fallen.ensures)
      | in_default w ↦ rotated_none k c.args.b c.args.words.now _ w.in_default.is w.words-is
    ] in
    c.put_fall.ensures ∙ ap (fallen (j.verdict =? excess) j.vci j.s j.second k.t) rotates
