-- `slot_steps::shape` meets its contract: each refusal in its order.
use Rattle.std.proofs.Common.{◌≡◌, Bool, true, false, not, ◌||◌, length, refl, sym, ap, ◌∙◌, eq-eqb, ne_eqb, true≢false}
use Rattle.std.specs.Prelude.{Ok, Err}
use Rattle.meaning.specs.Plain.{when◌then◌else◌, ◌=?◌}
use Rattle.meaning.specs.Numbers.{octets}
use Rattle.leaf_refusal.specs.declared.Refusal.TheVariants.{CellSize}
use Rattle.leaf_refusal.specs.Refusals.{given_number}
use Rattle.leaf_refusal.proofs.Numbers.{held, not_held, passed_on}
use Rattle.slot_steps.specs.Slot.{shape_of}
use Rattle.meaning.specs.State.{lengths_hold, words_length}
use Rattle.slot_steps.proofs.shape.Goals as goal
use Rattle.slot_steps.proofs.shape.Goals.{then-cell-eq0, else-cell-eq0}

pub returns-in_err-refuse_unless : goal.returns-in_err-refuse_unless
unfolding shape_of
returns-in_err-refuse_unless c =
    let n = not_held _ _ _ c.in_err-refuse_unless.ensures in
    passed_on _ _ c.from_residual.ensures.1 ∙ n.1 ∙ simp (sym c.ranges_hold.ensures, n.0)

pub returns-in_err-refuse_unless-2 : goal.returns-in_err-refuse_unless-2
unfolding shape_of lengths_hold words_length
returns-in_err-refuse_unless-2 c =
    let n = not_held _ _ _ c.in_err-refuse_unless-2.ensures in
    passed_on _ _ c.from_residual-in_err-refuse_unless-2.ensures.1 ∙ n.1
    ∙ simp (sym c.ranges_hold.ensures, held _ _ c.in_ok-refuse_unless.ensures, sym c.lengths_hold-long.ensures, n.0)

-- the last line's number, by its test
told : (b test : Bool) → b ≡ test → given_number (when b then Ok tt else Err CellSize) ≡ (when not test then 9 else 0)
told true true e = refl
told false false e = refl
told true false e = absurd (true≢false e)
told false true e = absurd (true≢false (sym e))

pub returns : goal.returns
unfolding shape_of lengths_hold words_length
returns c =
    let ranges = sym c.ranges_hold.ensures ∙ held _ _ c.in_ok-refuse_unless.ensures in
    let lengths = sym c.lengths_hold-long.ensures ∙ held _ _ c.in_ok-refuse_unless-2.ensures in
    let long = length c.args.cell.now in
    ap given_number c.refuse_unless-3.ensures
    ∙ told _ (long =? 0 || long =? octets)
    (elim c.if-cell-eq0.branch [
      | then-cell-eq0 w ↦ w.refuse_unless-is ∙ simp (eq-eqb _ _ w.if-cell-eq0.true)
      | else-cell-eq0 w ↦ w.refuse_unless-is ∙ simp (ne_eqb _ _ w.if-cell-eq0.false)
    ])
    ∙ simp (ranges, lengths)
