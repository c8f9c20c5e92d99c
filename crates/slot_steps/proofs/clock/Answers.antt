-- `slot_steps::clock` meets its contract: step 1.
use Rattle.std.proofs.Common.{◌∙◌}
use Rattle.meaning.specs.Numbers.{slot_numbers}
use Rattle.slot_plan.specs.Plan.{clocked}
use Rattle.slot_steps.proofs.clock.Goals as goal

pub returns : goal.returns
unfolding clocked slot_numbers
returns c =
    let at-after2 = c in
    let at_after = at-after2 in
    c.record_with.ensures
    ∙ rw (at-after2.after-rotation.ensures, at_after.after-turn.ensures, at_after.wrapping_add_u32-t.ensures.value)
