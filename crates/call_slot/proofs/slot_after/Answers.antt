-- `call_slot::slot_after` meets its contract: the slot without the check, in the mode that the check leads to, and back.
use mathlib.Core.Path.{ap, ◌∙◌}
use mathlib.Core.List.{[]}
use Prim.Native.Nat.{ℕ}
use Rattle.meaning.specs.State.{record_in_mode}
use Rattle.call_slot.specs.Back.{mode_after, is_dropped}
use Rattle.call_slot.proofs.Front.{backed}
use Rattle.call_slot.proofs.slot_after.Goals as goal

pub returns : goal.returns
returns c =
    let s = c.slot-s in
    let a = c.args in
    backed a.r _ (mode_after a.c) (is_dropped a.c) _ s.result a.cells.now a.links.now a.calendar.now a.words.now a.bits.now a.arrived.now a.cell.now _ _ _ _ _ _
    (c.record_in_mode-k.ensures ∙ ap (λ (m : ℕ). record_in_mode a.r m) (c.mode.ensures [])) c.back_to.ensures s.ensures
