-- `call_slot::mended_slot` meets its contract: the slot after the check over the cell with its new header.
use mathlib.Core.Path.{ap, ◌∙◌}
use mathlib.Core.Bool.{false}
use mathlib.Core.List.{List, ◌++◌}
use Prim.Native.Nat.{ℕ}
use lib.ListN.{drop}
use Rattle.base_hec.specs.Modes.{detection}
use Rattle.base_hec.specs.Word.{octets_of}
use Rattle.meaning.specs.State.{state_of}
use Rattle.call_slot.specs.Back.{back_from}
use Rattle.call_slot.proofs.mended_slot.Goals as goal

pub returns : goal.returns
returns c =
    let a = c.args in
    c.slot_after.ensures
    ∙ ap (λ (l : List ℕ). back_from (state_of a.r a.cells.now a.links.now a.calendar.now a.words.now a.bits.now a.arrived.now) detection false l)
    (c.put_header.ensures ∙ ap (λ (l : List ℕ). octets_of a.head a.fifth ++ drop 5 l) c.copy_cell.ensures)
