-- `call_tally::tally_slot` meets its contract: what the step says is added to its bin and to the number, and neither wraps.
use Rattle.std.proofs.Common.{ℕ, get_or, sym, ap, ◌∙◌, subst, w64, Fits, rules}
use Rattle.leaf_refusal.specs.Refusals.{number_of}
use Rattle.call_tally.specs.Step.{Step}
use Rattle.call_tally.specs.declared.Tally.{Tally}
use Rattle.call_tally.specs.Tally.{tallied_of}
use Rattle.call_tally.proofs.Steps.{Stepped, stepped, stays_so, moved, moved_is, bin_fits, cells_fit}
use Rattle.call_tally.proofs.tally_slot.Goals as goal

pub add_to-requires : goal.add_to-requires
add_to-requires c =
    let a = c.args in
    let t = a.tally in
    let k = c.in-Ok-Some.bin in
    let e = rw c.in-Ok-Some.field-0-is at c.in-Ok-Some.ensures in
    let good = subst (λ (s : Step). Stepped t.bins t.cells s) (sym e) (stepped t a.ctl a.arrived.now a.connection a.space a.departing) in
    let b : Fits w64 (get_or t.bins k 0) = search rules in
    let n : Fits w64 t.cells = search rules in
    (good.in_bins, bin_fits t.bins t.cells k good.adds b.fits, cells_fit t.bins t.cells good.adds n.fits)

pub returns-in-Ok-Some : goal.returns-in-Ok-Some
returns-in-Ok-Some c =
    let a = c.args in
    let e = rw c.in-Ok-Some.field-0-is at c.in-Ok-Some.ensures in
    ap (λ (t : Tally). tallied_of 0 t) c.add_to.ensures
    ∙ ap (λ (s : Step). moved a.tally s) e
    ∙ moved_is a.tally a.ctl a.arrived.now a.connection a.space a.departing

pub returns-in-Ok-None : goal.returns-in-Ok-None
returns-in-Ok-None c =
    let a = c.args in
    let e = rw c.in-Ok-None.field-0-is at c.in-Ok-None.ensures in
    sym (stays_so a.tally 0)
    ∙ ap (λ (s : Step). moved a.tally s) e
    ∙ moved_is a.tally a.ctl a.arrived.now a.connection a.space a.departing

pub returns-in-Err : goal.returns-in-Err
returns-in-Err c =
    let a = c.args in
    let e = c.in-Err.ensures in
    ap (λ (k : ℕ). tallied_of k a.tally) c.from.ensures
    ∙ sym (stays_so a.tally (number_of c.in-Err.why))
    ∙ ap (λ (s : Step). moved a.tally s) e
    ∙ moved_is a.tally a.ctl a.arrived.now a.connection a.space a.departing
