-- `call_tallied::one_slot` meets its contract: the burst of one slot, put back into the whole, is that slot.
use Prim.Native.Nat.{◌+◌, ◌^◌, ◌<◌}
use native.Mathlib.Omega.{arith}
use Rattle.meaning.specs.State.{State, state_of}
use Rattle.call_tallied.proofs.OneSlot.{turned, one_most}
use borrow.Author.Rules.{rules}
use Rattle.call_tallied.proofs.one_slot.Goals as goal

pub overflow_add-result : goal.overflow_add-result
overflow_add-result c =
    let a = c.args in
    let stood : State = state_of c.args.ctl c.args.cells.now c.args.links.now c.args.calendar.now c.args.words.now c.args.bits.now c.args.arrived.now in
    let h = one_most stood a.arrivals.now a.sizes.now a.departures.now a.answers.now a.i c.requires.shaped c.requires.slot_lent c.requires.i_in_bounds _ _ _ _ _ c.burst-one.ensures in
    let f : a.i + 1 < 2 ^ 64 = (let g = c.well_formed in let h = c.requires.i_in_bounds in search rules) in
    omega (arith, h, f)

pub returns : goal.returns
returns c =
    let a = c.args in
    let stood : State = state_of c.args.ctl c.args.cells.now c.args.links.now c.args.calendar.now c.args.words.now c.args.bits.now c.args.arrived.now in
    turned stood a.arrivals.now a.sizes.now a.departures.now a.answers.now a.i c.requires.shaped c.requires.slot_lent c.requires.i_in_bounds _ _ _ _ _ c.burst-one.ensures
