-- `burst_likely::store` meets its contract: seven writes, a slice at a time, from what was found of the cell.
use native.Mathlib.Omega.{arith}
use mathlib.Core.Path.{refl, ◌∙◌, ap}
use Rattle.slot_arrive.specs.Arrival.{filled}
use Rattle.burst_way.specs.Way.{slot_record}
use Rattle.burst_likely.proofs.StoreLaws.{head_read, entry_low, head_most, entry_writes}
use Rattle.burst_likely.proofs.store.Goals as goal

pub overflow_cast-p-2 : goal.overflow_cast-p-2
overflow_cast-p-2 c =
    let a = c.args in
    let pre = c.requires in
    omega (arith, head_most (slot_record a.w) a.j a.calendar.now a.words.now a.bits.now _ a.p pre.spotted_in pre.ready_in.sized.n_high)

pub overflow_cast-p-4 : goal.overflow_cast-p-4
overflow_cast-p-4 c =
    let a = c.args in
    let pre = c.requires in
    let sized = pre.ready_in.sized in
    omega (arith, entry_low (slot_record a.w) a.j a.calendar.now a.words.now a.bits.now _ a.p pre.spotted_in sized.turn_low, sized.n_high)

pub put_entry-requires : goal.put_entry-requires
put_entry-requires c =
    let a = c.args in
    let pre = c.requires in
    let sized = pre.ready_in.sized in
    let spotted = pre.spotted_in in
    (omega (arith, entry_low (slot_record a.w) a.j a.calendar.now a.words.now a.bits.now _ a.p spotted sized.turn_low, sized.calendar_long), omega (arith, spotted.seats.x_low, sized.n_high), head_read (slot_record a.w) a.j a.calendar.now a.words.now a.bits.now _ a.p spotted)

pub occupy-requires : goal.occupy-requires
occupy-requires c =
    let a = c.args in
    let pre = c.requires in
    let sized = pre.ready_in.sized in
    let spotted = pre.spotted_in in (
      sized.bits_long,
      spotted.seats.is_free,
      omega (arith, entry_low (slot_record a.w) a.j a.calendar.now a.words.now a.bits.now _ a.p spotted sized.turn_low, sized.n_high),
    )

pub returns : goal.returns
returns c =
    let a = c.args in
    let pre = c.requires in
    let sized = pre.ready_in.sized in
    let spotted = pre.spotted_in in
    record {
      cells = c.put_cell.ensures;
      links = c.put_link.ensures;
      calendar = entry_writes (slot_record a.w) a.j a.calendar.now a.words.now a.bits.now _ a.p spotted _ c.put_entry.ensures;
      words = c.put_fill.ensures
          ∙ ap (filled a.j.vci a.j.s a.j.second a.w.t a.j.waiting) c.words_turned.ensures;
      bits = c.occupy.ensures;
      arrived = refl;
    }
