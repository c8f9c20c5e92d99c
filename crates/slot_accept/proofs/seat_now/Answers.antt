-- `slot_accept::seat_now` meets its contract: none is free, the words do not fit, or the lowest free space is taken.
use mathlib.Core.Path.{sym, ◌∙◌}
use Rattle.slot_accept.proofs.SeatLaws.{none_free, unfit_spaces, takes_lowest}
use Rattle.slot_accept.proofs.seat_now.Goals as goal

pub returns-then-fits : goal.returns-then-fits
returns-then-fits c =
    let a = c.args in
    c.seat_for.ensures
    ∙ takes_lowest a.k a.d a.calendar.now a.bits.now _ c.if-k-ne0.true
    (sym c.fits.ensures ∙ c.if-fits.true) c.lowest-x.ensures

pub returns-else-fits : goal.returns-else-fits
returns-else-fits c =
    let a = c.args in
    unfit_spaces a.k a.d a.calendar.now a.bits.now (sym c.fits.ensures ∙ c.if-fits.false)

pub returns-else-k-ne0 : goal.returns-else-k-ne0
returns-else-k-ne0 c =
    let a = c.args in
    none_free a.k a.d a.calendar.now a.bits.now c.if-k-ne0.false
