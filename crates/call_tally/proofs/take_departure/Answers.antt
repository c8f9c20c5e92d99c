-- `call_tally::take_departure` meets its contract: another connection's departure, one from no space and a full tally change nothing;
-- else there is one cell more in its bin.
use Rattle.std.proofs.Common.{ℕ, ◌+◌, ◌^◌, ◌<◌, length, get_or, sym, ap, ◌∙◌, arith, w64, Fits, rules, eqb-true}
use Rattle.meaning.specs.Bucket.{elapsed}
use Rattle.call_tally.specs.Tally.{tally_of, most_cells, bin_of, one_more}
use Rattle.call_tally.proofs.Cases.{fits_facts}
use Rattle.call_tally.proofs.Sums.{at_most_sum}
use Rattle.call_tally.proofs.Steps.{one, bin_fits, cells_fit}
use Rattle.call_tally.proofs.Standing.{stands, takes_other, takes_far, takes_full, takes_one}
use Rattle.call_tally.proofs.take_departure.Goals as goal

pub returns-then-departing-connection : goal.returns-then-departing-connection
returns-then-departing-connection c =
    let a = c.args in
    sym (takes_other a.tally.now a.ctl a.arrived.now a.connection a.space a.departing (stands _ _ _ _ _ c.requires) c.if-departing-connection.true)

pub returns-then-space-ctl : goal.returns-then-space-ctl
returns-then-space-ctl c =
    let a = c.args in
    sym (takes_far a.tally.now a.ctl a.arrived.now a.connection a.space a.departing (stands _ _ _ _ _ c.requires) c.if-departing-connection.false c.if-space-ctl.true)

pub returns-then-tally-eq-MOST_CELLS : goal.returns-then-tally-eq-MOST_CELLS
unfolding most_cells
returns-then-tally-eq-MOST_CELLS c =
    let a = c.args in
    sym (takes_full a.tally.now a.ctl a.arrived.now a.connection a.space a.departing (stands _ _ _ _ _ c.requires) c.if-departing-connection.false c.if-space-ctl.false c.if-tally-eq-MOST_CELLS.true)

pub bounds-arrived-from : goal.bounds-arrived-from
bounds-arrived-from c =
    let a = c.args in
    let g = stands a.tally.now.bins a.tally.now.cells a.ctl (length a.arrived.now) a.connection c.requires in
    omega (arith, c.from.ensures, eqb-true (length a.arrived.now) a.ctl.n g.long, c.if-space-ctl.false)

pub add_to-requires : goal.add_to-requires
unfolding most_cells
add_to-requires c =
    let a = c.args in
    let t = a.tally.now in
    let k = c.bin_of.result in
    let g = stands t.bins t.cells a.ctl (length a.arrived.now) a.connection c.requires in
    let more = one g.fits c.if-tally-eq-MOST_CELLS.false in
    let f = fits_facts t.bins t.cells g.fits in
    let b : get_or t.bins k 0 < 2 ^ 64 = omega (arith, f.0, f.1, at_most_sum t.bins k) in
    let n : Fits w64 t.cells = search rules in
    (c.bin_of.ensures.1, bin_fits t.bins t.cells k more b, cells_fit t.bins t.cells more n.fits)

pub returns : goal.returns
unfolding most_cells
returns c =
    let a = c.args in
    let t = a.tally.now in
    let g = stands t.bins t.cells a.ctl (length a.arrived.now) a.connection c.requires in
    let d = c.delay_of-delay.ensures ∙ ap (λ (i : ℕ). elapsed a.ctl.t (get_or a.arrived.now i 0)) c.from.ensures in
    c.add_to.ensures
    ∙ ap (λ (b : ℕ). tally_of (one_more t.bins b) (t.cells + 1)) (c.bin_of.ensures.0 ∙ ap bin_of d)
    ∙ sym (takes_one t a.ctl a.arrived.now a.connection a.space a.departing g c.if-departing-connection.false c.if-space-ctl.false c.if-tally-eq-MOST_CELLS.false)
