-- `call_tally::step_of` meets its contract: a refusal, another connection's departure and a full tally add no cell; a departure of the
-- named connection has a space below N, and so an arrival slot.
use Rattle.std.proofs.Common.{ℕ, get_or, sym, refl, ap, ◌∙◌, arith, eq-eqb, ne_eqb}
use Rattle.meaning.specs.Bucket.{elapsed}
use Rattle.leaf_refusal.proofs.Numbers.{never_0, err_is}
use Rattle.call_tally.specs.Tally.{bin_of, most_cells}
use Rattle.call_tally.specs.Step.{step_to, step_in, step_of}
use Rattle.call_tally.proofs.Cases.{not_refused}
use Rattle.call_tally.proofs.step_of.Goals as goal

pub returns-in_err-refusal_of : goal.returns-in_err-refusal_of
unfolding step_of
returns-in_err-refusal_of c =
    let e = c.in_err-refusal_of.ensures in
    ap step_in (err_is _ _ c.from_residual.ensures.1) ∙ rw (sym e, ne_eqb _ 0 (never_0 c.in_err-refusal_of.field-0.0)) refl

pub returns-then-departing-connection : goal.returns-then-departing-connection
unfolding step_of
returns-then-departing-connection c = rw (sym c.in_ok-refusal_of.ensures, ne_eqb _ _ c.if-departing-connection.true) refl

pub returns-then-tally-eq-MOST_CELLS : goal.returns-then-tally-eq-MOST_CELLS
unfolding step_of most_cells
returns-then-tally-eq-MOST_CELLS c =
    rw (
      sym c.in_ok-refusal_of.ensures,
      eq-eqb _ _ c.if-departing-connection.false,
      eq-eqb _ _ c.if-tally-eq-MOST_CELLS.true,
    ) refl

pub bounds-arrived-from : goal.bounds-arrived-from
bounds-arrived-from c =
    let g = not_refused _ _ _ _ _ _ _ (sym c.in_ok-refusal_of.ensures) in
    omega (arith, c.from.ensures, g.long, g.space c.if-departing-connection.false)

pub returns : goal.returns
unfolding step_of most_cells
returns c =
    let a = c.args in
    let d = c.delay_of-delay.ensures ∙ ap (λ (i : ℕ). elapsed a.ctl.t (get_or a.arrived.now i 0)) c.from.ensures in
    rw (
      sym c.in_ok-refusal_of.ensures,
      eq-eqb _ _ c.if-departing-connection.false,
      ne_eqb _ _ c.if-tally-eq-MOST_CELLS.false,
    )
    (ap (λ (b : ℕ). step_to 0 b 1) (c.bin_of.ensures.0 ∙ ap bin_of d))
