-- `call_tally::bin_at` meets its contract: 3, then 15; otherwise the share times the cells is at most 1,000 times their sum, and
-- fits 64 bits.
use Rattle.std.proofs.Common.{◌≡◌, ℕ, ◌*◌, ◌^◌, sym, refl, ap, ◌∙◌, mul-le-mul_right, arith}
use Rattle.leaf_refusal.proofs.Numbers.{held, not_held, err_is}
use Rattle.call_tally.specs.Tally.{most_cells, report_of, report_in, percentile_of, lowest}
use Rattle.call_tally.proofs.Cases.{fits_facts, share_facts}
use Rattle.call_tally.proofs.bin_at.Goals as goal

low : most_cells ≡ 2 ^ 32
unfolding most_cells
low = refl

pub returns-in_err-refuse_unless : goal.returns-in_err-refuse_unless
unfolding percentile_of
returns-in_err-refuse_unless c =
    let n = not_held _ _ _ c.in_err-refuse_unless.ensures in
    ap report_in (err_is _ _ c.from_residual.ensures.1)
    ∙ ap (λ (k : ℕ). report_of k 0) n.1
    ∙ rw (sym c.adds_up.ensures ∙ n.0) refl

pub returns-in_err-refuse_unless-2 : goal.returns-in_err-refuse_unless-2
unfolding percentile_of
returns-in_err-refuse_unless-2 c =
    let fits = sym c.adds_up.ensures ∙ held _ _ c.in_ok-refuse_unless.ensures in
    let n = not_held _ _ _ c.in_err-refuse_unless-2.ensures in
    ap report_in (err_is _ _ c.from_residual-in_err-refuse_unless-2.ensures.1)
    ∙ ap (λ (k : ℕ). report_of k 0) n.1
    ∙ rw (fits, sym c.share_fits.ensures ∙ n.0) refl

pub overflow_mul-need : goal.overflow_mul-need
overflow_mul-need c =
    let a = c.args in
    let t = a.tally.now in
    let f = fits_facts t.bins t.cells (sym c.adds_up.ensures ∙ held _ _ c.in_ok-refuse_unless.ensures) in
    let s = share_facts a.share t.cells (sym c.share_fits.ensures ∙ held _ _ c.in_ok-refuse_unless-2.ensures) in
    rw c.from.ensures (omega (arith, low, f.0, mul-le-mul_right t.cells s.1))

pub lowest_bin-requires : goal.lowest_bin-requires
lowest_bin-requires c =
    let a = c.args in
    let t = a.tally.now in
    let f = fits_facts t.bins t.cells (sym c.adds_up.ensures ∙ held _ _ c.in_ok-refuse_unless.ensures) in
    let s = share_facts a.share t.cells (sym c.share_fits.ensures ∙ held _ _ c.in_ok-refuse_unless-2.ensures) in
    (omega (arith, f.0, f.1), rw c.from.ensures (omega (arith, f.1, mul-le-mul_right t.cells s.1)))

pub returns : goal.returns
unfolding percentile_of
returns c =
    let t = c.args.tally.now in
    let fits = sym c.adds_up.ensures ∙ held _ _ c.in_ok-refuse_unless.ensures in
    let shared = sym c.share_fits.ensures ∙ held _ _ c.in_ok-refuse_unless-2.ensures in
    rw (fits, shared) (ap (λ (b : ℕ). report_of 0 b) c.lowest_bin.ensures ∙ ap (λ (k : ℕ). report_of 0 (lowest (k * t.cells) 0 t.bins)) c.from.ensures)
