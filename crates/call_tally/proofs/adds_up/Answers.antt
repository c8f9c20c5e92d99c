-- `call_tally::adds_up` meets its contract: where no bin has more than 33 bits the sum is right, and where one has, it is above
-- 2^32.
use Rattle.std.proofs.Common.{ℕ, ◌+◌, ◌/◌, ◌^◌, not, sym, ap, ◌∙◌}
use Rattle.meaning.specs.Plain.{◌=?◌}
use Rattle.call_tally.specs.Tally.{most_cells}
use Rattle.call_tally.proofs.Cases.{fits_over, byte_is, judged}
use Rattle.call_tally.proofs.adds_up.Goals as goal

pub returns-then-tally-gt-MOST_CELLS : goal.returns-then-tally-gt-MOST_CELLS
unfolding most_cells
returns-then-tally-gt-MOST_CELLS c = let t = c.args.tally.now in sym (fits_over t.bins t.cells c.if-tally-gt-MOST_CELLS.true)

pub returns : goal.returns
unfolding most_cells
returns c =
    let t = c.args.tally.now in
    let s = c.add_all-sum in
    ap (λ (x : ℕ). s.result.1 / 2 ^ 33 + x =? 0) (c.from.ensures ∙ byte_is (not (s.result.0 =? t.cells)))
    ∙ judged t.bins t.cells s.result.0 s.result.1 c.if-tally-gt-MOST_CELLS.false
    (record { wraps = s.ensures.0; covers = s.ensures.1; within = s.ensures.2 })
