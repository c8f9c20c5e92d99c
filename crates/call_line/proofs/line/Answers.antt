-- `call_line::line` meets its contract: it lends on what `line_part` places, which ends within its slice.
use native.Mathlib.Omega.{arith}
use Rattle.call_line.proofs.Shown.{idle_end, cells_end, end_most, idle_line, cells_line}
use borrow.Author.Rules.{rules}
use Rattle.call_line.proofs.line.Goals as goal

pub overflow_add-end : goal.overflow_add-end
overflow_add-end c =
    let a = c.args in
    omega (arith, end_most a.cells.now a.idle.now a.number _ c.line_part-p.ensures)

pub slice_bounds-result-end : goal.slice_bounds-result-end
slice_bounds-result-end c =
    let a = c.args in
    idle_end a.cells.now a.idle.now a.number _ c.line_part-p.ensures c.if-p-eq1.true

pub returns-then-p-eq1 : goal.returns-then-p-eq1
returns-then-p-eq1 c =
    let a = c.args in
    idle_line a.cells.now a.idle.now a.number _ c.line_part-p.ensures _ _ _ _
    c.if-p-eq1.true
    (search rules)
    (search rules)
    (search rules)

pub slice_bounds-result-end-else-p-eq1 : goal.slice_bounds-result-end-else-p-eq1
slice_bounds-result-end-else-p-eq1 c =
    let a = c.args in
    cells_end a.cells.now a.idle.now a.number _ c.line_part-p.ensures c.if-p-eq1.false

pub returns-else-p-eq1 : goal.returns-else-p-eq1
returns-else-p-eq1 c =
    let a = c.args in
    cells_line a.cells.now a.idle.now a.number _ c.line_part-p.ensures _ _ _ _
    c.if-p-eq1.false
    (search rules)
    (search rules)
    (search rules)
