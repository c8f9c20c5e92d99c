-- `call_line::line_part` meets its contract: each return is a case of the part to show.
use mathlib.Core.Path.{sym, ◌∙◌, ap}
use Prim.Native.Nat.{ℕ}
use native.Mathlib.Omega.{arith}
use Rattle.call_line.specs.Placed.{place_of}
use Rattle.call_line.proofs.Cases.{by_rest, by_few, by_many, by_idle, by_space, by_number, by_nothing, space_part}
use Rattle.call_line.proofs.line_part.Goals as goal
use Rattle.call_line.proofs.line_part.Goals.{then-cells-ne0-via-then-cells-ne0, then-cells-ne0-via-else-cells-ne0+then-n-lt1, then-cells-ne0-via-else-cells-ne0+else-n-lt1+then-n-gt1024, then-cells-ne0-via-else-cells-ne0+else-n-lt1+else-n-gt1024+then-idle-ne53}

pub returns-then-cells-ne0 : goal.returns-then-cells-ne0
returns-then-cells-ne0 c =
    let a = c.args in
    c.nowhere.ensures
    ∙ ap place_of (sym (elim c.then-cells-ne0.branch [
      | then-cells-ne0-via-then-cells-ne0 w ↦ by_rest a.cells a.idle a.number w.if-cells-ne0.true
      | then-cells-ne0-via-else-cells-ne0+then-n-lt1 w ↦ by_few a.cells a.idle a.number w.if-cells-ne0.false w.if-n-lt1.true
      | then-cells-ne0-via-else-cells-ne0+else-n-lt1+then-n-gt1024 w ↦
          by_many a.cells a.idle a.number w.if-cells-ne0.false w.if-n-lt1.false w.if-n-gt1024.true
      | then-cells-ne0-via-else-cells-ne0+else-n-lt1+else-n-gt1024+then-idle-ne53 w ↦
          by_idle a.cells a.idle a.number w.if-cells-ne0.false w.if-n-lt1.false w.if-n-gt1024.false w.if-idle-ne53.true
    ]))

pub returns-then-space-n : goal.returns-then-space-n
returns-then-space-n c =
    let a = c.args in
    ap (λ (x : ℕ). place_of (space_part x)) c.from-space.ensures
    ∙ ap place_of (sym (by_space a.cells a.idle a.number (omega arith) (omega arith) (omega arith) (omega arith) (omega (arith, c.from-space.ensures))))

pub returns-then-number-eq65535 : goal.returns-then-number-eq65535
returns-then-number-eq65535 c =
    let a = c.args in
    ap place_of (sym (by_nothing a.cells a.idle a.number (omega arith) (omega arith) (omega arith) (omega arith) (omega (arith, c.from-space.ensures)) c.if-number-eq65535.true))

pub returns : goal.returns
returns c =
    let a = c.args in
    c.nowhere-2.ensures
    ∙ ap place_of (sym (by_number a.cells a.idle a.number (omega arith) (omega arith) (omega arith) (omega arith) (omega (arith, c.from-space.ensures)) c.if-number-eq65535.false))
