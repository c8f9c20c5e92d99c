-- `base_hec::check_cell` meets its contract: what `check` answers of the header's numbers holds of the octets.
use native.Mathlib.Omega.{arith}
use Rattle.base_hec.proofs.CellLaws.{answered}
use Rattle.base_hec.proofs.check_cell.Goals as goal

pub returns : goal.returns
returns c =
    let h = c.head_of in
    let w = answered c.args.cell.now (omega arith) (λ k. omega (arith, c.type_inv.cell k)) c.args.mode h.result c.check.result
    h.ensures c.check.ensures in
    record { numbers = w.0; octets = w.1 }
