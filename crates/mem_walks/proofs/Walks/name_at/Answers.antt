-- `mem_walks::Walks::name_at` meets its contract: each return is one case of the header's VPI and VCI.
use Rattle.std.proofs.Common.{arith}
use Rattle.mem_walks.proofs.NameRead.{name_beyond, name_path, name_0, name_past, name_vc}
use Rattle.mem_walks.proofs.Walks.name_at.Goals as goal

pub returns-in-0-vci_at : goal.returns-in-0-vci_at
returns-in-0-vci_at c =
    let a = c.args in
    name_0 a.self.now.kind a.self.now.v a.self.now.cells.now a.x _ c.vpi_at.ensures.0 (omega (arith, c.in-0.is)) _ c.vci_at.ensures (omega (arith, c.in-0-vci_at.is))

pub returns-in_default-vci_at : goal.returns-in_default-vci_at
returns-in_default-vci_at c =
    let a = c.args in
    name_vc a.self.now.kind a.self.now.v a.self.now.cells.now a.x _ c.vpi_at.ensures.0 (omega (arith, c.in-0.is)) _ c.vci_at.ensures (omega arith) (omega (arith, c.from-v.ensures))

pub returns-in_default-2-vci_at : goal.returns-in_default-2-vci_at
returns-in_default-2-vci_at c =
    let a = c.args in
    name_past a.self.now.kind a.self.now.v a.self.now.cells.now a.x _ c.vpi_at.ensures.0 (omega (arith, c.in-0.is)) _ c.vci_at.ensures (omega arith) (omega (arith, c.from-v.ensures))

pub returns-in_default : goal.returns-in_default
returns-in_default c =
    let a = c.args in
    rw c.from-v.ensures (name_path a.self.now.kind a.self.now.v a.self.now.cells.now a.x _ c.vpi_at.ensures.0 (omega (arith, c.from.ensures)) (omega arith))

pub returns-in_default-2 : goal.returns-in_default-2
returns-in_default-2 c =
    let a = c.args in
    name_beyond a.self.now.kind a.self.now.v a.self.now.cells.now a.x _ c.vpi_at.ensures.0 (omega (arith, c.from.ensures))
