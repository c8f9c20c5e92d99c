-- `mem_walks::Walks::vpi_at` meets its contract: the two octets are those of `header_at`, by the kind of line.
use Rattle.std.proofs.Common.{◌≡◌, ◌∙◌, ◌+◌, ◌*◌, get_or, arith}
use Rattle.mem_walks.proofs.NameRead.{vpi_uni, vpi_nni}
use Rattle.mem_walks.proofs.Walks.vpi_at.Goals as goal

pub returns-then-self-eq0 : goal.returns-then-self-eq0
returns-then-self-eq0 c =
    let a = c.args in
    let o1 : c.from-o1.result ≡ get_or a.self.now.cells.now (53 * a.x) 0 = rw (← c.from-i.ensures) (c.from-o1.ensures ∙ c.at.ensures) in
    let o2 : c.from-o2.result ≡ get_or a.self.now.cells.now (53 * a.x + 1) 0 = rw (← c.from-i.ensures) (c.from-o2.ensures ∙ c.at-2.ensures) in
    (vpi_uni _ _ _ _ _ o1 o2 c.if-self-eq0.true, omega (arith, c.from-o1.ensures, c.from-o2.ensures, c.at.type_inv, c.at-2.type_inv))

pub returns-else-self-eq0 : goal.returns-else-self-eq0
returns-else-self-eq0 c =
    let a = c.args in
    let o1 : c.from-o1.result ≡ get_or a.self.now.cells.now (53 * a.x) 0 = rw (← c.from-i.ensures) (c.from-o1.ensures ∙ c.at.ensures) in
    let o2 : c.from-o2.result ≡ get_or a.self.now.cells.now (53 * a.x + 1) 0 = rw (← c.from-i.ensures) (c.from-o2.ensures ∙ c.at-2.ensures) in
    (vpi_nni _ _ _ _ _ o1 o2 c.if-self-eq0.false, omega (arith, c.from-o1.ensures, c.from-o2.ensures, c.at.type_inv, c.at-2.type_inv))
