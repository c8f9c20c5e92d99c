-- `mem_walks::Walks::vci_at` meets its contract: the three octets are those of `header_at`, for either kind of line.
use Rattle.std.proofs.Common.{◌≡◌, ◌∙◌, ◌+◌, ◌*◌, get_or}
use Rattle.mem_walks.proofs.NameRead.{vci_read}
use Rattle.mem_walks.proofs.Walks.vci_at.Goals as goal

pub returns : goal.returns
returns c =
    let a = c.args in
    let o2 : c.from-o2.result ≡ get_or a.self.now.cells.now (53 * a.x + 1) 0 = rw (← c.from-i.ensures) (c.from-o2.ensures ∙ c.at.ensures) in
    let o3 : c.from-o3.result ≡ get_or a.self.now.cells.now (53 * a.x + 2) 0 = rw (← c.from-i.ensures) (c.from-o3.ensures ∙ c.at-2.ensures) in
    let o4 : c.from-o4.result ≡ get_or a.self.now.cells.now (53 * a.x + 3) 0 = rw (← c.from-i.ensures) (c.from-o4.ensures ∙ c.at-3.ensures) in
    vci_read _ a.self.now.kind _ _ _ _ o2 o3 o4
