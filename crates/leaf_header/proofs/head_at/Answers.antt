-- `leaf_header::head_at` meets its contract: the four octets it reads make the number, and VPI and VCI can be told from it.
use Rattle.std.proofs.Common.{◌≡◌, ◌+◌, arith}
use Rattle.leaf_header.specs.Name.{word_at}
use Rattle.leaf_header.proofs.NameLaws.{word_names, word_reads}
use Rattle.leaf_header.proofs.head_at.Goals as goal

pub returns : goal.returns
unfolding word_at
returns c =
    let l = c.args.s.now in
    let i = c.args.at in
    let t = c.type_inv.s in
    let e : c.from_be_bytes.result ≡ word_at l i = omega (arith, c.from_be_bytes.ensures) in
    record { is = e; names = word_names l i (omega (arith, t i)) (omega (arith, t (i + 1))) (omega (arith, t (i + 2))) (omega (arith, t (i + 3))) _ e; reads = word_reads l i (omega (arith, t i)) (omega (arith, t (i + 1))) (omega (arith, t (i + 2))) (omega (arith, t (i + 3))) _ e }
