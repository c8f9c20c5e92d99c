-- `text_record::put`: octets that fit are put, others are not.
use Rattle.std.proofs.Common.{arith}
use Rattle.text_record.proofs.Cases.{too_short, written}
use Rattle.text_record.proofs.put.Goals.{then-out-octets-via-then-out-octets, then-out-octets-via-else-out-octets+then-out-octets-2}
use Rattle.text_record.proofs.put.Goals as goal

pub returns-then-out-octets : goal.returns-then-out-octets
returns-then-out-octets c =
    let a = c.args in
    λ g e h. too_short a.out.now a.at g e h (elim c.then-out-octets.branch [
      | then-out-octets-via-then-out-octets w ↦ omega arith
      | then-out-octets-via-else-out-octets+then-out-octets-2 w ↦ omega arith
    ])

pub returns : goal.returns
returns c = let a = c.args in λ g e h. written a.out.now a.at g e h (omega arith) c.text.ensures
