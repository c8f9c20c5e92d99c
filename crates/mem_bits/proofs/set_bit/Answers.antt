-- `mem_bits::set_bit` meets its contract: the OR with a bit that is set changes nothing, and with one that is clear adds it.
use Prim.Native.Nat.{ℕ, ◌/◌, ◌%◌}
use mathlib.Core.Path.{ap, ◌∙◌}
use native.Mathlib.Omega.{arith}
use lib.Bits.{bit_or}
use lib.ListN.{get_or, set}
use Rattle.mem_bits.proofs.BitLaws.{set_by}
use Rattle.mem_bits.proofs.OrLaws.{one_shl}
use Rattle.mem_bits.proofs.set_bit.Goals as goal

pub returns : goal.returns
returns c =
    let bits = c.args.bits.now in
    let k = c.args.k in
    rw c.from.ensures
    (ap (λ (p : ℕ). set bits (k / 64) (bit_or (get_or bits (k / 64) 0) p)) (one_shl (k % 64) (omega arith)) ∙ set_by bits k)
