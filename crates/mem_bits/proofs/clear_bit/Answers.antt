-- `mem_bits::clear_bit` meets its contract: the bit that the OR has set is taken off, which leaves the word without it.
use Prim.Native.Nat.{ℕ, ◌-◌, ◌/◌, ◌%◌, ◌^◌, ◌≤◌}
use mathlib.Core.Path.{sym, ap, subst, ◌∙◌}
use native.Mathlib.Omega.{arith}
use lib.Bits.{bit_or}
use lib.ListN.{get_or, set}
use Rattle.mem_bits.proofs.BitLaws.{clear_by}
use Rattle.std.proofs.lemmas.Nat.{le_or_r}
use Rattle.mem_bits.proofs.OrLaws.{one_shl}
use Rattle.mem_bits.proofs.clear_bit.Goals as goal

pub overflow_sub-bits : goal.overflow_sub-bits
overflow_sub-bits c =
    let k = c.args.k in
    let word = get_or c.args.bits.now c.from-w.result 0 in
    subst (λ (p : ℕ). p ≤ bit_or word p) (sym (one_shl (k % 64) (omega arith))) (le_or_r word (2 ^ (k % 64)))

pub returns : goal.returns
returns c =
    let bits = c.args.bits.now in
    let k = c.args.k in
    rw c.from-w.ensures
    (ap (λ (p : ℕ). set bits (k / 64) (bit_or (get_or bits (k / 64) 0) p - p)) (one_shl (k % 64) (omega arith)) ∙ clear_by bits k)
