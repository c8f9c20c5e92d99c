-- `base_hec::check_of` meets its contract: its shifts give the remainder, and the coset is added.
use mathlib.Core.Path.{ap, ◌∙◌}
use Prim.Native.Nat.{ℕ, ◌*◌, ◌^◌}
use native.Mathlib.Omega.{arith}
use lib.Bits.{bit_xor}
use Rattle.base_hec.specs.Check.{coset, remainder, check_of}
use Rattle.base_hec.proofs.ByShifts.{by_shifts_lem}
use Rattle.base_hec.proofs.check_of.Goals as goal

pub returns : goal.returns
unfolding check_of
returns c =
    ap (λ (x : ℕ). bit_xor x coset)
    (by_shifts_lem c.from-w.result (omega (arith, c.from-w.ensures)) ∙ ap (λ (x : ℕ). remainder 32 (x * 2 ^ 8)) c.from-w.ensures)
