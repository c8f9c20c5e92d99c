-- `mem_bits::fits` meets its contract: an N of 1,024 cuts no word.
use Prim.Native.Nat.{ℕ}
use mathlib.Core.Path.{sym, ap, ◌∙◌}
use native.Mathlib.Omega.{arith}
use Rattle.meaning.specs.Plain.{◌=?◌}
use Rattle.mem_bits.proofs.FitLaws.{fits_all, ones_first, ones_few}
use Rattle.mem_bits.proofs.fits.Goals as goal

pub ones_in-requires : goal.ones_in-requires
ones_in-requires c = ones_few c.args.bits.now c.requires.1 (λ w. (c.type_inv.bits w).fits) 16 (omega arith)

pub returns-in-16 : goal.returns-in-16
returns-in-16 c =
    let a = c.args in
    let bits = a.bits.now in
    rw c.from-in-16.ensures
    (ap (λ (o : ℕ). o =? a.free) (c.ones_in.ensures ∙ ones_first bits c.requires.1 16 (omega arith))
    ∙ sym (fits_all a.n a.free bits 16 (sym c.from.ensures ∙ c.in-16.is) (λ w. (c.type_inv.bits w).fits) c.requires.0 (omega arith)))
