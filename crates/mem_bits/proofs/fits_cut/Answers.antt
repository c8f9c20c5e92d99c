-- `mem_bits::fits_cut` meets its contract: at each return by the law of the words that N reaches.
use Prim.Native.Nat.{ℕ, ◌+◌, ◌/◌, ◌%◌, ◌^◌}
use mathlib.Core.Path.{sym, ap, ◌∙◌}
use mathlib.Core.Bool.{true≢false}
use native.Mathlib.Omega.{arith}
use borrow.Author.Tests.{eqb-true}
use lib.Count.{ones, ones-le}
use lib.ListN.{get_or}
use Rattle.meaning.specs.Plain.{◌=?◌}
use Rattle.mem_bits.proofs.FitLaws.{cut_high, rest_high, fits_cut, nothing_in, all_in, ones_first, ones_few}
use Rattle.mem_bits.proofs.fits_cut.Goals as goal
use Rattle.mem_bits.proofs.fits_cut.Goals.{then-cut-n-eq0, else-cut-n-eq0}

pub ones_in-requires : goal.ones_in-requires
ones_in-requires c = ones_few c.args.bits.now c.requires.2 (λ w. (c.type_inv.bits w).fits) c.args.whole (omega arith)

pub overflow_add-result : goal.overflow_add-result
overflow_add-result c =
    let bits = c.args.bits.now in
    record {
      fits = omega (
        arith,
        ones_few bits c.requires.2 (λ w. (c.type_inv.bits w).fits) c.args.whole (omega arith),
        c.ones_in.ensures,
        ones-le 64 (get_or bits c.args.whole 0) (c.type_inv.bits c.args.whole).fits,
      );
    }

pub returns-then-none_in : goal.returns-then-none_in
returns-then-none_in c =
    let a = c.args in
    let bits = a.bits.now in
    let pre = c.requires in
    elim c.if-cut-n-eq0.branch [
      | then-cut-n-eq0 w ↦
          rw c.from.ensures
          (ap (λ (o : ℕ). o + ones (get_or bits a.whole 0) =? a.free) (c.ones_in.ensures ∙ ones_first bits pre.2 a.whole (omega arith))
          ∙ sym (fits_cut a.n a.free bits a.whole pre.0 (λ i. (c.type_inv.bits i).fits) (omega arith) pre.1 w.if-cut-n-eq0.true
          (nothing_in bits pre.2 (a.whole + 1) (w.none_in.ensures.0 (sym w.value-is ∙ c.if-none_in.true)))))
      | else-cut-n-eq0 w ↦ absurd (w.if-cut-n-eq0.false (eqb-true (get_or bits a.whole 0 / 2 ^ (a.n % 64)) 0 (sym w.value-is ∙ c.if-none_in.true)))
    ]

pub returns-else-none_in : goal.returns-else-none_in
returns-else-none_in c =
    let a = c.args in
    let bits = a.bits.now in
    let pre = c.requires in
    c.if-none_in.false
    ∙ sym (elim c.if-cut-n-eq0.branch [
      | then-cut-n-eq0 w ↦
          rest_high a.n a.free bits a.whole pre.0
          (λ f. true≢false (sym (w.none_in.ensures.1 (all_in bits pre.2 (a.whole + 1) f)) ∙ sym w.value-is ∙ c.if-none_in.false))
      | else-cut-n-eq0 w ↦ cut_high a.n a.free bits a.whole pre.0 pre.1 w.if-cut-n-eq0.false
    ])
