-- `mem_bits::release` meets its contract: a mark that is cleared leaves the bit of the space as it was.
use Prim.Native.Nat.{ℕ}
use mathlib.Core.Path.{◌∙◌, ap}
use mathlib.Core.List.{List}
use native.Mathlib.Omega.{arith}
use Rattle.meaning.specs.Bits.{is_free_space}
use Rattle.meaning.proofs.MarksLaws.{unmarked_free}
use Rattle.mem_bits.proofs.release.Goals as goal
use Rattle.mem_bits.proofs.release.Goals.{then-on, else-on}

pub give-requires : goal.give-requires
give-requires c =
    let a = c.args in
    let space = λ (l : List ℕ). is_free_space l a.x in (
      c.requires.0,
      omega arith,
      elim c.if-on.branch [
        | then-on w ↦ ap space (w.bits-is ∙ w.unmark.ensures) ∙ unmarked_free a.bits.now a.e a.x ∙ c.requires.2
        | else-on w ↦ ap space w.bits-is ∙ c.requires.2
      ],
    )
