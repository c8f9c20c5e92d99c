-- `mem_bits::occupy` meets its contract: the bit of the space is cleared, then that of the entry set.
use Prim.Native.Nat.{ℕ}
use mathlib.Core.Path.{◌∙◌, ap}
use mathlib.Core.List.{List}
use Rattle.meaning.specs.Bits.{marked}
use Rattle.mem_bits.proofs.occupy.Goals as goal

pub returns : goal.returns
returns c =
    let at_mark = c.before in
    let at_take = at_mark.before in
    let e = at_take.args.e in
    at_mark.mark.ensures ∙ ap (λ (l : List ℕ). marked l e) at_take.take.ensures
