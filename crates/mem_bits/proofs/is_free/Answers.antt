-- `mem_bits::is_free` meets its contract: a space below 1,024 is free where its bit is set.
use mathlib.Core.Path.{sym, ap, ◌∙◌}
use mathlib.Core.Bool.{Bool, ◌&&◌}
use borrow.Author.Tests.{lt-ltb}
use Rattle.meaning.specs.Numbers.{most_n}
use Rattle.meaning.specs.Bits.{is_set, is_free_space}
use Rattle.mem_bits.proofs.is_free.Goals as goal

pub returns : goal.returns
unfolding is_free_space
returns c =
    let a = c.args in
    c.is_set.ensures ∙ sym (ap (λ (b : Bool). b && is_set a.bits.now a.x) (lt-ltb a.x most_n c.requires.0))
