-- `mem_marks::next_mark` meets its contract: the entries after T are looked at first, then those before it.
use Rattle.std.proofs.Common.{unwrap_or, Option, ℕ, ap, ◌∙◌}
use Rattle.mem_marks.proofs.RingLaws.{near_is, round_is, none_is}
use Rattle.mem_marks.proofs.next_mark.Goals as goal

pub returns-in-Some-clause-is : goal.returns-in-Some-clause-is
returns-in-Some-clause-is c = let a = c.args in near_is a.n a.turn a.bits.now c.requires.0 c.in-Some.e c.in-Some.ensures

pub returns-in_err-f-clause-is : goal.returns-in_err-f-clause-is
returns-in_err-f-clause-is c =
    let a = c.args in
    ap (λ (o : Option ℕ). unwrap_or o 0) c.from_residual.ensures
    ∙ none_is a.n a.turn a.bits.now c.requires.0 c.in_default.ensures c.in_err-f.ensures

pub returns-clause-is : goal.returns-clause-is
returns-clause-is c = let a = c.args in round_is a.n a.turn a.bits.now c.requires.0 c.in_default.ensures c.in_ok-f.f c.in_ok-f.ensures
