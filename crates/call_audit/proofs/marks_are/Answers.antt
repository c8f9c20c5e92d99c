-- `call_audit::marks_are` says yes exactly when the bit of each entry is right.
use Prim.Native.Nat.{ℕ}
use mathlib.Core.Path.{refl, sym, ◌∙◌}
use mathlib.Core.Bool.{Bool}
use native.Mathlib.Omega.{arith}
use Rattle.std.proofs.Common.{rules, tests}
use Rattle.std.proofs.lemmas.Iterator.{YieldsList-from_range}
use Rattle.std.proofs.lemmas.Iterator.Search.{all_from_yields_List}
use Rattle.meaning.specs.Bits.{is_marked}
use Rattle.call_audit.specs.Marks.{has_cell, agrees}
use Rattle.call_audit.proofs.MarkLaws.{agrees_same, same_agrees, all_pass, pass_all}
use Rattle.call_audit.proofs.marks_are.Goals as goal

pub returns : goal.returns
returns c =
    let a = c.args in
    let right : ℕ → Bool = λ e. agrees (is_marked a.bits.now e) (has_cell a.n a.calendar.now e) in
    let all = all_from_yields_List right _ _ c.all.result c.all.ensures.ran (YieldsList-from_range 0 1024 1024 refl refl) (λ x b q k. search (rules, tests)) in (
      (λ y e p. agrees_same (is_marked a.bits.now e) (has_cell a.n a.calendar.now e) (all_pass right 0 1024 (sym all ∙ y) e (omega arith) (omega arith))),
      λ f. all ∙ pass_all right 0 1024 (λ e p q. same_agrees (is_marked a.bits.now e) (has_cell a.n a.calendar.now e) (f e (omega arith))),
    )
