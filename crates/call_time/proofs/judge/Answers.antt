-- `call_time::judge` meets its contract: too early, or in time; how early it is comes back from the bits that hold it.
use Prim.Native.Nat.{ℕ, ◌+◌}
use mathlib.Core.Path.{sym, ap, ◌∙◌}
use mathlib.Core.Bool.{true}
use native.Mathlib.Omega.{arith}
use lib.IntN.{ℤ, sub_ℕ}
use Rattle.call_time.specs.declared.Tat.{Tat}
use Rattle.call_time.specs.Schedule.{tat_of, timed_of}
use Rattle.call_time.proofs.Cases.{back, too_early, in_time}
use Rattle.call_time.proofs.judge.Goals as goal

pub returns-then-before-tolerance : goal.returns-then-before-tolerance
returns-then-before-tolerance c =
    let a = c.args in
    let p = c.requires in
    let due = c.max-due.ensures in
    ap (λ (z : ℤ). timed_of 0 2 z 0 c.state_of-stays.result)
    (back _ a.state.tat a.now c.early_by-early.ensures p.2 p.1)
    ∙ ap (λ (s : Tat). timed_of 0 2 (sub_ℕ a.state.tat a.now) 0 s) c.state_of-stays.ensures
    ∙ sym (too_early a.f a.c a.arrival a.now a.state.tat (omega (arith, due, c.if-before-tolerance.true)))

pub returns : goal.returns
returns c =
    let a = c.args in
    let p = c.requires in
    let due = c.max-due.ensures in
    ap (λ (z : ℤ). timed_of 0 1 z c.max-due.result c.state_of-moves.result)
    (back _ a.state.tat a.now c.early_by-early.ensures p.2 p.1)
    ∙ ap (λ (s : Tat). timed_of 0 1 (sub_ℕ a.state.tat a.now) c.max-due.result s)
    c.state_of-moves.ensures
    ∙ ap (λ (k : ℕ). timed_of 0 1 (sub_ℕ a.state.tat a.now) c.max-due.result (tat_of (c.max-due.result + k) a.arrival true)) c.from.ensures
    ∙ ap (λ (d : ℕ). timed_of 0 1 (sub_ℕ a.state.tat a.now) d (tat_of (d + a.f) a.arrival true)) due
    ∙ sym (in_time a.f a.c a.arrival a.now a.state.tat (omega (arith, due, c.if-before-tolerance.false)))
