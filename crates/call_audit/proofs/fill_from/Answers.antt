-- `call_audit::fill_from` judges a part of the records and fills the cells' budget: those below conn are done, at each turn.
use Prim.Native.Nat.{ℕ, ◌≤◌, ◌<◌}
use mathlib.Core.Path.{◌≡◌, sym, ◌∙◌}
use mathlib.Core.Bool.{true}
use native.Mathlib.Omega.{arith}
use lib.ListN.{length}
use borrow.Author.Count.{below_more}
use Rattle.meaning.specs.Words.{connection_at, connection_fits}
use Rattle.call_audit.proofs.WaitsLaws.{filled_turn, filled_none}
use Rattle.call_audit.proofs.fill_from.Goals as goal

pub loop-conn-init : goal.loop-conn-init
loop-conn-init c = ((λ j h g. absurd (omega arith)), λ k. filled_none _ _ _ k)

pub loop-conn-preserved : goal.loop-conn-preserved
loop-conn-preserved c =
    let a = c.loop-conn in
    let s = c.args in
    let low : a.conn < length a.waits = omega arith in
    let Fits : ℕ → Type 0 = λ j. s.from ≤ j → connection_fits s.n (connection_at s.words.now j) ≡ true in
    let fits = sym c.connection_fits.ensures ∙ c.if-not-connection_fits.false in (
      below_more Fits a.conn a.invariant.0 (λ _. fits),
      rw c.from.ensures (filled_turn _ _ _ a.waits _ _ a.auto.conn low c.waits_of.ensures a.invariant.1),
    )
