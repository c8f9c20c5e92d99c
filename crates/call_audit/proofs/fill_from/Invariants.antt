-- `call_audit::fill_from` judges a part of the records and fills the cells' budget: those below conn are done, at each turn.
use Prim.Native.Nat.{ℕ, ◌≤◌, ◌<◌}
use mathlib.Core.Path.{◌≡◌}
use mathlib.Core.Bool.{true}
use lib.ListN.{get_or}
use Rattle.meaning.specs.Words.{connection_at, connection_fits}
use Rattle.call_audit.specs.Budgets.{filled_at}
use Rattle.call_audit.proofs.fill_from.Given as goal

abbrev pub invariant-loop-conn : goal.invariant-loop-conn
invariant-loop-conn l =
    ((j : ℕ) → j < l.conn → l.from ≤ j → connection_fits l.n (connection_at l.words j) ≡ true)
    × ((k : ℕ) → get_or l.waits k 0 ≡ filled_at l.words l.initial.waits l.from l.conn k)
