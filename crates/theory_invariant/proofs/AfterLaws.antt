-- What a cell that is let in changes for the cells already queued: their connection's opening has moved on, and they keep their place
-- under it.
use Prim.Native.Nat.{ℕ, ◌+◌, ◌≤◌}
use mathlib.Core.Path.{◌≡◌}
use mathlib.Core.Logic.{◌≢◌}
use mathlib.Core.Bool.{true}
use mathlib.Core.List.{List}
use mathlib.Core.Option.{Option, none, some}
use native.Mathlib.Decide.{ℕ_discrete}
use native.Mathlib.Omega.{arith}
use borrow.Author.Tests.{eq-eqb, ne_eqb}
use Rattle.meaning.specs.Numbers.{lets_in}
use Rattle.meaning_runs.specs.Leak.{Opening, after_cell}
use Rattle.meaning_runs.specs.Seen.{Cell}
use Rattle.theory_queues.specs.Queue.{sum, sums, one}
use Rattle.theory_queues.proofs.QueueLaws.{sum_le, sums_le}
use Rattle.theory_chains.proofs.CountLaws.{is_le}
use Rattle.theory_table.proofs.LeakLaws.{due_time_lem}
use Rattle.theory_memory.specs.Held.{Queued, vci_of}
use Rattle.theory_invariant.specs.Invariant.{is_of, waits, Under, Sits}
use Rattle.theory_invariant.specs.Came.{after}

-- a queued cell's place under its connection's opening, once a further cell is let in
under_moved : (now clp verdict : ℕ) (o : Option Opening) (c : Cell) → Under o c → Under (after_cell now clp verdict o) c
under_moved now clp verdict none c u = u
under_moved now clp verdict (some o) c u = (u.0, omega (arith, u.1, due_time_lem o now), u.2)

module _ (now clp verdict vci : ℕ) (lets : lets_in verdict ≡ true) (op : ℕ → Option Opening) where
  pub after_own : (v : ℕ) → vci ≡ v → after now clp verdict vci op v ≡ after_cell now clp verdict (op v)
  after_own v e = rw (lets, eq-eqb vci v e)

  pub after_other : (v : ℕ) → vci ≢ v → after now clp verdict vci op v ≡ op v
  after_other v e = rw (lets, ne_eqb vci v e)

  under_after : (c : Cell) → Under (op c.vci) c → Under (after now clp verdict vci op c.vci) c
  under_after c u = go (ℕ_discrete vci c.vci)
    where
      go : Dec (vci ≡ c.vci) → Under (after now clp verdict vci op c.vci) c
      go (yes e) = rw (after_own c.vci e) (under_moved now clp verdict (op c.vci) c u)
      go (no e) = rw (after_other c.vci e) u

  pub sits_after : (kind z : ℕ) (c : Queued) → Sits kind z op c → Sits kind z (λ v. after now clp verdict vci op v) c
  sits_after kind z c p = (p.0, p.1, under_after c.cell p.2)

-- fewer than N cells of a connection are queued
pub waits_low : (v w : ℕ) (o : List Queued) (r : List (List Queued)) → sums one r + sum one o ≤ w → waits v o r ≤ w
waits_low v w o r h =
    omega (arith, sums_le (is_of v) one (λ c. is_le v (vci_of c)) r, sum_le (is_of v) one (λ c. is_le v (vci_of c)) o)
