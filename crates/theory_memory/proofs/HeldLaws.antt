-- Queued cells keep their octets when another space is written.
use Prim.Native.Nat.{ℕ, ◌+◌, ◌*◌, ◌≤◌}
use mathlib.Core.Path.{◌≡◌, sym, ◌∙◌}
use mathlib.Core.List.{List, [], ◌∷◌}
use native.Mathlib.Omega.{arith}
use lib.ListN.{length}
use Rattle.meaning.specs.State.{write_cell}
use Rattle.meaning.proofs.CellsLaws.{octets_other}
use Rattle.theory_queues.specs.Queue.{All, Alls}
use Rattle.theory_chains.specs.Strung.{cnt}
use Rattle.theory_chains.proofs.CountLaws.{is_yes}
use Rattle.theory_memory.specs.Held.{Queued, space_of, Held, cnts}

module _ (cells : List ℕ) (x : ℕ) (cell : List ℕ) (inside : 53 * x + 53 ≤ length cells) (long : length cell ≡ 53) where
  pub all_held : (q : List Queued) → cnt space_of x q ≡ 0 → All (Held cells) q → All (Held (write_cell cells x cell)) q
  all_held [] z a = tt
  all_held (c ∷ q) z a = (
    octets_other cells x cell inside long c.space (λ e. omega (arith, is_yes x c.space (sym e))) ∙ a.0,
    all_held q (omega arith) a.1,
  )

  pub alls_held : (r : List (List Queued)) → cnts x r ≡ 0 → Alls (Held cells) r → Alls (Held (write_cell cells x cell)) r
  alls_held [] z a = tt
  alls_held (q ∷ r) z a = (all_held q (omega arith) a.0, alls_held r (omega arith) a.1)
