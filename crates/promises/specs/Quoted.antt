-- What may be quoted of every run that demand 3 holds of: from its arrival a cell takes at most D + N-1 slots, D as
-- answered, and never more than 2 × (N-1).
use Rattle.std.specs.Prelude.{ℕ, ◌+◌, ◌-◌, ◌*◌, ◌≤◌, ◌<◌, List, length}
use Rattle.meaning_runs.specs.Run.{Event}
use Rattle.meaning_runs.specs.Seen.{departures_of, cell_at, departure_at}

pub record Quoted (N : ℕ) (h : List Event) : Type 0 where
  pub by_delay : (v k : ℕ) → k < length (departures_of v h)
      → (departure_at v k h).slot ≤ (cell_at v k h).arrival + (cell_at v k h).D + (N - 1)
  pub at_most : (v k : ℕ) → k < length (departures_of v h)
      → (departure_at v k h).slot ≤ (cell_at v k h).arrival + 2 * (N - 1)
