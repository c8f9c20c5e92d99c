-- N-1 slots late at every N: in the run of `late_calls` 2 × (N-1) cells are due in the N-1 slots from N × 1,024 on, and by
-- demand 3 they leave, one a slot, from then on: so the last of them leaves N-1 slots after its due slot at least. By demand
-- 3 that is also the most.
use Prim.Native.Nat.{ℕ, ◌+◌, ◌-◌, ◌*◌, ◌/◌, ◌≤◌, ◌<◌}
use mathlib.Core.Path.{◌≡◌, ap}
use mathlib.Core.Bool.{Bool, true}
use mathlib.Core.List.{List}
use native.Mathlib.Decide.{dec_lt, ℕ_discrete}
use native.Mathlib.Nat.{div-mul-le_self, le-div_iff_mul-le}
use native.Mathlib.Omega.{arith}
use borrow.Author.Tests.{le-leb, lt-ltb}
use lib.ListN.{length}
use Rattle.meaning.specs.Numbers.{ranges_hold}
use Rattle.meaning.specs.Calls.{Kind, Options, options_of, kind_number}
use Rattle.meaning.proofs.OperatorsLaws.{alone_allowed}
use Rattle.meaning_runs.specs.Run.{Event, Run, calls, fresh_run}
use Rattle.meaning_runs.specs.Seen.{no_departure, departures_of, cell_at, departure_at}
use Rattle.theory_invariant.proofs.FreshLaws.{ranges_are}
use Rattle.promises.specs.Demand3.{Demand3}
use Rattle.promises.proofs.Demand3Laws.{demanded}
use Rattle.promise_limits.proofs.ReachedLaws.{not_within}
use Rattle.promise_bound.specs.Bound.{is_in_window}
use Rattle.promise_bound.proofs.CountLaws.{count}
use Rattle.promise_tight.specs.Tight.{late_calls, LateIn, LateAtEveryN, LeastLate}
use Rattle.promise_tight.proofs.PigeonLaws.{at_least, two_share}
use Rattle.promise_tight.proofs.SendLaws.{Done}
use Rattle.promise_tight.proofs.WholeLaws.{all_done}

module _ (N z : ℕ) (raw : Bool) (line : Kind) (range : ranges_hold N z ≡ true) (N_low : 2 ≤ N) (N_high : N ≤ 1_024) (z_low : 3 ≤ z) where
  abbrev o : Options
  o = options_of raw line

  abbrev last : Run
  last = calls (fresh_run N z o) (late_calls N)

  abbrev h : List Event
  h = last.events

  -- from this slot on they are due
  abbrev a : ℕ
  a = N * 1_024

  done : Done N z (kind_number line) z_low (N - 1) (N - 1) last
  done = all_done N z raw line range N_low z_low

  d : Demand3 N z (kind_number line) h last.state
  d = demanded N z (kind_number line) h last.state done.kept.inv

  due_one : (j : ℕ) → j < N - 1 → (cell_at 1 j h).due ≡ a + j
  due_one j low = done.cells_one.1 j low

  due_two : (k : ℕ) → k < a → (cell_at 2 k h).due ≡ k * 1_025 / 1_024
  due_two k low = done.cells_two.1 k low

  -- the last of each
  abbrev last_one : ℕ
  last_one = N - 2

  abbrev last_two_lem : ℕ
  last_two_lem = N * 1_024 - 1

  last_due_one : (cell_at 1 last_one h).due ≡ a + (N - 2)
  last_due_one = due_one last_one (omega (arith, N_low))

  last_due_two : (cell_at 2 last_two_lem h).due ≤ a + (N - 2)
  last_due_two =
      omega (arith, due_two last_two_lem (omega (arith, N_low)), div-mul-le_self (last_two_lem * 1_025) 1_024, N_low)

  gone_one : last_one < length (departures_of 1 h)
  gone_one =
      d.leaves 1 last_one (omega (arith, done.cells_one.0, N_low)) (omega (arith, last_due_one, done.slots, N_low))

  gone_two : last_two_lem < length (departures_of 2 h)
  gone_two =
      d.leaves 2 last_two_lem (omega (arith, done.cells_two.0, N_low)) (omega (arith, last_due_two, done.slots, N_low))

  -- one of a connection that is due from slot a on, and no later than its last, which leaves before a + w
  within : (v j l w : ℕ) → l < length (departures_of v h) → j ≤ l → a ≤ (cell_at v j h).due → (departure_at v l h).slot < a + w
      → is_in_window a w (departure_at v j h) ≡ true
  within v j l w low le early before =
      rw (
        le-leb a (departure_at v j h).slot (omega (arith, early, d.not_early v j (omega (arith, low, le)))),
        lt-ltb (departure_at v j h).slot (a + w) (omega (arith, before, order (ℕ_discrete j l))),
      )
    where
      order : Dec (j ≡ l) → (departure_at v j h).slot ≤ (departure_at v l h).slot
      order (yes e) = omega (arith, ap (λ (k : ℕ). (departure_at v k h).slot) e)
      order (no e) = omega (arith, (d.in_order v j l (omega (arith, le, e)) low).1)

  many_one : (w : ℕ) → (departure_at 1 last_one h).slot < a + w → N - 1 ≤ count (is_in_window a w) no_departure (departures_of 1 h)
  many_one w before =
      at_least (is_in_window a w) no_departure (departures_of 1 h) 0 (N - 1) (omega (arith, gone_one, N_low))
      (λ j low. within 1 (0 + j) last_one w gone_one (omega (arith, low)) (omega (arith, due_one (0 + j) (omega (arith, low)))) before)

  -- the last N-1 of VC 2's cells
  abbrev skip : ℕ
  skip = N * 1_024 - (N - 1)

  many_two : (w : ℕ) → (departure_at 2 last_two_lem h).slot < a + w → N - 1 ≤ count (is_in_window a w) no_departure (departures_of 2 h)
  many_two w before =
      at_least (is_in_window a w) no_departure (departures_of 2 h) skip (N - 1) (omega (arith, gone_two, N_low))
      (λ j low. within 2 (skip + j) last_two_lem w gone_two (omega (arith, low, N_low)) (from j low) before)
    where
      some : 0 < 1_024
      some = omega arith

      from : (j : ℕ) → j < N - 1 → a ≤ (cell_at 2 (skip + j) h).due
      from j low =
          let y : a ≤ (skip + j) * 1_025 / 1_024 =
          (le-div_iff_mul-le {k = 1_024} {x = a} {y = (skip + j) * 1_025} some).1 (omega (arith, low, N_high, N_low)) in
          omega (arith, due_two (skip + j) (omega (arith, low)), y)

  -- both can't have left before slot a + 2 × N - 3
  pub late : LateIn N z (options_of raw line) (late_calls N)
  late = go (dec_lt (departure_at 1 last_one h).slot (a + (2 * N - 3))) (dec_lt (departure_at 2 last_two_lem h).slot (a + (2 * N - 3)))
    where
      go : Dec ((departure_at 1 last_one h).slot < a + (2 * N - 3)) → Dec ((departure_at 2 last_two_lem h).slot < a + (2 * N - 3))
          → LateIn N z o (late_calls N)
      go (no p) q = record { v = 1; k = last_one; reached = record { leaves = gone_one; late = omega (arith, p, last_due_one, d.not_late 1 last_one gone_one, N_low) } }
      go (yes p) (no q) = record { v = 2; k = last_two_lem; reached = record { leaves = gone_two; late = omega (arith, q, last_due_two, d.not_late 2 last_two_lem gone_two, N_low) } }
      go (yes p) (yes q) =
          absurd (omega (
            arith,
            many_one (2 * N - 3) p,
            many_two (2 * N - 3) q,
            two_share N z (kind_number line) h last.state done.kept.inv 1 2 (λ e. omega (arith, e)) a (2 * N - 3),
            N_low,
          ))

-- N-1 is reached at every N from 2 to 1,024
pub late_at_every_n : LateAtEveryN
late_at_every_n N z raw line range low vcs = late N z raw line range low (ranges_are N z range).N_high vcs

-- so no smaller number holds, at any N
pub least_late : LeastLate
least_late N w raw line range b = go (dec_lt N 2)
  where
    go : Dec (N < 2) → N - 1 ≤ w
    go (yes p) = omega (arith, p)
    go (no p) =
        let l = late_at_every_n N 3 raw line range (omega (arith, p)) (omega arith) in
        not_within N 3 w (options_of raw line) (late_calls N) l.v l.k (alone_allowed N 3 raw line range) l.reached b
