-- On the whole line at most one cell leaves in a slot: departures are noted in the order of their slots, no two in the same
-- one, by the invariant. So w slots hold at most w.
use Prim.Native.Nat.{ℕ, zero, suc, ◌+◌, ◌≤◌, ◌<◌}
use mathlib.Core.Path.{sym, ap, subst}
use mathlib.Core.List.{List, [], ◌∷◌, map}
use native.Mathlib.Nat.{add-zero}
use native.Mathlib.Omega.{arith}
use lib.ListN.{length, get_or}
use Rattle.meaning.specs.State.{State}
use Rattle.meaning_runs.specs.Run.{Event, served}
use Rattle.meaning_runs.specs.Seen.{Departure, departures_in, no_departure}
use Rattle.theory_queues.specs.Queue.{Rising}
use Rattle.theory_queues.proofs.RisingLaws.{rising_at}
use Rattle.theory_invariant.specs.Invariant.{Left, seen_as, Inv}
use Rattle.promise_bound.specs.Bound.{is_in_window, leaving}
use Rattle.promise_bound.proofs.CountLaws.{count, close_few}
use Rattle.promise_bound.proofs.BoundLaws.{in_window, leaving_is}

rising_seen : (lo hi : ℕ) (l : List Left) → Rising (λ p. p.slot) lo hi l → Rising (λ d. d.slot) lo hi (map seen_as l)
rising_seen lo hi [] r = r
rising_seen lo hi (p ∷ l) r = (r.0, rising_seen (suc p.slot) hi l r.1)

-- a slot for each
rises : (lo hi : ℕ) (l : List Departure) → Rising (λ d. d.slot) lo hi l → (i n : ℕ) → i + n < length l
    → (get_or l i no_departure).slot + n ≤ (get_or l (i + n) no_departure).slot
rises lo hi l r i zero low = omega (arith, ap (λ (k : ℕ). (get_or l k no_departure).slot) (add-zero i))
rises lo hi l r i (suc n) low =
    omega (
      arith,
      rises lo hi l r i n (omega (arith, low)),
      rising_at (λ d. d.slot) lo hi l (i + n) (i + suc n) no_departure (omega arith) low r,
    )

few_in : (lo hi : ℕ) (l : List Departure) → Rising (λ d. d.slot) lo hi l → (x w : ℕ) → count (is_in_window x w) no_departure l ≤ w
few_in lo hi l r x w =
    close_few (is_in_window x w) no_departure l w
    (λ i n low e f. omega (
      arith,
      rises lo hi l r i n low,
      (in_window x w (get_or l i no_departure) e).0,
      (in_window x w (get_or l (i + n) no_departure) f).1,
    ))

pub whole_line : (N z kind : ℕ) (h : List Event) (s : State) → Inv N z kind h s → (x w : ℕ) → leaving x w (departures_in h) ≤ w
whole_line N z kind h s i x w =
    omega (
      arith,
      leaving_is x w (departures_in h),
      few_in 0 (served h) (departures_in h)
          (subst (Rising (λ d. d.slot) 0 (served h)) (sym i.seen) (rising_seen 0 (served h) i.left i.left_rise))
          x w,
    )
