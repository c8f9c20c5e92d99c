-- Two results that a burst's promise allows coincide: its answer and every lent octet, number and word stand in its
-- stretch, and the promise is an equation for that.
use Prim.Native.Nat.{ℕ}
use mathlib.Core.Path.{◌≡◌, sym, ◌∙◌}
use mathlib.Core.List.{List}
use Rattle.meaning.specs.State.{State}
use Rattle.call_burst.specs.Burst.{Stretch, burst}

pub burst_once : (s : State) (arrivals sizes departures answers : List ℕ) (a b : Stretch)
    → a ≡ burst s arrivals sizes departures answers
    → b ≡ burst s arrivals sizes departures answers
    → a ≡ b
burst_once s arrivals sizes departures answers a b p q = p ∙ sym q
