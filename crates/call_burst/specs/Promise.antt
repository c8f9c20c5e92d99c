-- What a burst promises of its answer and of every lent octet, number and word afterwards; and what its parts are lent.
use Rattle.std.specs.Prelude.{ℕ, ◌+◌, ◌*◌, ◌≤◌, ◌≡◌, List, length}
use Rattle.meaning.specs.Numbers.{octets, cell_start}
use Rattle.meaning.specs.State.{State}
use Rattle.meaning.specs.Lent.{Lent, LentMut}
use Rattle.burst_out.specs.Handout.{answer_long}
use Rattle.call_burst.specs.Burst.{stretch_of, burst}
use Rattle.call_burst.specs.declared.BurstEnd.{BurstEnd}

-- s' is the state afterwards
abbrev pub burst_promise : State → Lent → Lent → LentMut → LentMut → BurstEnd → State → Type 0
burst_promise s arrivals sizes departures answers r s' =
    stretch_of s' departures.exit.now answers.exit.now r.number r.done
    ≡ burst s arrivals.entry.now sizes.entry.now departures.entry.now answers.entry.now

-- slot i has its octets and its six numbers
pub record SlotLent (arrivals departures answers : List ℕ) (i : ℕ) : Type 0 where
  pub arrival : cell_start i + octets ≤ length arrivals
  pub departure : cell_start i + octets ≤ length departures
  pub answer : answer_long * i + answer_long ≤ length answers

-- so has each slot of a burst
pub record BurstLent (arrivals sizes departures answers : List ℕ) : Type 0 where
  pub arrivals_long : length arrivals ≡ octets * length sizes
  pub departures_long : length departures ≡ octets * length sizes
  pub answers_long : length answers ≡ answer_long * length sizes
