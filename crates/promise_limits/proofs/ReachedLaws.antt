-- The bound N-1 is reached, at N 2 and N 5, so that no smaller one holds; and on the merged output one connection's departures
-- come closer than F/L, as the eight slots of document 01 show: 6 and 7 of VC 40. By computation.
use Prim.Native.Nat.{ℕ, ◌-◌, ◌*◌, ◌≤◌}
use mathlib.Core.Path.{◌≡◌, refl}
use mathlib.Core.Bool.{Bool, true, false}
use mathlib.Core.List.{List}
use mathlib.Core.Option.{some}
use native.Mathlib.Omega.{arith}
use lib.Dec.{lit<}
use Rattle.meaning.specs.Numbers.{ranges_hold}
use Rattle.meaning.specs.Calls.{Kind, UNI, NNI, Options, options_of, plain, Allowed}
use Rattle.meaning.specs.Words.{without_second}
use Rattle.meaning.proofs.OperatorsLaws.{alone_allowed}
use Rattle.meaning_runs.specs.Run.{Call}
use Rattle.meaning_runs.specs.Leak.{opening_with}
use Rattle.meaning_runs.specs.Seen.{departure_at}
use Rattle.meaning_runs.specs.Eight.{eight_calls, eight_events}
use Rattle.meaning_runs.specs.Computed.{by_computation}
use Rattle.promise_limits.specs.Reached.{Reached, Within, late_at_two, late_at_five, PeakKept}

pub reached_at_two : (raw : Bool) (kind : Kind) → Reached 2 3 (options_of raw kind) late_at_two 2 1
unfolding by_computation
reached_at_two true UNI = record { leaves = lit< tt; late = refl }
reached_at_two false UNI = record { leaves = lit< tt; late = refl }
reached_at_two true NNI = record { leaves = lit< tt; late = refl }
reached_at_two false NNI = record { leaves = lit< tt; late = refl }

-- at N 5 by document 01's own policer alone: promise_tight has every N, raw or not, on either kind of line
pub reached_at_five : Reached 5 3 plain late_at_five 2 19
unfolding by_computation
reached_at_five = record { leaves = lit< tt; late = refl }

-- so no smaller bound holds there
pub not_within : (N z w : ℕ) (o : Options) (cs : List Call) (v k : ℕ) → Allowed N z o → Reached N z o cs v k
    → Within N o w → N - 1 ≤ w
not_within N z w o cs v k e r b = omega (arith, b z e cs v k r.leaves, r.late)

two_allowed : ranges_hold 2 3 ≡ true
unfolding ranges_hold
two_allowed = refl

five_allowed : ranges_hold 5 3 ≡ true
unfolding ranges_hold
five_allowed = refl

pub least_at_two : (raw : Bool) (kind : Kind) (w : ℕ) → Within 2 (options_of raw kind) w → 1 ≤ w
least_at_two raw kind w b =
    not_within 2 3 w (options_of raw kind) late_at_two 2 1 (alone_allowed 2 3 raw kind two_allowed) (reached_at_two raw kind) b

pub least_at_five : (w : ℕ) → Within 5 plain w → 4 ≤ w
least_at_five w b = not_within 5 3 w plain late_at_five 2 19 (alone_allowed 5 3 false UNI five_allowed) reached_at_five b

-- departures 6 and 7, though F/L is 2.5
pub departures_six_seven : ((departure_at 40 2 eight_events).slot ≡ 6) × ((departure_at 40 3 eight_events).slot ≡ 7)
unfolding by_computation
departures_six_seven = (refl, refl)

closer : PeakKept → 10 ≤ ((departure_at 40 3 eight_events).slot - (departure_at 40 2 eight_events).slot) * 4
unfolding by_computation
closer p = p 5 64 plain (refl, refl) eight_calls 40 2 (opening_with 2 10 26 (some 30) without_second (some 4)) refl (lit< tt)

pub peak_not_kept : PeakKept → ⊥
peak_not_kept p = omega (arith, closer p, departures_six_seven.0, departures_six_seven.1)
