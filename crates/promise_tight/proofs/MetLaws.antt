-- The bound is met at N 2 and N 5, so that no smaller one holds there. By computation.
use Prim.Native.Nat.{ℕ, ◌≤◌}
use mathlib.Core.Path.{◌≡◌, refl}
use mathlib.Core.Bool.{Bool, true, false}
use mathlib.Core.List.{List, [], ◌∷◌, map}
use native.Mathlib.Omega.{arith}
use lib.ListN.{take, drop}
use Rattle.meaning.specs.Numbers.{ranges_hold}
use Rattle.meaning.specs.Calls.{Kind, UNI, NNI, Options, options_of, plain, Allowed}
use Rattle.meaning.specs.Words.{without_second}
use Rattle.meaning.proofs.OperatorsLaws.{alone_allowed}
use Rattle.meaning_runs.specs.Run.{Call, Event, calls, fresh_run}
use Rattle.meaning_runs.specs.Seen.{departures_of}
use Rattle.meaning_runs.specs.Computed.{by_computation}
use Rattle.promise_bound.specs.Bound.{OneOpening, gone, leaving, burst}
use Rattle.promise_tight.specs.Tight.{Met, AtMost, burst_at_two, burst_at_five, closed_and_reopened}

abbrev at_two : Options → List Event
at_two o = (calls (fresh_run 2 3 o) burst_at_two).events

abbrev at_five : Options → List Event
at_five o = (calls (fresh_run 5 7 o) burst_at_five).events

-- VC 1 is opened by the first call, and all that follows is its opening
opening_at_two : (raw : Bool) (kind : Kind) → OneOpening 1 0 2 3 (at_two (options_of raw kind))
unfolding by_computation
opening_at_two true UNI = record { operator = 1; second = without_second; before = []; during = take 6 (at_two (options_of true UNI)); later = []; is = refl; lasts = (λ e. omega (arith, e), tt) }
opening_at_two true NNI = record { operator = 1; second = without_second; before = []; during = take 6 (at_two (options_of true NNI)); later = []; is = refl; lasts = (λ e. omega (arith, e), tt) }
opening_at_two false UNI = record { operator = 1; second = without_second; before = []; during = take 6 (at_two (options_of false UNI)); later = []; is = refl; lasts = (λ e. omega (arith, e), tt) }
opening_at_two false NNI = record { operator = 1; second = without_second; before = []; during = take 6 (at_two (options_of false NNI)); later = []; is = refl; lasts = (λ e. omega (arith, e), tt) }

-- two in the slots 3 and 4
pub met_at_two : (raw : Bool) (kind : Kind) → Met 2 3 (options_of raw kind) burst_at_two 1 0 2 3 3 2
unfolding by_computation opening_at_two
met_at_two true UNI = record { opening = opening_at_two true UNI; meets = refl }
met_at_two true NNI = record { opening = opening_at_two true NNI; meets = refl }
met_at_two false UNI = record { opening = opening_at_two false UNI; meets = refl }
met_at_two false NNI = record { opening = opening_at_two false NNI; meets = refl }

pub slots_at_two : (raw : Bool) (kind : Kind) → map (λ d. d.slot) (departures_of 1 (at_two (options_of raw kind))) ≡ 0 ∷ 3 ∷ 4 ∷ []
unfolding by_computation
slots_at_two true UNI = refl
slots_at_two true NNI = refl
slots_at_two false UNI = refl
slots_at_two false NNI = refl

opening_at_five : (raw : Bool) (kind : Kind) → OneOpening 1 2 10 13 (at_five (options_of raw kind))
unfolding by_computation
opening_at_five true UNI = record { operator = 1; second = without_second; before = []; during = take 29 (at_five (options_of true UNI)); later = []; is = refl; lasts = (λ e. omega (arith, e), (λ e. omega (arith, e), (λ e. omega (arith, e), (λ e. omega (arith, e), (λ e. omega (arith, e), tt))))) }
opening_at_five true NNI = record { operator = 1; second = without_second; before = []; during = take 29 (at_five (options_of true NNI)); later = []; is = refl; lasts = (λ e. omega (arith, e), (λ e. omega (arith, e), (λ e. omega (arith, e), (λ e. omega (arith, e), (λ e. omega (arith, e), tt))))) }
opening_at_five false UNI = record { operator = 1; second = without_second; before = []; during = take 29 (at_five (options_of false UNI)); later = []; is = refl; lasts = (λ e. omega (arith, e), (λ e. omega (arith, e), (λ e. omega (arith, e), (λ e. omega (arith, e), (λ e. omega (arith, e), tt))))) }
opening_at_five false NNI = record { operator = 1; second = without_second; before = []; during = take 29 (at_five (options_of false NNI)); later = []; is = refl; lasts = (λ e. omega (arith, e), (λ e. omega (arith, e), (λ e. omega (arith, e), (λ e. omega (arith, e), (λ e. omega (arith, e), tt))))) }

-- three in the slots 14 to 16, four in 14 to 17, six in 14 to 23
pub met_at_five : (raw : Bool) (kind : Kind) → Met 5 7 (options_of raw kind) burst_at_five 1 2 10 13 14 3
    × Met 5 7 (options_of raw kind) burst_at_five 1 2 10 13 14 4
    × Met 5 7 (options_of raw kind) burst_at_five 1 2 10 13 14 10
unfolding by_computation opening_at_five
met_at_five true UNI = (record { opening = opening_at_five true UNI; meets = refl }, record { opening = opening_at_five true UNI; meets = refl }, record { opening = opening_at_five true UNI; meets = refl })
met_at_five true NNI = (record { opening = opening_at_five true NNI; meets = refl }, record { opening = opening_at_five true NNI; meets = refl }, record { opening = opening_at_five true NNI; meets = refl })
met_at_five false UNI = (record { opening = opening_at_five false UNI; meets = refl }, record { opening = opening_at_five false UNI; meets = refl }, record { opening = opening_at_five false UNI; meets = refl })
met_at_five false NNI = (record { opening = opening_at_five false NNI; meets = refl }, record { opening = opening_at_five false NNI; meets = refl }, record { opening = opening_at_five false NNI; meets = refl })

pub slots_at_five : (raw : Bool) (kind : Kind) → map (λ d. d.slot) (departures_of 1 (at_five (options_of raw kind))) ≡ 14 ∷ 15 ∷ 16 ∷ 17 ∷ 20 ∷ 22 ∷ []
unfolding by_computation
slots_at_five true UNI = refl
slots_at_five true NNI = refl
slots_at_five false UNI = refl
slots_at_five false NNI = refl

-- so no smaller number holds there
no_less : (N z : ℕ) (o : Options) (cs : List Call) (v m F C x w B : ℕ) → Allowed N z o
    → Met N z o cs v m F C x w → AtMost N o m F w B → burst N m F w ≤ B
no_less N z o cs v m F C x w B e r a = omega (arith, a z e cs v C x r.opening, r.meets)

two_allowed : ranges_hold 2 3 ≡ true
unfolding ranges_hold
two_allowed = refl

five_allowed : ranges_hold 5 7 ≡ true
unfolding ranges_hold
five_allowed = refl

pub least_at_two : (raw : Bool) (kind : Kind) (B : ℕ) → AtMost 2 (options_of raw kind) 0 2 2 B → 2 ≤ B
least_at_two raw kind B a =
    no_less 2 3 (options_of raw kind) burst_at_two 1 0 2 3 3 2 B (alone_allowed 2 3 raw kind two_allowed) (met_at_two raw kind) a

pub least_at_five : (raw : Bool) (kind : Kind) (B : ℕ) → AtMost 5 (options_of raw kind) 2 10 10 B → 6 ≤ B
least_at_five raw kind B a =
    no_less 5 7 (options_of raw kind) burst_at_five 1 2 10 13 14 10 B (alone_allowed 5 7 raw kind five_allowed) (met_at_five raw kind).2 a

-- ── a closed opening is one as well: three cells of the first leave in the slots 0 to 7, and one of the second ──
abbrev reopened : List Event
reopened = (calls (fresh_run 2 3 plain) closed_and_reopened).events

pub first_opening : OneOpening 1 0 2 3 (calls (fresh_run 2 3 plain) closed_and_reopened).events
unfolding by_computation
first_opening =
    record { operator = 1; second = without_second; before = []; during = take 8 (drop 3 reopened); later = take 3 reopened; is = refl; lasts = (λ e. omega (arith, e), tt) }

pub second_opening : OneOpening 1 0 5 5 (calls (fresh_run 2 3 plain) closed_and_reopened).events
unfolding by_computation
second_opening = record { operator = 1; second = without_second; before = drop 2 reopened; during = take 1 reopened; later = []; is = refl; lasts = tt }

pub both_openings : (leaving 0 8 (gone first_opening) ≡ 3) × (leaving 0 8 (gone second_opening) ≡ 1)
unfolding by_computation first_opening second_opening
both_openings = (refl, refl)
