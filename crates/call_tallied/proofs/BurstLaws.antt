-- The laws of a burst that tallies: but for the tally it is a burst, and the tally's bins add up afterwards.
use Prim.Native.Nat.{ℕ, ◌+◌, ◌*◌}
use mathlib.Core.Path.{◌≡◌, refl, sym, ◌∙◌, ap, subst}
use mathlib.Core.Logic.{◌≢◌, ◌⊎◌, inl, inr}
use mathlib.Core.Bool.{Bool, true, false, not}
use mathlib.Core.List.{List, [], ◌∷◌}
use native.Mathlib.Omega.{arith}
use lib.ListN.{length}
use borrow.Author.Tests.{eq-eqb, ne_eqb}
use Rattle.meaning.specs.Plain.{when◌then◌else◌, ◌=?◌}
use Rattle.meaning.specs.State.{State}
use Rattle.call_burst.specs.Burst.{Stretch, stretch_of, stopped, one_slot, slots, burst}
use Rattle.call_burst.proofs.Refusals.{fit_of}
use Rattle.call_burst.proofs.StopLaws.{Fit, Serves, Stops, one_slot_lem, fit_burst}
use Rattle.call_burst.proofs.LikelyLaws.{fit_shaped}
use Rattle.call_tally.specs.declared.Tally.{Tally}
use Rattle.call_tally.specs.Tally.{bins_in, standing}
use Rattle.call_tally.specs.Laws.{AddsUp}
use Rattle.call_tally.proofs.Cases.{fits_facts}
use Rattle.call_tally.proofs.Standing.{stands}
use Rattle.call_tallied.specs.Tallied.{Tallying, tallying_of, one_tallied, slots_tallied, burst_tallied}
use Rattle.call_tallied.specs.Laws.{AsBurst, StillFits}
use Rattle.call_tallied.proofs.Turns.{one_stops, next_stretch, next_kept, next_counted, next_adds, next_stands}

-- ---- but for the tally it is a burst
slots_as : (arrivals : List ℕ) (c : ℕ) (sizes : List ℕ) (b : Tallying) → (slots_tallied arrivals c sizes b).stretch ≡ slots arrivals sizes b.stretch
unfolding slots_tallied slots
slots_as arrivals c [] b = refl
slots_as arrivals c (size ∷ sizes) b =
    go y (y.stretch.number =? 0) (slots_as arrivals c sizes y)
    ∙ ap (λ (x : Stretch). when x.number =? 0 then slots arrivals sizes x else x) (next_stretch arrivals c size b.stretch b.tally y refl)
  where
    y : Tallying
    y = one_tallied arrivals c size b

    go : (y : Tallying) (t : Bool) → (slots_tallied arrivals c sizes y).stretch ≡ slots arrivals sizes y.stretch
        → (when t then slots_tallied arrivals c sizes y else y).stretch ≡ (when t then slots arrivals sizes y.stretch else y.stretch)
    go y true h = h
    go y false h = refl

pub as_burst : AsBurst
unfolding burst_tallied burst
as_burst t c s arrivals sizes departures answers e =
    let g = stands t.bins t.cells s.ctl (length s.arrived) c e in
    rw (e, g.ranges) (go (fit_of s arrivals sizes departures answers))
  where
    b : Stretch
    b = stretch_of s departures answers 0 0

    go : (f : Bool) → (when not f then tallying_of (stopped b 2) t else slots_tallied arrivals c sizes (tallying_of b t)).stretch
        ≡ (when not f then stopped b 2 else slots arrivals sizes b)
    go true = slots_as arrivals c sizes (tallying_of b t)
    go false = refl

-- ---- the tally's bins add up
adds : (t : Tally) (c : ℕ) (s : State) → standing t.bins t.cells s.ctl (length s.arrived) c ≡ 0 → length t.bins ≡ bins_in → AddsUp t
adds t c s e n =
    let f = fits_facts t.bins t.cells (stands t.bins t.cells s.ctl (length s.arrived) c e).fits in (f.1, f.0, n)

slots_add : (arrivals : List ℕ) (c : ℕ) (sizes : List ℕ) (b : Stretch) (t : Tally) → Fit b.state → 53 * (b.done + length sizes) ≡ length arrivals
    → standing t.bins t.cells b.state.ctl (length b.state.arrived) c ≡ 0 → length t.bins ≡ bins_in
    → AddsUp (slots_tallied arrivals c sizes (tallying_of b t)).tally
unfolding slots_tallied
slots_add arrivals c [] b t f e s n = adds t c b.state s n
slots_add arrivals c (size ∷ sizes) b t f e s n =
    go (one_slot_lem arrivals size b f (omega (arith, e))) (λ g d u m. slots_add arrivals c sizes y.stretch y.tally g d u m)
  where
    y : Tallying
    y = one_tallied arrivals c size (tallying_of b t)

    is : y.stretch ≡ one_slot arrivals size b
    is = next_stretch arrivals c size b t y refl

    after : Tallying
    after = when y.stretch.number =? 0 then slots_tallied arrivals c sizes y else y

    stops : (number : ℕ) → (one_slot arrivals size b).number ≡ number → number ≢ 0 → AddsUp after.tally
    stops number q ne =
        let z : y.stretch.number ≢ 0 = λ p. ne (sym q ∙ sym (ap (λ (x : Stretch). x.number) is) ∙ p) in
        rw (ne_eqb y.stretch.number 0 z) (subst AddsUp (ap (λ (x : Tallying). x.tally) (one_stops arrivals c size b t (one_slot arrivals size b) refl (λ p. ne (sym q ∙ p)))) (adds t c b.state s n))

    go : Serves b (one_slot arrivals size b) ⊎ Stops (one_slot arrivals size b).number
        → (Fit y.stretch.state → 53 * (y.stretch.done + length sizes) ≡ length arrivals
        → standing y.tally.bins y.tally.cells y.stretch.state.ctl (length y.stretch.state.arrived) c ≡ 0 → length y.tally.bins ≡ bins_in
        → AddsUp (slots_tallied arrivals c sizes y).tally)
        → AddsUp after.tally
    go (inl v) next =
        let z : y.stretch.number ≡ 0 = ap (λ (x : Stretch). x.number) is ∙ v.number in
        let g : Fit y.stretch.state = subst (λ (x : Stretch). Fit x.state) (sym is) v.fit in
        let k : length y.stretch.state.arrived ≡ length b.state.arrived =
        (fit_shaped y.stretch.state g).arrived_long ∙ (next_kept arrivals c size b t y refl).0 ∙ sym (fit_shaped b.state f).arrived_long in
        rw (eq-eqb y.stretch.number 0 z)
        (next g (omega (arith, e, next_counted arrivals c size b t y refl z)) (next_stands arrivals c size b t y refl z s n k) (next_adds arrivals c size b t y refl z s n k).2)
    go (inr (inl q)) next = stops 9 q (λ p. omega (arith, p))
    go (inr (inr q)) next = stops 3 q (λ p. omega (arith, p))

pub still_fits : StillFits
unfolding burst_tallied stopped
still_fits t c s arrivals sizes departures answers n e = rw e (go (fit_of s arrivals sizes departures answers) refl)
  where
    b : Stretch
    b = stretch_of s departures answers 0 0

    go : (f : Bool) → fit_of s arrivals sizes departures answers ≡ f
        → AddsUp (when not f then tallying_of (stopped b 2) t else slots_tallied arrivals c sizes (tallying_of b t)).tally
    go true h =
        let g = stands t.bins t.cells s.ctl (length s.arrived) c e in
        let p = fit_burst s (length arrivals) (length departures) (length answers) (length sizes) g.ranges h in
        slots_add arrivals c sizes b t p.0 (omega (arith, p.1)) e n
    go false h = adds t c s e n
