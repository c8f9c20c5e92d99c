-- The refusals of a burst that tallies, as its code works them out, and what refusal 0 shows.
use Prim.Native.Nat.{ℕ}
use mathlib.Core.Path.{◌≡◌, refl, sym, ◌∙◌, ap}
use mathlib.Core.Logic.{◌≢◌}
use mathlib.Core.Bool.{Bool, true, false, not}
use mathlib.Core.List.{List}
use native.Mathlib.Omega.{arith}
use lib.ListN.{length}
use borrow.Author.Tests.{eqb-true, eqb-false}
use Rattle.meaning.specs.Plain.{when◌then◌else◌, ◌=?◌}
use Rattle.meaning.specs.State.{State}
use Rattle.leaf_refusal.specs.Order.{refuse_of, first_of}
use Rattle.call_burst.specs.Burst.{Stretch, stretch_of, stopped}
use Rattle.call_burst.specs.Promise.{BurstLent}
use Rattle.call_burst.specs.Way.{Shaped}
use Rattle.call_burst.proofs.Refusals.{fit_of, lent_all}
use Rattle.call_burst.proofs.StopLaws.{fit_burst}
use Rattle.call_burst.proofs.LikelyLaws.{fit_shaped}
use Rattle.call_tally.specs.declared.Tally.{Tally}
use Rattle.call_tally.specs.Tally.{standing}
use Rattle.call_tally.proofs.Standing.{stands}
use Rattle.call_tallied.specs.Tallied.{Tallying, tallying_of, slots_tallied, burst_tallied}

module _ (t : Tally) (c : ℕ) (s : State) (arrivals sizes departures answers : List ℕ) where
  abbrev judged : ℕ
  judged = standing t.bins t.cells s.ctl (length s.arrived) c

  abbrev fit : Bool
  fit = fit_of s arrivals sizes departures answers

  abbrev begun : Stretch
  begun = stretch_of s departures answers 0 0

  abbrev result : ℕ → Bool → Bool → Tallying
  result n z f =
      when not z then tallying_of (stopped begun n) t else when not f then tallying_of (stopped begun 2) t else slots_tallied arrivals c sizes (tallying_of begun t)

  -- k is the refusal that is worked out
  module _ (k : ℕ) (e : k ≡ first_of judged (refuse_of 2 (not fit))) where
    pub tallied_refused : k ≢ 0 → tallying_of (stretch_of s departures answers k 0) t ≡ burst_tallied t c s arrivals sizes departures answers
    unfolding burst_tallied stopped
    tallied_refused ne = ap (λ (n : ℕ). tallying_of (stretch_of s departures answers n 0) t) e ∙ go (judged =? 0) fit (λ z. ne (e ∙ z))
      where
        go : (z f : Bool) → ((when z then refuse_of 2 (not f) else judged) ≡ 0 → ⊥)
            → tallying_of (stretch_of s departures answers (when z then refuse_of 2 (not f) else judged) 0) t ≡ result judged z f
        go false f n = refl
        go true true n = absurd (n refl)
        go true false n = refl

    module _ (none : k ≡ 0) where
      both : (judged ≡ 0) × (fit ≡ true)
      both = go (judged =? 0) fit refl (sym e ∙ none)
        where
          go : (z f : Bool) → (judged =? 0) ≡ z → (when z then refuse_of 2 (not f) else judged) ≡ 0 → (judged ≡ 0) × (f ≡ true)
          go true true h n = (eqb-true judged 0 h, refl)
          go true false h n = absurd (omega (arith, n))
          go false f h n = absurd (eqb-false judged 0 h n)

      pub tallied_goes : slots_tallied arrivals c sizes (tallying_of begun t) ≡ burst_tallied t c s arrivals sizes departures answers
      unfolding burst_tallied
      tallied_goes = rw (both.0, both.1) refl

      pub tallied_stands : judged ≡ 0
      tallied_stands = both.0

      pub tallied_lent : BurstLent arrivals sizes departures answers
      tallied_lent = lent_all s.ctl.n s.ctl.v (length s.cells) (length s.links) (length s.calendar) (length s.words) (length s.bits) (length s.arrived) arrivals sizes departures answers both.1

      pub tallied_shaped : Shaped s.ctl s.cells s.links s.calendar s.words s.bits s.arrived
      tallied_shaped =
          let g = stands t.bins t.cells s.ctl (length s.arrived) c both.0 in
          fit_shaped s (fit_burst s (length arrivals) (length departures) (length answers) (length sizes) g.ranges both.1).0
