-- The refusals of a burst: a length that is so many times another, tested by division; and what refusal 0 shows.
use Prim.Native.Nat.{ℕ, ◌+◌, ◌*◌, ◌/◌, ◌%◌, ◌<◌}
use mathlib.Core.Path.{◌≡◌, refl, sym, ◌∙◌, ap}
use mathlib.Core.Logic.{◌≢◌}
use mathlib.Core.Bool.{Bool, true, false, not, ◌&&◌}
use mathlib.Core.List.{List}
use native.Mathlib.Omega.{arith}
use native.Mathlib.Nat.{div-add-mod, mul-mod_right, mul-div_cancel_left}
use native.Mathlib.Decide.{ℕ_discrete}
use borrow.Author.Tests.{eq-eqb, ne_eqb, eqb-true}
use lib.ListN.{length}
use Rattle.meaning.specs.Plain.{when◌then◌else◌, ◌=?◌}
use Rattle.meaning.specs.Numbers.{ranges_hold, octets, per_entry, words_in, bit_words}
use Rattle.meaning.specs.State.{State}
use Rattle.leaf_refusal.specs.Order.{refuse_of, first_of}
use Rattle.burst_out.specs.Handout.{answer_long}
use Rattle.call_burst.specs.Burst.{Stretch, stretch_of, stopped, slots, lengths_fit, burst}
use Rattle.call_burst.specs.Promise.{BurstLent}
use Rattle.slot_steps.proofs.EndLaws.{both_true}

module _ (long each k : ℕ) where
  pub times_rest : long % each ≢ 0 → (long =? each * k) ≡ false
  times_rest ne = ne_eqb long (each * k) (λ e. ne (ap (λ (x : ℕ). x % each) e ∙ mul-mod_right each k))

  pub times_whole : 0 < each → long % each ≡ 0 → (long / each =? k) ≡ (long =? each * k)
  times_whole pos none = go (ℕ_discrete (long / each) k)
    where
      go : Dec (long / each ≡ k) → (long / each =? k) ≡ (long =? each * k)
      go (yes e) =
          eq-eqb (long / each) k e
          ∙ sym (eq-eqb long (each * k) (sym (div-add-mod long each) ∙ ap (λ (x : ℕ). each * (long / each) + x) none ∙ whole e))
        where
          whole : long / each ≡ k → each * (long / each) + 0 ≡ each * k
          whole h = rw h (omega arith)
      go (no ne) =
          ne_eqb (long / each) k ne
          ∙ sym (ne_eqb long (each * k) (λ e. ne (ap (λ (x : ℕ). x / each) e ∙ mul-div_cancel_left k pos)))

-- lengths that fit
pub lent_all : (N z cells links calendar words bits arrived : ℕ) (arrivals sizes departures answers : List ℕ)
    → lengths_fit N z cells links calendar words bits arrived (length arrivals) (length sizes) (length departures) (length answers) ≡ true
    → BurstLent arrivals sizes departures answers
unfolding lengths_fit
lent_all N z cells links calendar words bits arrived arrivals sizes departures answers e =
    let a = length arrivals =? octets * length sizes in
    let d = length departures =? octets * length sizes in
    let six = cells =? octets * N && links =? N && calendar =? per_entry * N && words =? words_in z && bits =? bit_words && arrived =? N in
    let p = both_true (six && a && d) (length answers =? answer_long * length sizes) e in
    let q = both_true (six && a) d p.0 in
    record {
      arrivals_long = eqb-true (length arrivals) (53 * length sizes) (both_true six a q.0).1;
      departures_long = eqb-true (length departures) (53 * length sizes) q.1;
      answers_long = eqb-true (length answers) (6 * length sizes) p.1;
    }

-- the refusal that is worked out: 1 and 2, given where a and b hold
abbrev worked : Bool → Bool → ℕ
worked a b = first_of (refuse_of 1 a) (refuse_of 2 b)

abbrev pub fit_of : State → List ℕ → List ℕ → List ℕ → List ℕ → Bool
fit_of s arrivals sizes departures answers =
    lengths_fit s.ctl.n s.ctl.v (length s.cells) (length s.links) (length s.calendar) (length s.words) (length s.bits) (length s.arrived) (length arrivals) (length sizes) (length departures) (length answers)

abbrev worked_of : State → List ℕ → List ℕ → List ℕ → List ℕ → ℕ
worked_of s arrivals sizes departures answers =
    worked (not (ranges_hold s.ctl.n s.ctl.v)) (not (fit_of s arrivals sizes departures answers))

-- from its parts
pub worked_out : (s : State) (arrivals sizes departures answers : List ℕ) (fit : Bool) (k : ℕ)
    → fit ≡ fit_of s arrivals sizes departures answers
    → k ≡ worked (not (ranges_hold s.ctl.n s.ctl.v)) (not fit)
    → k ≡ worked_of s arrivals sizes departures answers
worked_out s arrivals sizes departures answers fit k f e =
    e ∙ ap (λ (b : Bool). worked (not (ranges_hold s.ctl.n s.ctl.v)) (not b)) f

-- a burst that is refused, and one that is not
module _ (s : State) (arrivals sizes departures answers : List ℕ) (k : ℕ) (e : k ≡ worked_of s arrivals sizes departures answers) where
  -- the two tests one after the other
  abbrev in_order : Bool → Bool → Stretch
  in_order a b =
      when not a then stretch_of s departures answers 1 0
      else when not b then stretch_of s departures answers 2 0
      else slots arrivals sizes (stretch_of s departures answers 0 0)

  pub burst_refused : k ≢ 0 → stretch_of s departures answers k 0 ≡ burst s arrivals sizes departures answers
  unfolding burst stopped
  burst_refused ne =
      ap (λ (n : ℕ). stretch_of s departures answers n 0) e
      ∙ go (ranges_hold s.ctl.n s.ctl.v) (fit_of s arrivals sizes departures answers) (λ z. ne (e ∙ z))
    where
      go : (a b : Bool) → worked (not a) (not b) ≢ 0 → stretch_of s departures answers (worked (not a) (not b)) 0 ≡ in_order a b
      go false b some = refl
      go true false some = refl
      go true true some = absurd (some refl)

  pub burst_goes : k ≡ 0 → slots arrivals sizes (stretch_of s departures answers 0 0) ≡ burst s arrivals sizes departures answers
  unfolding burst stopped
  burst_goes z = go (ranges_hold s.ctl.n s.ctl.v) (fit_of s arrivals sizes departures answers) (sym e ∙ z)
    where
      go : (a b : Bool) → worked (not a) (not b) ≡ 0 → slots arrivals sizes (stretch_of s departures answers 0 0) ≡ in_order a b
      go true true h = refl
      go true false h = absurd (omega arith)
      go false b h = absurd (omega arith)

  pub burst_ranges : k ≡ 0 → ranges_hold s.ctl.n s.ctl.v ≡ true
  burst_ranges z = go (ranges_hold s.ctl.n s.ctl.v) (fit_of s arrivals sizes departures answers) (sym e ∙ z)
    where
      go : (a b : Bool) → worked (not a) (not b) ≡ 0 → a ≡ true
      go true b h = refl
      go false true h = absurd (omega arith)
      go false false h = absurd (omega arith)

  pub burst_fits : k ≡ 0 → fit_of s arrivals sizes departures answers ≡ true
  burst_fits z = go (ranges_hold s.ctl.n s.ctl.v) (fit_of s arrivals sizes departures answers) (sym e ∙ z)
    where
      go : (a b : Bool) → worked (not a) (not b) ≡ 0 → b ≡ true
      go a true h = refl
      go true false h = absurd (omega arith)
      go false false h = absurd (omega arith)
