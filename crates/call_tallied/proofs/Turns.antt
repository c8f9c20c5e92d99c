-- One slot of a burst that tallies, by how it ends; that the tally stands after it; and the slots that follow it.
use Prim.Native.Nat.{ℕ, suc, ◌+◌, ◌*◌, ◌≤◌, ◌<◌}
use mathlib.Core.Path.{◌≡◌, refl, sym, ◌∙◌, ap, ap₂, subst}
use mathlib.Core.Logic.{◌≢◌}
use mathlib.Core.Bool.{Bool, true, false, not}
use mathlib.Core.List.{List, ◌∷◌}
use native.Mathlib.Omega.{arith}
use native.Mathlib.Numerals.{add-one}
use lib.ListN.{length, get_or, drop, drop_of_length-le}
use lib.Seq.{drop-cons}
use borrow.Author.Tests.{eq-eqb, ne_eqb, eqb-false}
use Rattle.meaning.specs.declared.Record.{Record}
use Rattle.meaning.specs.Plain.{when◌then◌else◌, ◌=?◌}
use Rattle.meaning.specs.Work.{Work}
use Rattle.meaning.specs.Slot.{slot}
use Rattle.call_burst.specs.Burst.{Stretch, size_fits, cell_lent, served, stopped, slot_done, one_slot}
use Rattle.call_tally.specs.declared.Tally.{Tally}
use Rattle.call_tally.specs.Tally.{bins_in, standing, tally_refusal, tally_slot}
use Rattle.call_tally.specs.Laws.{AddsUp}
use Rattle.call_tally.proofs.Cases.{fits_good}
use Rattle.call_tally.proofs.Standing.{Stands, stands, standing_is, still}
use Rattle.call_burst.proofs.TurnLaws.{slot_kept, slot_counted}
use Rattle.call_tallied.specs.Tallied.{Tallying, tallying_of, takes_slot, one_tallied, slots_tallied}
use Rattle.call_tallied.proofs.Parts.{answer_space, answer_departing}

-- a tally is judged by N, V and the number of arrival slots alone
pub standing_same : (bins : List ℕ) (cells : ℕ) (r r' : Record) (a a' c : ℕ) → r'.n ≡ r.n → r'.v ≡ r.v → a' ≡ a
    → standing bins cells r' a' c ≡ standing bins cells r a c
unfolding tally_refusal
standing_same bins cells r r' a a' c n v e = rw (n, v, e) refl

-- a slot of which no number is told was served
served_is : (arrivals : List ℕ) (size : ℕ) (b : Stretch) → (one_slot arrivals size b).number ≡ 0
    → one_slot arrivals size b ≡ served b (slot b.state (cell_lent arrivals b.done size))
unfolding one_slot slot_done stopped
served_is arrivals size b = go (size_fits size) (w.answer.number =? 0) refl
  where
    w : Work
    w = slot b.state (cell_lent arrivals b.done size)

    go : (f t : Bool) → (w.answer.number =? 0) ≡ t
        → (when not f then stopped b 9 else when not t then stopped b w.answer.number else served b w).number ≡ 0
        → (when not f then stopped b 9 else when not t then stopped b w.answer.number else served b w) ≡ served b w
    go false t e h = absurd (omega (arith, h))
    go true false e h = absurd (eqb-false w.answer.number 0 e h)
    go true true e h = refl

-- x is what the slot left
module _ (arrivals : List ℕ) (c size : ℕ) (b : Stretch) (t : Tally) (x : Stretch) (e : x ≡ one_slot arrivals size b) where
  pub one_stops : x.number ≢ 0 → tallying_of x t ≡ one_tallied arrivals c size (tallying_of b t)
  unfolding one_tallied
  one_stops ne = ap (λ (y : Stretch). tallying_of y t) e ∙ stop
    where
      stop : tallying_of (one_slot arrivals size b) t ≡ one_tallied arrivals c size (tallying_of b t)
      stop = rw (ne_eqb (one_slot arrivals size b).number 0 (λ z. ne (ap (λ (y : Stretch). y.number) e ∙ z)))

  -- the tally takes what stands in the slot's answer
  pub one_takes : x.number ≡ 0 → 6 * b.done + 6 ≤ length b.answers → (t' : Tally)
      → t' ≡ (tally_slot t x.state.ctl x.state.arrived c (get_or x.answers (6 * b.done + 4) 0) (get_or x.answers (6 * b.done + 5) 0)).tally
      → tallying_of x t' ≡ one_tallied arrivals c size (tallying_of b t)
  unfolding one_tallied takes_slot served
  one_takes z room t' h = ap₂ (λ (y : Stretch) (u : Tally). tallying_of y u) e taken ∙ serve
    where
      w : Work
      w = slot b.state (cell_lent arrivals b.done size)

      none : (one_slot arrivals size b).number ≡ 0
      none = sym (ap (λ (y : Stretch). y.number) e) ∙ z

      taken : t' ≡ takes_slot c t w
      taken =
          h
          ∙ ap (λ (y : Stretch). (tally_slot t y.state.ctl y.state.arrived c (get_or y.answers (6 * b.done + 4) 0) (get_or y.answers (6 * b.done + 5) 0)).tally)
          (e ∙ served_is arrivals size b none)
          ∙ ap₂ (λ (p q : ℕ). (tally_slot t w.state.ctl w.state.arrived c p q).tally)
          (answer_space b.answers b.done w.answer room) (answer_departing b.answers b.done w.answer room)

      serve : tallying_of (one_slot arrivals size b) (takes_slot c t w) ≡ one_tallied arrivals c size (tallying_of b t)
      serve = rw (eq-eqb (one_slot arrivals size b).number 0 none)

-- ---- what a slot leaves that was served
tallied_stretch : (arrivals : List ℕ) (c size : ℕ) (b : Stretch) (t : Tally) → (one_tallied arrivals c size (tallying_of b t)).stretch ≡ one_slot arrivals size b
unfolding one_tallied
tallied_stretch arrivals c size b t = go ((one_slot arrivals size b).number =? 0)
  where
    go : (f : Bool) → (when f then tallying_of (one_slot arrivals size b) (takes_slot c t (slot b.state (cell_lent arrivals b.done size))) else tallying_of (one_slot arrivals size b) t).stretch
        ≡ one_slot arrivals size b
    go true = refl
    go false = refl

module _ (arrivals : List ℕ) (c size : ℕ) (b : Stretch) (t : Tally) (y : Tallying) (e : y ≡ one_tallied arrivals c size (tallying_of b t)) where
  pub next_stretch : y.stretch ≡ one_slot arrivals size b
  next_stretch = ap (λ (x : Tallying). x.stretch) e ∙ tallied_stretch arrivals c size b t

  pub next_kept : (y.stretch.state.ctl.n ≡ b.state.ctl.n) × (y.stretch.state.ctl.v ≡ b.state.ctl.v)
  next_kept =
      let k = slot_kept arrivals size b in
      (ap (λ (x : Stretch). x.state.ctl.n) next_stretch ∙ k.0, ap (λ (x : Stretch). x.state.ctl.v) next_stretch ∙ k.1)

  module _ (z : y.stretch.number ≡ 0) where
    none : (one_slot arrivals size b).number ≡ 0
    none = sym (ap (λ (x : Stretch). x.number) next_stretch) ∙ z

    pub next_counted : y.stretch.done ≡ b.done + 1
    next_counted = ap (λ (x : Stretch). x.done) next_stretch ∙ slot_counted arrivals size b none

    abbrev w : Work
    w = slot b.state (cell_lent arrivals b.done size)

    took : y.tally ≡ (tally_slot t y.stretch.state.ctl y.stretch.state.arrived c w.answer.space w.answer.departing).tally
    unfolding one_tallied takes_slot served
    took =
        ap (λ (x : Tallying). x.tally) e ∙ serve
        ∙ ap (λ (x : Stretch). (tally_slot t x.state.ctl x.state.arrived c w.answer.space w.answer.departing).tally)
        (sym (next_stretch ∙ served_is arrivals size b none))
      where
        serve : (one_tallied arrivals c size (tallying_of b t)).tally ≡ takes_slot c t w
        serve = rw (eq-eqb (one_slot arrivals size b).number 0 none)

    -- and the tally stands
    module _ (s : standing t.bins t.cells b.state.ctl (length b.state.arrived) c ≡ 0) (n : length t.bins ≡ bins_in)
        (k : length y.stretch.state.arrived ≡ length b.state.arrived) where
      g : Stands t.bins t.cells y.stretch.state.ctl (length y.stretch.state.arrived) c
      g =
          stands t.bins t.cells y.stretch.state.ctl (length y.stretch.state.arrived) c
          (standing_same t.bins t.cells b.state.ctl y.stretch.state.ctl (length b.state.arrived) (length y.stretch.state.arrived) c next_kept.0 next_kept.1 k ∙ s)

      pub next_adds : AddsUp y.tally
      next_adds =
          subst AddsUp (sym took)
          (still t y.stretch.state.ctl y.stretch.state.arrived c w.answer.space w.answer.departing g n)

      pub next_stands : standing y.tally.bins y.tally.cells y.stretch.state.ctl (length y.stretch.state.arrived) c ≡ 0
      next_stands =
          standing_is y.tally.bins y.tally.cells y.stretch.state.ctl (length y.stretch.state.arrived) c
          (record { ranges = g.ranges; long = g.long; named = g.named; fits = fits_good y.tally.bins y.tally.cells next_adds.1 next_adds.0 })

-- ---- the sizes from the i-th on
module _ (arrivals : List ℕ) (c : ℕ) (sizes : List ℕ) (i : ℕ) (low : i < length sizes) (b y : Tallying) (e : y ≡ one_tallied arrivals c (get_or sizes i 0) b) where
  abbrev rest : Tallying → Tallying
  rest x = when x.stretch.number =? 0 then slots_tallied arrivals c (drop (suc i) sizes) x else x

  slots_rest : slots_tallied arrivals c (drop i sizes) b ≡ rest y
  unfolding slots_tallied
  slots_rest = ap (λ (l : List ℕ). slots_tallied arrivals c l b) (drop-cons sizes i 0 low) ∙ opened ∙ ap rest (sym e)
    where
      opened : slots_tallied arrivals c (get_or sizes i 0 ∷ drop (suc i) sizes) b ≡ rest (one_tallied arrivals c (get_or sizes i 0) b)
      opened = refl

  pub tallied_stop : y.stretch.number ≢ 0 → y ≡ slots_tallied arrivals c (drop i sizes) b
  tallied_stop ne = sym (slots_rest ∙ stop)
    where
      stop : rest y ≡ y
      stop = rw (ne_eqb y.stretch.number 0 ne)

  pub tallied_on : y.stretch.number ≡ 0 → slots_tallied arrivals c (drop (i + 1) sizes) y ≡ slots_tallied arrivals c (drop i sizes) b
  tallied_on z = on ∙ sym slots_rest
    where
      on : slots_tallied arrivals c (drop (i + 1) sizes) y ≡ rest y
      on = rw (add-one, eq-eqb y.stretch.number 0 z)

-- no sizes are left
pub tallied_end : (arrivals : List ℕ) (c : ℕ) (sizes : List ℕ) (i : ℕ) (b : Tallying) → length sizes ≤ i → b ≡ slots_tallied arrivals c (drop i sizes) b
unfolding slots_tallied
tallied_end arrivals c sizes i b high = sym (ap (λ (l : List ℕ). slots_tallied arrivals c l b) (drop_of_length-le sizes high))
