-- A tally that stands, because it was judged before a burst: what a slot's departure then makes of it, and that it stands afterwards.
use Rattle.std.proofs.Common.{◌≡◌, ℕ, ◌+◌, ◌<◌, ◌≤◌, Bool, true, false, not, ◌&&◌, List, length, get_or, sym, refl, ◌∙◌, subst, arith, le-ltb, lt-ltb, eq-eqb, ne_eqb}
use native.Mathlib.Decide.{dec_lt, ℕ_discrete}
use Rattle.meaning.specs.Plain.{when◌then◌else◌, ◌=?◌}
use Rattle.meaning.specs.Numbers.{empty, ranges_hold, unused}
use Rattle.meaning.specs.Bucket.{elapsed}
use Rattle.meaning.specs.declared.Record.{Record}
use Rattle.call_tally.specs.declared.Tally.{Tally}
use Rattle.call_tally.specs.declared.Tallied.{Tallied}
use Rattle.call_tally.specs.Tally.{bins_in, bin_of, most_cells, tally_of, one_more, tally_fits, is_connection, space_fits, tally_refusal, standing, tally_one, tally_slot}
use Rattle.call_tally.specs.Laws.{AddsUp}
use Rattle.call_tally.proofs.Cases.{both, false_true, fits_facts}
use Rattle.call_tally.proofs.TallyLaws.{stays_fit}

-- ── what it means to stand ──
pub record Stands (bins : List ℕ) (cells : ℕ) (r : Record) (arrived c : ℕ) : Type 0 where
  pub ranges : ranges_hold r.n r.v ≡ true
  pub long : (arrived =? r.n) ≡ true
  pub named : is_connection r.v c ≡ true
  pub fits : tally_fits bins cells ≡ true

four : (a b d e : Bool)
    → ◌≡◌ {A = ℕ} (when not a then 1 else when not b then 2 else when not d then 4 else when not e then 3 else 0) 0
    → (a ≡ true) × (b ≡ true) × (d ≡ true) × (e ≡ true)
four true true true true h = (refl, refl, refl, refl)
four true true true false h = absurd (omega (arith, h))
four true true false e h = absurd (omega (arith, h))
four true false d e h = absurd (omega (arith, h))
four false b d e h = absurd (omega (arith, h))

-- number 0 names no connection
no_zero : (z c : ℕ) → is_connection z c ≡ true → 0 ≡ c → ⊥
unfolding is_connection unused
no_zero z c h e = false_true (rw (eq-eqb c 0 (sym e)) at h)

module _ (bins : List ℕ) (cells : ℕ) (r : Record) (arrived c : ℕ) where
  pub stands : standing bins cells r arrived c ≡ 0 → Stands bins cells r arrived c
  unfolding tally_refusal
  stands h =
      let t = four (ranges_hold r.n r.v) (arrived =? r.n) (is_connection r.v c) (space_fits r.n c empty 0 && tally_fits bins cells) h in
      let u = both (space_fits r.n c empty 0) (tally_fits bins cells) t.3 in
      record { ranges = t.0; long = t.1; named = t.2; fits = u.1 }

  pub standing_is : Stands bins cells r arrived c → standing bins cells r arrived c ≡ 0
  unfolding tally_refusal space_fits
  standing_is s = rw (s.ranges, s.long, s.named, s.fits, ne_eqb 0 c (no_zero r.v c s.named)) refl

-- ── a slot's departure ──
module _ (t : Tally) (r : Record) (arrived : List ℕ) (c x o : ℕ) (s : Stands t.bins t.cells r (length arrived) c) where
  abbrev given : Tallied
  given = tally_slot t r arrived c x o

  abbrev waited : ℕ
  waited = elapsed r.t (get_or arrived x 0)

  -- another connection's, or none
  pub takes_other : (o ≡ c → ⊥) → given.tally ≡ t
  unfolding tally_slot tally_refusal space_fits
  takes_other n = rw (s.ranges, s.long, s.named, s.fits, ne_eqb o c n) refl

  -- from no space
  pub takes_far : o ≡ c → r.n ≤ x → given.tally ≡ t
  unfolding tally_slot tally_refusal space_fits
  takes_far e h = rw (s.ranges, s.long, s.named, s.fits, eq-eqb o c e, le-ltb x r.n h) refl

  takes : o ≡ c → x < r.n → given.tally ≡ tally_one t waited
  unfolding tally_slot tally_refusal space_fits
  takes e h = rw (s.ranges, s.long, s.named, s.fits, eq-eqb o c e, lt-ltb x r.n h) refl

  pub takes_full : o ≡ c → x < r.n → t.cells ≡ most_cells → given.tally ≡ t
  unfolding tally_one
  takes_full e h f = takes e h ∙ rw (eq-eqb t.cells most_cells f) refl

  pub takes_one : o ≡ c → x < r.n → (t.cells ≡ most_cells → ⊥)
      → given.tally ≡ tally_of (one_more t.bins (bin_of waited)) (t.cells + 1)
  unfolding tally_one
  takes_one e h n = takes e h ∙ rw (ne_eqb t.cells most_cells n) refl

  none : o ≡ c → x < r.n → given.number ≡ 0
  unfolding tally_slot tally_refusal space_fits
  none e h = rw (s.ranges, s.long, s.named, s.fits, eq-eqb o c e, lt-ltb x r.n h) refl

  -- afterwards its bins add up still
  pub still : length t.bins ≡ bins_in → AddsUp given.tally
  still n = go (ℕ_discrete o c) (dec_lt x r.n)
    where
      same : given.tally ≡ t → AddsUp given.tally
      same e = let f = fits_facts t.bins t.cells s.fits in subst AddsUp (sym e) (f.1, f.0, n)

      go : Dec (o ≡ c) → Dec (x < r.n) → AddsUp given.tally
      go (no d) b = same (takes_other d)
      go (yes e) (no h) = same (takes_far e (omega arith))
      go (yes e) (yes h) = stays_fit t r arrived c x o n (none e h)
