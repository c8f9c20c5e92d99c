-- The cases of the definitions, over plain numbers.
use Rattle.std.proofs.Common.{◌≡◌, ℕ, suc, ◌+◌, ◌*◌, ◌/◌, ◌^◌, ◌<◌, ◌≤◌, Bool, true, false, not, ◌&&◌, List, length, get_or, drop, sym, refl, ◌∙◌, arith, drop-cons, ltb-true, eq-eqb, ne_eqb, eqb-true, le-leb, leb-true}
use mir.Val.{bool_byte}
use native.Mathlib.Decide.{dec_lt}
use borrow.Author.Tests.{eqb-false, lt-leb}
use Rattle.meaning.specs.Plain.{when◌then◌else◌, ◌≤?◌, ◌=?◌}
use Rattle.meaning.specs.Numbers.{ranges_hold}
use Rattle.meaning.specs.declared.Record.{Record}
use Rattle.call_tally.specs.Tally.{most_cells, sum, tally_fits, is_connection, space_fits, tally_refusal, lowest, share_fits}
use Rattle.call_tally.proofs.Sums.{Over, not_wrapped}

-- two tests that hold together
pub false_true : false ≡ true → ⊥
false_true h = let z : ◌≡◌ {A = ℕ} 0 1 = cc in omega arith

pub both : (a b : Bool) → (a && b) ≡ true → (a ≡ true) × (b ≡ true)
both true b h = (refl, h)
both false b h = absurd (false_true h)

-- ── a tally that isn't refused ──
pub fits_facts : (bins : List ℕ) (cells : ℕ) → tally_fits bins cells ≡ true → (cells ≤ most_cells) × (sum bins ≡ cells)
unfolding tally_fits
fits_facts bins cells h =
    let t = both (cells ≤? most_cells) (sum bins =? cells) h in (leb-true _ _ t.0, eqb-true _ _ t.1)

pub fits_good : (bins : List ℕ) (cells : ℕ) → cells ≤ most_cells → sum bins ≡ cells → tally_fits bins cells ≡ true
unfolding tally_fits
fits_good bins cells h e = rw (le-leb _ _ h, eq-eqb _ _ e) refl

pub fits_bad : (bins : List ℕ) (cells : ℕ) → (sum bins ≡ cells → ⊥) → tally_fits bins cells ≡ false
unfolding tally_fits
fits_bad bins cells n = rw (ne_eqb _ _ n) (go (cells ≤? most_cells))
  where
    go : (b : Bool) → (b && false) ≡ false
    go true = refl
    go false = refl

pub fits_over : (bins : List ℕ) (cells : ℕ) → most_cells < cells → tally_fits bins cells ≡ false
unfolding tally_fits
fits_over bins cells h = rw (lt-leb _ _ h) refl

-- ── the lowest bin ──
module _ (need : ℕ) (bins : List ℕ) where
  -- bin i reaches it
  pub lowest_here : (i s : ℕ) → i < length bins → need ≤ 1000 * (s + get_or bins i 0) → lowest need s (drop i bins) ≡ 0
  unfolding lowest
  lowest_here i s h r = rw (drop-cons bins i 0 h, le-leb _ _ r) refl

  -- bin i does not
  pub lowest_next : (i s : ℕ) → i < length bins → 1000 * (s + get_or bins i 0) < need
      → lowest need s (drop i bins) ≡ suc (lowest need (s + get_or bins i 0) (drop (suc i) bins))
  unfolding lowest
  lowest_next i s h r = rw (drop-cons bins i 0 h, lt-leb _ _ r) refl

-- ── whether the bins add up: the sum w on 64 bits, what lies over all bins a, and 1 where w is not the number ──
-- the octet of a truth value is that 1 or 0
pub byte_is : (b : Bool) → bool_byte b ≡ (when b then 1 else 0)
byte_is true = refl
byte_is false = refl

module _ (bins : List ℕ) (cells w a : ℕ) (low : cells ≤ most_cells) (o : Over 64 (sum bins) w a) where
  small : a < 2 ^ 33 → (b : Bool) → (w =? cells) ≡ b → (a / 2 ^ 33 + (when not b then 1 else 0) =? 0) ≡ tally_fits bins cells
  small h true e =
      eq-eqb (a / 2 ^ 33 + 0) 0 (omega (arith, h))
      ∙ sym (fits_good bins cells low (sym (not_wrapped (sum bins) w a o h) ∙ eqb-true w cells e))
  small h false e =
      ne_eqb (a / 2 ^ 33 + 1) 0 (λ z. omega (arith, z))
      ∙ sym (fits_bad bins cells (λ z. eqb-false w cells e (not_wrapped (sum bins) w a o h ∙ z)))

  large : 2 ^ 33 ≤ a → (x : ℕ) → (a / 2 ^ 33 + x =? 0) ≡ tally_fits bins cells
  unfolding most_cells
  large h x =
      ne_eqb (a / 2 ^ 33 + x) 0 (λ z. omega (arith, z, h))
      ∙ sym (fits_bad bins cells (λ z. omega (arith, z, h, low, o.within)))

  pub judged : (a / 2 ^ 33 + (when not (w =? cells) then 1 else 0) =? 0) ≡ tally_fits bins cells
  judged = go (dec_lt a (2 ^ 33))
    where
      go : Dec (a < 2 ^ 33) → (a / 2 ^ 33 + (when not (w =? cells) then 1 else 0) =? 0) ≡ tally_fits bins cells
      go (yes h) = small h (w =? cells) refl
      go (no n) = large (omega (arith, n)) (when not (w =? cells) then 1 else 0)

-- ── the order of the refusals ──
-- what none of 1, 2, 4 and 3 means
four : (a b d e : Bool)
    → ◌≡◌ {A = ℕ} (when not a then 1 else when not b then 2 else when not d then 4 else when not e then 3 else 0) 0
    → (b ≡ true) × (e ≡ true)
four true true true true h = (refl, refl)
four true true true false h = absurd (omega (arith, h))
four true true false e h = absurd (omega (arith, h))
four true false d e h = absurd (omega (arith, h))
four false b d e h = absurd (omega (arith, h))

pub record NotRefused (bins : List ℕ) (cells : ℕ) (r : Record) (arrived c x o : ℕ) : Type 0 where
  pub long : arrived ≡ r.n
  pub space : o ≡ c → x < r.n
  pub fits : tally_fits bins cells ≡ true

module _ (bins : List ℕ) (cells : ℕ) (r : Record) (arrived c x o : ℕ) where
  space_low : space_fits r.n c x o ≡ true → o ≡ c → x < r.n
  unfolding space_fits
  space_low h e = ltb-true x r.n (rw (eq-eqb o c e) at h)

  pub not_refused : tally_refusal bins cells r arrived c x o ≡ 0 → NotRefused bins cells r arrived c x o
  unfolding tally_refusal
  not_refused h =
      let t = four (ranges_hold r.n r.v) (arrived =? r.n) (is_connection r.v c) (space_fits r.n c x o && tally_fits bins cells) h in
      let u = both (space_fits r.n c x o) (tally_fits bins cells) t.1 in
      record { long = eqb-true arrived r.n t.0; space = space_low u.0; fits = u.1 }

-- ── a share that isn't refused ──
pub share_facts : (share cells : ℕ) → share_fits share cells ≡ true → (1 ≤ share) × (share ≤ 1000) × (1 ≤ cells)
unfolding share_fits
share_facts share cells h =
    let t = both (1 ≤? share && share ≤? 1000) (1 ≤? cells) h in
    let u = both (1 ≤? share) (share ≤? 1000) t.0 in
    (leb-true _ _ u.0, leb-true _ _ u.1, leb-true _ _ t.1)

pub share_good : (share cells : ℕ) → 1 ≤ share → share ≤ 1000 → 1 ≤ cells → share_fits share cells ≡ true
unfolding share_fits
share_good share cells a b d = rw (le-leb _ _ a, le-leb _ _ b, le-leb _ _ d) refl
