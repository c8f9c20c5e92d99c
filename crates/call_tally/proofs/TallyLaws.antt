-- The laws D1, D2 and D3 of a tally: its bins add up to its number, and each is the recount of the delays.
use Rattle.std.proofs.Common.{◌≡◌, ℕ, zero, suc, ◌+◌, ◌<◌, ◌≤◌, Bool, true, false, not, List, [], ◌∷◌, length, get_or, set, replicate, sym, refl, ◌∙◌, subst, arith, length-set, get_or-set_other, get_or-set_same, eq-eqb, ne_eqb, le-leb}
use native.Mathlib.Decide.{dec_lt, ℕ_discrete}
use borrow.Author.Tests.{lt-leb}
use Rattle.meaning.specs.Plain.{when◌then◌else◌, ◌≤?◌, ◌=?◌}
use Rattle.meaning.specs.Bucket.{elapsed}
use Rattle.call_tally.specs.declared.Tally.{Tally}
use Rattle.call_tally.specs.declared.Tallied.{Tallied}
use Rattle.call_tally.specs.Tally.{tally_of, tallied_of, bins_in, last_bin, bin_of, most_cells, sum, tally_refusal, one_more, tally_one, tally_slot}
use Rattle.call_tally.specs.Delays.{no_cells, tally_all, cut, how_many, is_it, at_least}
use Rattle.call_tally.specs.Laws.{AddsUp, StaysFit, BinsCount, NoMore}
use Rattle.call_tally.proofs.Sums.{sum_one_more}
use Rattle.call_tally.proofs.Cases.{fits_facts, not_refused}
use Rattle.call_tally.proofs.Counting.{one_if, cut_same}

-- ── one cell ──
bin_low : (d : ℕ) → bin_of d < bins_in
bin_low d = omega arith

pub no_more : NoMore
unfolding tally_one
no_more t d e = rw (eq-eqb _ _ e) refl

one_is : (t : Tally) (d : ℕ) → t.cells < most_cells → tally_one t d ≡ tally_of (one_more t.bins (bin_of d)) (t.cells + 1)
unfolding tally_one
one_is t d h = rw (ne_eqb t.cells most_cells (λ e. omega (arith, h, e))) refl

one_adds_up : (t : Tally) (d : ℕ) → AddsUp t → t.cells < most_cells → AddsUp (tally_of (one_more t.bins (bin_of d)) (t.cells + 1))
one_adds_up t d f h =
    let n : length (set t.bins (bin_of d) (get_or t.bins (bin_of d) 0 + 1)) ≡ length t.bins =
    length-set t.bins (bin_of d) (get_or t.bins (bin_of d) 0 + 1) in
    (omega (arith, f.0, sum_one_more t.bins (bin_of d) (omega (arith, f.2, bin_low d))), omega (arith, h), n ∙ f.2)

stays : (t : Tally) (d : ℕ) → AddsUp t → AddsUp (tally_one t d)
stays t d f = go (ℕ_discrete t.cells most_cells)
  where
    go : Dec (t.cells ≡ most_cells) → AddsUp (tally_one t d)
    go (yes e) = subst AddsUp (sym (no_more t d e)) f
    go (no n) =
        let h : t.cells < most_cells = omega (arith, n, f.1) in
        subst AddsUp (sym (one_is t d h)) (one_adds_up t d f h)

-- ── D1: one call ──
pub stays_fit : StaysFit
unfolding tally_slot
stays_fit t r arrived c x o n = go (tally_refusal t.bins t.cells r (length arrived) c x o) refl
  where
    after : ℕ → Bool → Tallied
    after k b =
        when not (k =? 0) then tallied_of k t
        else when not b then tallied_of 0 t
        else tallied_of 0 (tally_one t (elapsed r.t (get_or arrived x 0)))

    go : (k : ℕ) → tally_refusal t.bins t.cells r (length arrived) c x o ≡ k → (after k (o =? c)).number ≡ 0
        → AddsUp (after k (o =? c)).tally
    go (suc k) e h = absurd (omega (arith, rw (ne_eqb (suc k) 0 (λ z. omega (arith, z))) at h))
    go zero e h =
        let f = fits_facts t.bins t.cells (not_refused t.bins t.cells r (length arrived) c x o e).fits in
        here (o =? c) (f.1, f.0, n)
      where
        here : (b : Bool) → AddsUp t → AddsUp (after 0 b).tally
        here true f = stays t _ f
        here false f = f

-- ── D2: many cells ──
-- bin b after one cell more in bin k
bin_after : (bins : List ℕ) (k b : ℕ) → k < length bins → get_or (one_more bins k) b 0 ≡ get_or bins b 0 + one_if (is_it b k)
bin_after bins k b h = go (ℕ_discrete k b)
  where
    go : Dec (k ≡ b) → get_or (one_more bins k) b 0 ≡ get_or bins b 0 + one_if (k =? b)
    go (yes e) =
        rw (eq-eqb k b e)
        (subst (λ (j : ℕ). get_or (one_more bins k) j 0 ≡ get_or bins j 0 + 1) e (get_or-set_same bins k (get_or bins k 0 + 1) 0 h))
    go (no n) = rw (ne_eqb k b n) (get_or-set_other bins k b (get_or bins k 0 + 1) 0 (λ e. n (sym e)) ∙ omega arith)

-- t' is t with the delays ds tallied
record Grown (t t' : Tally) (ds : List ℕ) : Type 0 where
  cells_are : t'.cells ≡ t.cells + length ds
  bins_are : (b : ℕ) → get_or t'.bins b 0 ≡ get_or t.bins b 0 + how_many (is_it b) (cut ds)
  adds_up : AddsUp t'

grown : (t : Tally) (ds : List ℕ) → AddsUp t → t.cells + length ds ≤ most_cells → Grown t (tally_all t ds) ds
unfolding tally_all how_many cut
grown t [] f h = record { cells_are = omega arith; bins_are = λ b. omega arith; adds_up = f }
grown t (d ∷ ds) f h =
    let l : t.cells < most_cells = omega (arith, h) in
    let u = tally_of (one_more t.bins (bin_of d)) (t.cells + 1) in
    let g : Grown u (tally_all u ds) ds = grown u ds (one_adds_up t d f l) (omega (arith, h)) in
    rw (one_is t d l)
    (record {
      cells_are = omega (arith, g.cells_are);
      bins_are = λ b. omega (arith, g.bins_are b, bin_after t.bins (bin_of d) b (omega (arith, f.2, bin_low d)));
      adds_up = g.adds_up;
    })

empty_bins : (b : ℕ) → ◌≡◌ {A = ℕ} (get_or (replicate bins_in 0) b 0) 0
empty_bins b = below b bins_in
  where
    below : (b k : ℕ) → ◌≡◌ {A = ℕ} (get_or (replicate k 0) b 0) 0
    below b zero = refl
    below zero (suc k) = refl
    below (suc b) (suc k) = below b k

none_add_up : AddsUp no_cells
unfolding no_cells sum most_cells
none_add_up = (refl, omega arith, refl)

pub bins_cut : (ds : List ℕ) → length ds ≤ most_cells → (b : ℕ) → get_or (tally_all no_cells ds).bins b 0 ≡ how_many (is_it b) (cut ds)
unfolding no_cells
bins_cut ds h b = omega (arith, (grown no_cells ds none_add_up (omega (arith, h))).bins_are b, empty_bins b)

pub bins_count : BinsCount
unfolding no_cells
bins_count ds h =
    let g : Grown no_cells (tally_all no_cells ds) ds = grown no_cells ds none_add_up (omega (arith, h)) in
    record {
      cells_are = omega (arith, g.cells_are);
      bins_are = λ b l. bins_cut ds h b ∙ cut_same (is_it b) (is_it b) (low b l) ds;
      last_is = bins_cut ds h last_bin ∙ cut_same (is_it last_bin) (at_least last_bin) high ds;
      adds_up = g.adds_up;
    }
  where
    low : (b : ℕ) → b < last_bin → (d : ℕ) → (bin_of d =? b) ≡ (d =? b)
    low b l d = go (ℕ_discrete d b)
      where
        go : Dec (d ≡ b) → (bin_of d =? b) ≡ (d =? b)
        go (yes e) = eq-eqb (bin_of d) b (omega (arith, e, l)) ∙ sym (eq-eqb d b e)
        go (no n) = ne_eqb (bin_of d) b (λ z. omega (arith, z, n, l)) ∙ sym (ne_eqb d b n)

    high : (d : ℕ) → (bin_of d =? last_bin) ≡ (last_bin ≤? d)
    high d = go (dec_lt d last_bin)
      where
        go : Dec (d < last_bin) → (bin_of d =? last_bin) ≡ (last_bin ≤? d)
        go (yes l) = ne_eqb (bin_of d) last_bin (λ z. omega (arith, z, l)) ∙ sym (lt-leb last_bin d l)
        go (no n) = eq-eqb (bin_of d) last_bin (omega (arith, n)) ∙ sym (le-leb last_bin d (omega (arith, n)))
