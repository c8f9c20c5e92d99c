-- The laws D4, D5 and D6 of the percentile: document 02's words, then by counting delays, then by sorting them.
use Rattle.std.proofs.Common.{◌≡◌, ℕ, zero, suc, ◌+◌, ◌-◌, ◌*◌, ◌<◌, ◌≤◌, Bool, true, false, List, [], ◌∷◌, length, get_or, take, sym, refl, ap, ◌∙◌, not-suc-le-zero, mul-le-mul_right, mul-le-mul, add-one, arith, leb-false, leb-true}
use Rattle.meaning.specs.Plain.{when◌then◌else◌, ◌≤?◌}
use Rattle.call_tally.specs.declared.Tally.{Tally}
use Rattle.call_tally.specs.Tally.{bins_in, most_cells, sum, tally_fits, share_fits, lowest, report_of, percentile_of}
use Rattle.call_tally.specs.Delays.{no_cells, tally_all, cut, how_many, is_it, below, rank}
use Rattle.call_tally.specs.Laws.{ByCount, OrderIs, SortedIs, LowestAt, LowestIs}
use Rattle.call_tally.proofs.Sums.{sum_more, sum_none}
use Rattle.call_tally.proofs.Cases.{fits_facts, fits_good, share_facts, share_good}
use Rattle.call_tally.proofs.Counting.{below_more, below_none, at_most_below, same_below, kth}
use Rattle.call_tally.proofs.TallyLaws.{bins_cut, bins_count}

-- ── the lowest bin ──
-- r is the lowest bin at which 1,000 times the running sum, s before the first, reaches need
record Lowest (need s : ℕ) (bins : List ℕ) (r : ℕ) : Type 0 where
  within : r < length bins
  reaches : need ≤ 1000 * (s + sum (take (suc r) bins))
  not_yet : (a : ℕ) → a < r → 1000 * (s + sum (take (suc a) bins)) < need

lowest_is : (need s : ℕ) (bins : List ℕ) → 1 ≤ length bins → need ≤ 1000 * (s + sum bins) → Lowest need s bins (lowest need s bins)
unfolding lowest sum
lowest_is need s [] n h = absurd (not-suc-le-zero n)
lowest_is need s (b ∷ bs) n h = go (lowest_is need (s + b) bs) (need ≤? 1000 * (s + b)) refl
  where
    z : sum (take 0 bs) ≡ 0
    z = sum_none bs

    some : (cs : List ℕ) → 1000 * (s + b) < need → need ≤ 1000 * (s + (b + sum cs)) → 1 ≤ length cs
    some [] far h = absurd (omega (arith, far, h))
    some (y ∷ ys) far h = omega arith

    earlier : 1000 * (s + b) < need → (r : ℕ) → ((a : ℕ) → a < r → 1000 * (s + b + sum (take (suc a) bs)) < need)
        → (a : ℕ) → a < suc r → 1000 * (s + (b + sum (take a bs))) < need
    earlier far r k zero l = omega (arith, z, far)
    earlier far r k (suc a) l = omega (arith, k a (omega (arith, l)))

    go : (1 ≤ length bs → need ≤ 1000 * (s + b + sum bs) → Lowest need (s + b) bs (lowest need (s + b) bs))
        → (t : Bool) → (need ≤? 1000 * (s + b)) ≡ t
        → Lowest need s (b ∷ bs) (when t then 0 else suc (lowest need (s + b) bs))
    go ih true e =
        record {
          within = omega arith;
          reaches = omega (arith, z, leb-true need (1000 * (s + b)) e);
          not_yet = λ a l. absurd (not-suc-le-zero l);
        }
    go ih false e =
        let far : 1000 * (s + b) < need = leb-false need (1000 * (s + b)) e in
        let i = ih (some bs far h) (omega (arith, h)) in
        record {
          within = omega (arith, i.within);
          reaches = omega (arith, i.reaches);
          not_yet = earlier far (lowest need (s + b) bs) i.not_yet;
        }

-- ── what is reported ──
module _ (t : Tally) (share : ℕ) where
  reported : tally_fits t.bins t.cells ≡ true → share_fits share t.cells ≡ true
      → percentile_of t share ≡ report_of 0 (lowest (share * t.cells) 0 t.bins)
  unfolding percentile_of
  reported f s = rw (f, s) refl

  not_fit : tally_fits t.bins t.cells ≡ false → (percentile_of t share).number ≡ 3
  unfolding percentile_of
  not_fit f = rw f refl

  not_asked : tally_fits t.bins t.cells ≡ true → share_fits share t.cells ≡ false → (percentile_of t share).number ≡ 15
  unfolding percentile_of
  not_asked f s = rw (f, s) refl

  -- all bins together reach what is needed
  enough : share ≤ 1000 → sum t.bins ≡ t.cells → share * t.cells ≤ 1000 * (0 + sum t.bins)
  enough h e = omega (arith, e, mul-le-mul_right t.cells h)

-- ── D6 ──
pub lowest_law : LowestIs
lowest_law t share n k = go (tally_fits t.bins t.cells) (share_fits share t.cells) refl refl
  where
    at : Lowest (share * t.cells) 0 t.bins (lowest (share * t.cells) 0 t.bins)
        → LowestAt t share (lowest (share * t.cells) 0 t.bins)
    at l =
        let r = lowest (share * t.cells) 0 t.bins in (
          omega (arith, l.within, n),
          rw (add-one r) (omega (arith, l.reaches)),
          λ a h. rw (add-one a) (omega (arith, l.not_yet a h)),
        )

    go : (f s : Bool) → tally_fits t.bins t.cells ≡ f → share_fits share t.cells ≡ s
        → LowestAt t share (percentile_of t share).bin
    go false s ef es = absurd (omega (arith, k, not_fit t share ef))
    go true false ef es = absurd (omega (arith, k, not_asked t share ef es))
    go true true ef es =
        let f = fits_facts t.bins t.cells ef in
        let s = share_facts share t.cells es in
        rw (reported t share ef es)
        (at (lowest_is (share * t.cells) 0 t.bins (omega (arith, n)) (enough t share s.1 f.1)))

-- ── D4 ──
-- the running sum before bin b is how many delays, cut at 63, are below b
running : (ds bins : List ℕ) → length bins ≡ bins_in → ((b : ℕ) → get_or bins b 0 ≡ how_many (is_it b) (cut ds))
    → (b : ℕ) → b ≤ bins_in → sum (take b bins) ≡ how_many (below b) (cut ds)
running ds bins n k zero h = sum_none bins ∙ sym (below_none (cut ds))
running ds bins n k (suc b) h =
    omega (arith, sum_more bins b (omega (arith, n, h)), k b, below_more b (cut ds), running ds bins n k b (omega (arith, h)))

module _ (ds : List ℕ) (share : ℕ) (some : 1 ≤ length ds) (most : length ds ≤ most_cells) (low : 1 ≤ share) (high : share ≤ 1000) where
  is_bin : percentile_of (tally_all no_cells ds) share ≡ report_of 0 (lowest (share * (tally_all no_cells ds).cells) 0 (tally_all no_cells ds).bins)
  is_bin =
      let k = bins_count ds most in
      reported (tally_all no_cells ds) share (fits_good _ _ k.adds_up.1 k.adds_up.0)
      (share_good share _ low high (omega (arith, k.cells_are, some)))

  by_count : (r : ℕ) → Lowest (share * (tally_all no_cells ds).cells) 0 (tally_all no_cells ds).bins r → ByCount ds share r
  by_count r l =
      let k = bins_count ds most in
      let u = tally_all no_cells ds in
      let run = running ds u.bins k.adds_up.2 (bins_cut ds most) in
      let e : share * u.cells ≡ share * length ds = ap (λ (n : ℕ). share * n) k.cells_are in
      let w : r < bins_in = omega (arith, l.within, k.adds_up.2) in (
        omega (arith, e, l.reaches, run (suc r) w, at_most_below r (cut ds)),
        earlier r w l.not_yet e (run r (omega (arith, w))),
      )
    where
      earlier : (r : ℕ) → r < bins_in
          → ((a : ℕ) → a < r → 1000 * (0 + sum (take (suc a) (tally_all no_cells ds).bins)) < share * (tally_all no_cells ds).cells)
          → share * (tally_all no_cells ds).cells ≡ share * length ds
          → sum (take r (tally_all no_cells ds).bins) ≡ how_many (below r) (cut ds)
          → how_many (below r) (cut ds) < rank share (length ds)
      earlier zero w k e run = omega (arith, below_none (cut ds), mul-le-mul low some)
      earlier (suc a) w k e run = omega (arith, run, e, k a (omega arith))

  ordered : ByCount ds share (percentile_of (tally_all no_cells ds) share).bin
  ordered =
      let k = bins_count ds most in
      let u = tally_all no_cells ds in
      rw is_bin
      (by_count _ (lowest_is (share * u.cells) 0 u.bins (omega (arith, k.adds_up.2)) (enough u share high k.adds_up.0)))

pub order_law : OrderIs
order_law ds share some most low high =
    (rw (is_bin ds share some most low high) refl, ordered ds share some most low high)

-- ── D5 ──
pub sorted_law : SortedIs
sorted_law ds sorted share some most low high up same =
    let b = (percentile_of (tally_all no_cells ds) share).bin in
    let o = ordered ds share some most low high in
    sym
    (kth sorted b (rank share (length ds) - 1) up
    (omega (arith, o.0, o.1, at_most_below b (cut ds), same_below sorted (cut ds) same (suc b)))
    (omega (arith, o.1, same_below sorted (cut ds) same b)))
