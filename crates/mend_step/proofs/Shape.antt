-- What the reader reads depends on the record's own octets, and on whether its place is 0: the shape of a record that is
-- read, and back.
use Prim.Native.Nat.{ℕ, ◌+◌, ◌≤◌, ◌<◌}
use mathlib.Core.Path.{◌≡◌, refl, sym, ap, subst, ◌∙◌}
use mathlib.Core.Bool.{Bool, true, false, ◌&&◌}
use mathlib.Core.List.{List}
use lib.ListN.{length, get_or}
use borrow.Author.Tests.{leb-true, eqb-true, eqb-false, ne_eqb, le-leb}
use native.Mathlib.Omega.{arith}
use Rattle.meaning.specs.Plain.{when◌then◌else◌, ◌<?◌, ◌≤?◌, ◌=?◌}
use Rattle.trace_record.specs.Trace.{TraceRecord, SL, Stands, unreadable}
use Rattle.trace_record.specs.Trace.{be16, whole, setup_at, open_at, sustain_at, close_at, open_path_at, close_path_at, cell_at, pause_at, first_at, later_at, stands_at}
use Rattle.trace_record.specs.Trace.{mark_octets, mark_gm, mark_gr, mark_gn, mark_vo, mark_vx, mark_ca, mark_sl, mark_vs, mark_po, mark_px}
use Rattle.trace_record.specs.Trace.{long_gm, long_vo, long_vx, long_ca, long_sl, long_vs, long_po, long_px}
use Rattle.trace_record.proofs.Cases.{whole_read, stands_first, stands_later}
use Rattle.mend_step.specs.Salvage.{none, up_to, reading_of, reads_to, is_mark, known_mark}

-- a first record's mark
pub data First (m : ℕ) : Type 0 where
  gm : m ≡ mark_gm → First m
  gr : m ≡ mark_gr → First m
  gn : m ≡ mark_gn → First m

-- a later record's mark m, the number n behind it, and how long the record is
pub data Later (m n l : ℕ) : Type 0 where
  ca : m ≡ mark_ca → l ≡ long_ca → Later m n l
  sl : m ≡ mark_sl → l ≡ long_sl → (n ≡ 0 → ⊥) → Later m n l
  vo : m ≡ mark_vo → l ≡ long_vo → Later m n l
  vx : m ≡ mark_vx → l ≡ long_vx → Later m n l
  vs : m ≡ mark_vs → l ≡ long_vs → Later m n l
  po : m ≡ mark_po → l ≡ long_po → Later m n l
  px : m ≡ mark_px → l ≡ long_px → Later m n l

-- the mark m and the number n behind it, at p, of a record that ends at e
pub data Kind (m n p e : ℕ) : Type 0 where
  first : p ≡ 0 → First m → e ≡ p + long_gm → Kind m n p e
  later : (l : ℕ) → 0 < p → Later m n l → e ≡ p + l → Kind m n p e

pub record Shape (s : List ℕ) (p e : ℕ) : Type 0 where
  pub within : e ≤ length s
  pub kind : Kind (be16 s p) (be16 s (p + 2)) p e

choose : (P : Stands → Type 0) (b : Bool) {x y : Stands} → (b ≡ true → P x) → (b ≡ false → P y) → P (when b then x else y)
choose P true t f = t refl
choose P false t f = f refl

-- ---- a record that is read has a shape

module _ (s : List ℕ) (p e : ℕ) where
  abbrev Shaped : Stands → Type 0
  Shaped x = reading_of x ≡ up_to e → Shape s p e

  none_shaped : none ≡ up_to e → Shape s p e
  none_shaped h = let z : ◌≡◌ {A = ℕ} 0 1 = cc in absurd (omega arith)

  whole_shaped : (long : ℕ) (r : TraceRecord) → (e ≡ p + long → Kind (be16 s p) (be16 s (p + 2)) p e) → Shaped (whole s p long r)
  unfolding whole
  whole_shaped long r k =
      choose Shaped (p + long ≤? length s)
      (λ t h. let q : e ≡ p + long = cc in record { within = omega (arith, leb-true (p + long) (length s) t, q); kind = k q })
      (λ _. none_shaped)

  first_shaped : p ≡ 0 → Shaped (first_at s p (be16 s p))
  unfolding first_at setup_at
  first_shaped z =
      choose Shaped (be16 s p =? mark_gm) (λ t. whole_shaped long_gm _ (first z (gm (eqb-true _ _ t))))
      (λ _. choose Shaped (be16 s p =? mark_gr) (λ t. whole_shaped long_gm _ (first z (gr (eqb-true _ _ t))))
      (λ _. choose Shaped (be16 s p =? mark_gn) (λ t. whole_shaped long_gm _ (first z (gn (eqb-true _ _ t)))) (λ _. none_shaped)))

  later_shaped : 0 < p → Shaped (later_at s p (be16 s p))
  unfolding later_at open_at sustain_at close_at open_path_at close_path_at cell_at pause_at
  later_shaped z =
      choose Shaped (be16 s p =? mark_ca) (λ t. whole_shaped long_ca _ (later long_ca z (ca (eqb-true _ _ t) refl)))
      (λ _. choose Shaped (be16 s p =? mark_sl)
      (λ t. choose Shaped (be16 s (p + 2) =? 0) (λ _. none_shaped) (λ f. whole_shaped long_sl _ (later long_sl z (sl (eqb-true _ _ t) refl (eqb-false _ _ f)))))
      (λ _. choose Shaped (be16 s p =? mark_vo) (λ t. whole_shaped long_vo _ (later long_vo z (vo (eqb-true _ _ t) refl)))
      (λ _. choose Shaped (be16 s p =? mark_vx) (λ t. whole_shaped long_vx _ (later long_vx z (vx (eqb-true _ _ t) refl)))
      (λ _. choose Shaped (be16 s p =? mark_vs) (λ t. whole_shaped long_vs _ (later long_vs z (vs (eqb-true _ _ t) refl)))
      (λ _. choose Shaped (be16 s p =? mark_po) (λ t. whole_shaped long_po _ (later long_po z (po (eqb-true _ _ t) refl)))
      (λ _. choose Shaped (be16 s p =? mark_px) (λ t. whole_shaped long_px _ (later long_px z (px (eqb-true _ _ t) refl))) (λ _. none_shaped)))))))

  positive : (p ≡ 0 → ⊥) → 0 < p
  positive h = omega arith

  pub reads_shape : reads_to s p ≡ up_to e → Shape s p e
  unfolding reads_to stands_at
  reads_shape =
      choose Shaped (1 ≤? p && p =? length s) (λ _. none_shaped)
      (λ _. choose Shaped (length s <? p + mark_octets) (λ _. none_shaped)
      (λ _. choose Shaped (p =? 0) (λ t. first_shaped (eqb-true _ _ t)) (λ f. later_shaped (positive (eqb-false _ _ f)))))

-- ---- a shape's length, and its mark

pub later_long : {m n l : ℕ} → Later m n l → (4 ≤ l) × (l ≤ long_ca)
later_long (ca h q) = (omega arith, omega arith)
later_long (sl h q n) = (omega arith, omega arith)
later_long (vo h q) = (omega arith, omega arith)
later_long (vx h q) = (omega arith, omega arith)
later_long (vs h q) = (omega arith, omega arith)
later_long (po h q) = (omega arith, omega arith)
later_long (px h q) = (omega arith, omega arith)

pub kind_long : {m n p e : ℕ} → Kind m n p e → p + 4 ≤ e
kind_long (first z m q) = omega arith
kind_long (later l z m q) = omega (arith, (later_long m).0)

-- a cell's record is the longest
pub kind_short : {m n p e : ℕ} → Kind m n p e → e ≤ p + long_ca
kind_short (first z m q) = omega arith
kind_short (later l z m q) = omega (arith, (later_long m).1)

first_mark : {m : ℕ} → First m → is_mark m ≡ true
unfolding is_mark
first_mark (gm h) = ap is_mark h
first_mark (gr h) = ap is_mark h
first_mark (gn h) = ap is_mark h

later_mark : {m n l : ℕ} → Later m n l → is_mark m ≡ true
unfolding is_mark
later_mark (ca h q) = ap is_mark h
later_mark (sl h q n) = ap is_mark h
later_mark (vo h q) = ap is_mark h
later_mark (vx h q) = ap is_mark h
later_mark (vs h q) = ap is_mark h
later_mark (po h q) = ap is_mark h
later_mark (px h q) = ap is_mark h

kind_mark : {m n p e : ℕ} → Kind m n p e → is_mark m ≡ true
kind_mark (first z m q) = first_mark m
kind_mark (later l z m q) = later_mark m

pub shape_mark : (s : List ℕ) (p e : ℕ) → Shape s p e → known_mark s p ≡ true
unfolding known_mark
shape_mark s p e h =
    let l = kind_long h.kind in
    simp (le-leb (p + mark_octets) (length s) (omega (arith, l, h.within)), kind_mark h.kind)

-- ---- and back: the record of a mark

module _ (s : List ℕ) (p : ℕ) where
  record Whole (x : Stands) (l : ℕ) : Type 0 where
    pub what : TraceRecord
    pub is : x ≡ whole s p l what

  first_whole : First (be16 s p) → Whole (first_at s p (be16 s p)) long_gm
  unfolding first_at setup_at
  first_whole (gm h) = record { what = _; is = ap (first_at s p) h }
  first_whole (gr h) = record { what = _; is = ap (first_at s p) h }
  first_whole (gn h) = record { what = _; is = ap (first_at s p) h }

  so_long : {x : Stands} {l : ℕ} (k : ℕ) (r : TraceRecord) → l ≡ k → x ≡ whole s p k r → Whole x l
  so_long k r q e = record { what = r; is = e ∙ ap (λ (n : ℕ). whole s p n r) (sym q) }

  later_whole : {l : ℕ} → Later (be16 s p) (be16 s (p + 2)) l → Whole (later_at s p (be16 s p)) l
  unfolding later_at open_at sustain_at close_at open_path_at close_path_at cell_at pause_at
  later_whole (ca h q) = so_long long_ca _ q (ap (later_at s p) h)
  later_whole (sl h q n) =
      let r = SL (be16 s (p + 2)) in
      so_long long_sl r q (ap (later_at s p) h ∙ ap (λ (b : Bool). when b then unreadable p else whole s p long_sl r) (ne_eqb (be16 s (p + 2)) 0 n))
  later_whole (vo h q) = so_long long_vo _ q (ap (later_at s p) h)
  later_whole (vx h q) = so_long long_vx _ q (ap (later_at s p) h)
  later_whole (vs h q) = so_long long_vs _ q (ap (later_at s p) h)
  later_whole (po h q) = so_long long_po _ q (ap (later_at s p) h)
  later_whole (px h q) = so_long long_px _ q (ap (later_at s p) h)

  read_at : {e : ℕ} (l : ℕ) (r : TraceRecord) → e ≡ p + l → e ≤ length s → whole s p l r ≡ stands_at s p → reads_to s p ≡ up_to e
  unfolding reads_to
  read_at {e} l r q h w = ap reading_of (sym w ∙ sym (whole_read s p l r refl (omega arith))) ∙ ap up_to (sym q)

  kind_reads : (e : ℕ) → e ≤ length s → Kind (be16 s p) (be16 s (p + 2)) p e → reads_to s p ≡ up_to e
  kind_reads e within (first z m q) =
      let w = first_whole m in
      read_at long_gm w.what q within (stands_first s p (omega arith) (omega arith) refl z (sym w.is))
  kind_reads e within (later l z m q) =
      let w = later_whole m in
      let j = later_long m in
      read_at l w.what q within (stands_later s p (omega (arith, j.0)) (omega (arith, j.0)) refl (omega arith) (sym w.is))

pub shape_reads : (s : List ℕ) (p e : ℕ) → Shape s p e → reads_to s p ≡ up_to e
shape_reads s p e h = kind_reads s p e h.within h.kind

-- ---- the same octets at another place, earlier or later

kind_moved : {m n p e m' n' : ℕ} (p' l : ℕ) → m ≡ m' → n ≡ n' → e ≡ p + l → (p ≡ 0 → p' ≡ 0) → (0 < p → 0 < p') → Kind m n p e
    → Kind m' n' p' (p' + l)
kind_moved p' l mm nn k f g (first z m q) = first (f z) (subst First mm m) (omega arith)
kind_moved {n = n} {m' = m'} p' l mm nn k f g (later i z m q) =
    later i (g z) (subst (λ (x : ℕ). Later m' x i) nn (subst (λ (x : ℕ). Later x n i) mm m)) (omega arith)

be16_moved : (s : List ℕ) (p : ℕ) (s' : List ℕ) (p' : ℕ) → get_or s p 0 ≡ get_or s' p' 0 → get_or s (p + 1) 0 ≡ get_or s' (p' + 1) 0
    → be16 s p ≡ be16 s' p'
unfolding be16
be16_moved s p s' p' x y = omega (arith, x, y)

pub shape_moved : (s : List ℕ) (p : ℕ) (s' : List ℕ) (p' l : ℕ) → ((i : ℕ) → i < l → get_or s (p + i) 0 ≡ get_or s' (p' + i) 0)
    → p' + l ≤ length s' → (p ≡ 0 → p' ≡ 0) → (0 < p → 0 < p') → Shape s p (p + l) → Shape s' p' (p' + l)
shape_moved s p s' p' l h w f g t =
    let j = kind_long t.kind in
    let z : (n : ℕ) → n + 0 ≡ n = λ n. omega arith in
    let y : (n : ℕ) → n + 3 ≡ n + 2 + 1 = λ n. omega arith in
    let zero = ap (λ (i : ℕ). get_or s i 0) (sym (z p)) ∙ h 0 (omega (arith, j)) ∙ ap (λ (i : ℕ). get_or s' i 0) (z p') in
    let three = ap (λ (i : ℕ). get_or s i 0) (sym (y p)) ∙ h 3 (omega (arith, j)) ∙ ap (λ (i : ℕ). get_or s' i 0) (y p') in
    record {
      within = w;
      kind = kind_moved p' l (be16_moved s p s' p' zero (h 1 (omega (arith, j))))
          (be16_moved s (p + 2) s' (p' + 2) (h 2 (omega (arith, j))) three) refl f g t.kind;
    }
