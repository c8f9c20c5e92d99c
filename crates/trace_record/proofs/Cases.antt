-- The cases of `stands_at`, each from plain facts of the numbers: what a test of the code shows is what the definition
-- asks.
use mathlib.Core.Path.{◌≡◌, refl, sym, ap, subst, ◌∙◌}
use mathlib.Core.Logic.{◌⊎◌, inl, inr}
use mathlib.Core.Bool.{Bool, true, false, ◌&&◌}
use mathlib.Core.List.{List}
use Prim.Native.Nat.{ℕ, ◌+◌, ◌≤◌, ◌<◌}
use lib.ListN.{length}
use borrow.Author.Tests.{ne_eqb, eq-eqb, le-leb, lt-leb, lt-ltb, ltb-false, le-ltb}
use native.Mathlib.Omega.{arith}
use Rattle.std.proofs.Math.Bool.{and-false, beq}
use Rattle.meaning.specs.Words.{second_of}
use Rattle.meaning.specs.Plain.{when◌then◌else◌, ◌<?◌, ◌≤?◌, ◌=?◌}
use Rattle.trace_record.specs.Trace.{TraceRecord, SL, VS, Stands, event, finish, unreadable}
use Rattle.trace_record.specs.Trace.{record_of, record_at, MarkAt, be16, whole, setup_at, open_at, sustain_at, close_at, open_path_at, close_path_at, cell_at, pause_at, first_at, later_at, stands_at}
use Rattle.trace_record.specs.Trace.{mark_gm, mark_gr, mark_gn, mark_vo, mark_vx, mark_ca, mark_sl, mark_vs, mark_po, mark_px, long_sl}
use Rattle.trace_record.specs.Trace.{long_gm, long_vo, long_vs, long_vx, long_po, long_px, long_ca}
use Rattle.trace_record.specs.Marks.{letters_of, is_head, record_long}
use Rattle.trace_record.specs.declared.Event.{Event}
use Rattle.trace_record.specs.declared.mark.Mark.{Mark}
use Rattle.trace_record.specs.declared.mark.Mark.TheVariants.{Gm, Gr, Gn, Vo, Vs, Vx, Po, Px, Ca, Sl}

-- a record q as it was read, whose numbers are those of r
module _ (s : List ℕ) (at long : ℕ) (r : TraceRecord) where
  pub whole_read : {q : TraceRecord} → q ≡ r → at + long ≤ length s → event q (at + long) ≡ whole s at long r
  unfolding whole
  whole_read e h = simp (le-leb (at + long) (length s) h, e)

  pub whole_short : length s < at + long → unreadable at ≡ whole s at long r
  unfolding whole
  whole_short h = simp (lt-leb (at + long) (length s) h)

-- a VS by its eight numbers
pub sustain_same : {v m F C a b d e v' m' F' C' a' b' d' e' : ℕ} → v ≡ v' → m ≡ m' → F ≡ F' → C ≡ C'
    → a ≡ a' → b ≡ b' → d ≡ d' → e ≡ e' → VS v m F C (second_of a b d e) ≡ VS v' m' F' C' (second_of a' b' d' e')
sustain_same p1 p2 p3 p4 q1 q2 q3 q4 = rw (p1, p2, p3, p4, q1, q2, q3, q4)

-- an SL of 0, and a short one, can't be read
module _ (s : List ℕ) (at : ℕ) where
  either : (b : Bool) (x : Stands) → x ≡ (when b then x else x)
  either true x = refl
  either false x = refl

  pub pause_short : length s < at + long_sl → unreadable at ≡ pause_at s at
  unfolding pause_at whole
  pause_short h = simp (lt-leb (at + long_sl) (length s) h) (either (be16 s (at + 2) =? 0) (unreadable at))

  pub pause_none : be16 s (at + 2) ≡ 0 → unreadable at ≡ pause_at s at
  unfolding pause_at
  pause_none h = simp (eq-eqb (be16 s (at + 2)) 0 h)

  pub pause_some : {n : ℕ} → n ≡ be16 s (at + 2) → (n ≡ 0 → ⊥) → whole s at long_sl (SL n) ≡ pause_at s at
  unfolding pause_at
  pause_some e z = simp (ne_eqb (be16 s (at + 2)) 0 (λ q. z (e ∙ q)), e)

  pub pause_whole : {n : ℕ} → n ≡ be16 s (at + 2) → (n ≡ 0 → ⊥) → at + long_sl ≤ length s
      → event (SL n) (at + long_sl) ≡ pause_at s at
  pause_whole {n} e z h = whole_read s at long_sl (SL n) refl h ∙ pause_some e z

-- by the mark
module _ (s : List ℕ) (at : ℕ) where
  pub record_short : (m : Mark) → length s < at + record_long m → unreadable at ≡ record_at s at m
  unfolding record_at first_at later_at setup_at open_at sustain_at close_at open_path_at close_path_at cell_at
  record_short Gm h = whole_short s at long_gm _ h
  record_short Gr h = whole_short s at long_gm _ h
  record_short Gn h = whole_short s at long_gm _ h
  record_short Vo h = whole_short s at long_vo _ h
  record_short Vs h = whole_short s at long_vs _ h
  record_short Vx h = whole_short s at long_vx _ h
  record_short Po h = whole_short s at long_po _ h
  record_short Px h = whole_short s at long_px _ h
  record_short Ca h = whole_short s at long_ca _ h
  record_short Sl h = pause_short s at h

  -- a record e as it was read, whose numbers are those of r
  pub record_read : (m : Mark) {mark : Mark} {long : ℕ} {x e : Event} {r : TraceRecord} → mark ≡ m → long ≡ record_long mark
      → at + long ≤ length s → x ≡ e → record_of e ≡ r → whole s at (record_long m) r ≡ record_at s at m
      → event (record_of x) (at + long) ≡ record_at s at mark
  record_read m {mark} {long} {x} {e} {r} k l h i q w =
      let o : long ≡ record_long m = l ∙ ap record_long k in
      ap (λ (n : ℕ). event (record_of x) (at + n)) o
      ∙ whole_read s at (record_long m) r (ap record_of i ∙ q) (subst (λ (n : ℕ). at + n ≤ length s) o h)
      ∙ w ∙ sym (ap (record_at s at) k)

module _ (s : List ℕ) (at m : ℕ) where
  pub first_other : (m ≡ mark_gm → ⊥) → (m ≡ mark_gr → ⊥) → (m ≡ mark_gn → ⊥) → unreadable at ≡ first_at s at m
  unfolding first_at
  first_other gm gr gn = simp (ne_eqb m mark_gm gm, ne_eqb m mark_gr gr, ne_eqb m mark_gn gn)

  pub later_unknown : (m ≡ mark_ca → ⊥) → (m ≡ mark_sl → ⊥) → (m ≡ mark_vo → ⊥) → (m ≡ mark_vx → ⊥) → (m ≡ mark_vs → ⊥)
      → (m ≡ mark_po → ⊥) → (m ≡ mark_px → ⊥) → unreadable at ≡ later_at s at m
  unfolding later_at
  later_unknown ca sl vo vx vs po px =
      simp
      (ne_eqb m mark_ca ca, ne_eqb m mark_sl sl, ne_eqb m mark_vo vo, ne_eqb m mark_vx vx, ne_eqb m mark_vs vs, ne_eqb m mark_po po, ne_eqb m mark_px px)

-- a record by the letters of its mark
module _ (s : List ℕ) (at m : ℕ) {x : Stands} where
  pub later_cell : m ≡ mark_ca → x ≡ cell_at s at → x ≡ later_at s at m
  unfolding later_at
  later_cell h e = e ∙ sym (ap (later_at s at) h)

  pub later_pause : (m ≡ mark_ca → ⊥) → m ≡ mark_sl → x ≡ pause_at s at → x ≡ later_at s at m
  unfolding later_at
  later_pause ca h e = e ∙ sym (ap (later_at s at) h)

  pub later_sustain : (m ≡ mark_ca → ⊥) → (m ≡ mark_sl → ⊥) → (m ≡ mark_vo → ⊥) → (m ≡ mark_vx → ⊥) → m ≡ mark_vs
      → x ≡ sustain_at s at → x ≡ later_at s at m
  unfolding later_at
  later_sustain ca sl vo vx h e = e ∙ sym (ap (later_at s at) h)

-- by a test b whether the place is the first
module _ (s : List ℕ) (at m : ℕ) where
  abbrev stood : Bool → Stands
  stood b = when b then first_at s at m else later_at s at m

  no_mark : ((k : Mark) → m ≡ letters_of k → ⊥) → (b : Bool) → unreadable at ≡ stood b
  no_mark u true = first_other s at m (u Gm) (u Gr) (u Gn)
  no_mark u false = later_unknown s at m (u Ca) (u Sl) (u Vo) (u Vx) (u Vs) (u Po) (u Px)

equal : (a b : Bool) → beq a b ≡ true → a ≡ b
equal true true h = refl
equal true false h = sym h
equal false true h = h
equal false false h = refl

module _ (s : List ℕ) (at : ℕ) where
  placed : (k : Mark) (b : Bool) → beq (is_head k) b ≡ true → record_at s at k ≡ stood s at (letters_of k) b
  unfolding record_at
  placed k b h = ap (stood s at (letters_of k)) (equal (is_head k) b h)

  misplaced : (k : Mark) (b : Bool) → beq (is_head k) b ≡ false → unreadable at ≡ stood s at (letters_of k) b
  unfolding first_at later_at
  misplaced Gm false h = refl
  misplaced Gr false h = refl
  misplaced Gn false h = refl
  misplaced Vo true h = refl
  misplaced Vs true h = refl
  misplaced Vx true h = refl
  misplaced Po true h = refl
  misplaced Px true h = refl
  misplaced Ca true h = refl
  misplaced Sl true h = refl
  misplaced Gm true h = cc
  misplaced Gr true h = cc
  misplaced Gn true h = cc
  misplaced Vo false h = cc
  misplaced Vs false h = cc
  misplaced Vx false h = cc
  misplaced Po false h = cc
  misplaced Px false h = cc
  misplaced Ca false h = cc
  misplaced Sl false h = cc

-- by the place
module _ (s : List ℕ) (at : ℕ) where
  pub stands_end : at ≡ length s → (at ≡ 0 → ⊥) → finish ≡ stands_at s at
  unfolding stands_at
  stands_end e z = simp (le-leb 1 at (omega arith), eq-eqb at (length s) e)

  module _ (n : ((at ≡ length s) × (at ≡ 0)) ⊎ (at ≡ length s → ⊥)) where
    off : 1 ≤? at && at =? length s ≡ false
    off = go n
      where
        go : ((at ≡ length s) × (at ≡ 0)) ⊎ (at ≡ length s → ⊥) → 1 ≤? at && at =? length s ≡ false
        go (inl e) = ap (λ (b : Bool). b && at =? length s) (lt-leb 1 at (omega (arith, e.1)))
        go (inr f) = simp (ne_eqb at (length s) f) (and-false (1 ≤? at))

    cut_short : length s <? at + 2 ≡ true → unreadable at ≡ stands_at s at
    unfolding stands_at
    cut_short h = simp (off, h)

    stands_marked : at + 2 ≤ length s → stood s at (be16 s at) (at =? 0) ≡ stands_at s at
    unfolding stands_at
    stands_marked h = simp (off, le-ltb (length s) (at + 2) h)

    pub stands_none : ((k : Mark) → MarkAt s at k → ⊥) → unreadable at ≡ stands_at s at
    stands_none u = go (length s <? at + 2) refl
      where
        go : (b : Bool) → length s <? at + 2 ≡ b → unreadable at ≡ stands_at s at
        go true t = cut_short t
        go false f =
            let h = ltb-false (length s) (at + 2) f in
            no_mark s at (be16 s at) (λ k q. u k (h, q)) (at =? 0) ∙ stands_marked h

    module _ (k : Mark) (m : MarkAt s at k) where
      here : stood s at (letters_of k) (at =? 0) ≡ stands_at s at
      here = ap (λ (n : ℕ). stood s at n (at =? 0)) (sym m.1) ∙ stands_marked m.0

      pub stands_record : beq (is_head k) (at =? 0) ≡ true → record_at s at k ≡ stands_at s at
      stands_record b = placed s at k (at =? 0) b ∙ here

      pub stands_misplaced : beq (is_head k) (at =? 0) ≡ false → unreadable at ≡ stands_at s at
      stands_misplaced b = misplaced s at k (at =? 0) b ∙ here

  module _ (n : at ≡ length s → ⊥) (h : at + 2 ≤ length s) {x : Stands} {m : ℕ} (e : m ≡ be16 s at) where
    so : (b : Bool) → (at =? 0) ≡ b → x ≡ stood s at m b → x ≡ stands_at s at
    so b t q = q ∙ ap (λ (k : ℕ). stood s at k b) e ∙ ap (stood s at (be16 s at)) (sym t) ∙ stands_marked (inr n) h

    pub stands_first : at ≡ 0 → x ≡ first_at s at m → x ≡ stands_at s at
    stands_first z q = so true (eq-eqb at 0 z) q

    pub stands_later : (at ≡ 0 → ⊥) → x ≡ later_at s at m → x ≡ stands_at s at
    stands_later z q = so false (ne_eqb at 0 z) q

-- a trace that is empty, and one that ends within a mark
module _ (s : List ℕ) (at : ℕ) where
  pub stands_empty : at ≡ length s → at ≡ 0 → unreadable at ≡ stands_at s at
  unfolding stands_at
  stands_empty e z = simp (lt-leb 1 at (omega arith), lt-ltb (length s) (at + 2) (omega arith))

  pub stands_short : (at ≡ length s → ⊥) → length s < at + 2 → unreadable at ≡ stands_at s at
  unfolding stands_at
  stands_short n h = simp (ne_eqb at (length s) n, and-false (1 ≤? at), lt-ltb (length s) (at + 2) h)
