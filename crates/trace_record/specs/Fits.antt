-- What every answer of `stands_at` fits: a record lies wholly within the trace and leads on, only place 0 has a GM, GR or GN,
-- the end is the end, and a refusal is 10 at the very place. Whoever goes on from an answer needs no more. Assumes nothing.
use Rattle.std.specs.Prelude.{ℕ, ◌+◌, ◌≤◌, ◌<◌, ◌≡◌, refl, Bool, true, false, ◌&&◌, List}
use Rattle.std.proofs.Math.ListN.{length}
use borrow.Author.Tests.{leb-true, eqb-true, eqb-false}
use Rattle.std.proofs.Common.{arith}
use Rattle.meaning.specs.Plain.{when◌then◌else◌, ◌<?◌, ◌≤?◌, ◌=?◌}
use Rattle.trace_record.specs.Trace.{TraceRecord, GM, VO, VX, CA, SL, VS, PO, PX, Stands, event, finish, refusal, unreadable}
use Rattle.trace_record.specs.Trace.{be16, whole, setup_at, open_at, sustain_at, close_at, open_path_at, close_path_at, cell_at, pause_at, first_at, later_at, stands_at}
use Rattle.trace_record.specs.Trace.{mark_octets, mark_gm, mark_gr, mark_gn, mark_vo, mark_vx, mark_ca, mark_sl, mark_vs, mark_po, mark_px}
use Rattle.trace_record.specs.Trace.{long_gm, long_vo, long_vx, long_ca, long_sl, long_vs, long_po, long_px}

abbrev pub long_of : TraceRecord → ℕ
long_of (GM N z head) = long_gm
long_of (VO vci m F C) = long_vo
long_of (VX vci) = long_vx
long_of (CA start) = long_ca
long_of (SL count) = long_sl
long_of (VS vci m F C x) = long_vs
long_of (PO vpi m F C) = long_po
long_of (PX vpi) = long_px

-- "first and only first"; "CA: 53 octets"; "a count of empty slots, at least 1"
abbrev pub Allowed : ℕ → TraceRecord → Type 0
Allowed at (GM N z head) = at ≡ 0
Allowed at (VO vci m F C) = 0 < at
Allowed at (VX vci) = 0 < at
Allowed at (CA start) = (0 < at) × (start ≡ at + mark_octets)
Allowed at (SL count) = (0 < at) × (0 < count)
Allowed at (VS vci m F C x) = 0 < at
Allowed at (PO vpi m F C) = 0 < at
Allowed at (PX vpi) = 0 < at

abbrev pub Fits : List ℕ → ℕ → Stands → Type 0
Fits trace at (event r next) = (next ≡ at + long_of r) × (next ≤ length trace) × Allowed at r
Fits trace at finish = (0 < at) × (at ≡ length trace)
Fits trace at (refusal number place) = (number ≡ 10) × (place ≡ at)

-- by cases on a test
choose : (P : Stands → Type 0) (b : Bool) {x y : Stands} → (b ≡ true → P x) → (b ≡ false → P y) → P (when b then x else y)
choose P true t f = t refl
choose P false t f = f refl

both : (a b : Bool) → a && b ≡ true → (a ≡ true) × (b ≡ true)
both true true h = (refl, refl)
both true false h = (refl, h)
both false b h = (h, cc)

positive : (n : ℕ) → (n ≡ 0 → ⊥) → 0 < n
positive n h = omega arith

module _ (s : List ℕ) (at : ℕ) where
  refused_fits : Fits s at (unreadable at)
  refused_fits = (refl, refl)

  whole_fits : (r : TraceRecord) → Allowed at r → Fits s at (whole s at (long_of r) r)
  unfolding whole
  whole_fits r h =
      choose (Fits s at) (at + long_of r ≤? length s) (λ t. (refl, leb-true _ _ t, h)) (λ _. refused_fits)

  first_fits : at ≡ 0 → (m : ℕ) → Fits s at (first_at s at m)
  unfolding first_at setup_at
  first_fits z m =
      choose (Fits s at) (m =? mark_gm) (λ _. whole_fits (GM _ _ _) z)
      (λ _. choose (Fits s at) (m =? mark_gr) (λ _. whole_fits (GM _ _ _) z)
      (λ _. choose (Fits s at) (m =? mark_gn) (λ _. whole_fits (GM _ _ _) z) (λ _. refused_fits)))

  module _ (later : 0 < at) where
    pause_fits : Fits s at (pause_at s at)
    unfolding pause_at
    pause_fits =
        choose (Fits s at) (be16 s (at + 2) =? 0) (λ _. refused_fits)
        (λ f. whole_fits (SL (be16 s (at + 2))) (later, positive (be16 s (at + 2)) (eqb-false _ _ f)))

    later_fits : (m : ℕ) → Fits s at (later_at s at m)
    unfolding later_at open_at sustain_at close_at open_path_at close_path_at cell_at
    later_fits m =
        choose (Fits s at) (m =? mark_ca) (λ _. whole_fits (CA (at + mark_octets)) (later, refl))
        (λ _. choose (Fits s at) (m =? mark_sl) (λ _. pause_fits)
        (λ _. choose (Fits s at) (m =? mark_vo) (λ _. whole_fits (VO _ _ _ _) later)
        (λ _. choose (Fits s at) (m =? mark_vx) (λ _. whole_fits (VX _) later)
        (λ _. choose (Fits s at) (m =? mark_vs) (λ _. whole_fits (VS _ _ _ _ _) later)
        (λ _. choose (Fits s at) (m =? mark_po) (λ _. whole_fits (PO _ _ _ _) later)
        (λ _. choose (Fits s at) (m =? mark_px) (λ _. whole_fits (PX _) later) (λ _. refused_fits)))))))

  pub stands_fits : Fits s at (stands_at s at)
  unfolding stands_at
  stands_fits =
      choose (Fits s at) (1 ≤? at && at =? length s)
      (λ t. let h = both (1 ≤? at) (at =? length s) t in (leb-true _ _ h.0, eqb-true _ _ h.1))
      (λ _. choose (Fits s at) (length s <? at + mark_octets) (λ _. refused_fits)
      (λ _. choose (Fits s at) (at =? 0) (λ t. first_fits (eqb-true _ _ t) _)
      (λ f. later_fits (positive at (eqb-false _ _ f)) _)))
