-- The numbers of a record that the reader found fit their fields, since each is read from octets; a cell that it found has 53
-- octets. So every record can be printed and its line is good.
use Prim.Native.Nat.{ℕ, ◌+◌, ◌≤◌, ◌<◌}
use mathlib.Core.Path.{◌≡◌, ap, subst, ◌∙◌}
use mathlib.Core.Bool.{Bool, true, false, ◌&&◌}
use mathlib.Core.List.{List, ◌++◌}
use native.Mathlib.Omega.{arith}
use borrow.Author.Tests.{eq-eqb, ne_eqb}
use lib.ListN.{length, get_or, take, drop, length-drop}
use lib.Seq.{get_or-take, get_or-drop, length-take-le}
use Rattle.meaning.specs.Plain.{next, when◌then◌else◌, ◌<?◌, ◌≤?◌, ◌=?◌}
use Rattle.meaning.specs.Numbers.{octets}
use Rattle.trace_record.specs.Trace.{TraceRecord, GM, VO, VX, CA, SL, VS, PO, PX, Stands, event, finish, refusal}
use Rattle.trace_record.specs.Trace.{be16, be32, whole, setup_at, open_at, sustain_at, close_at, open_path_at, close_path_at, cell_at, pause_at, first_at, later_at, stands_at}
use Rattle.trace_record.specs.Trace.{mark_octets, mark_gm, mark_gr, mark_gn, mark_vo, mark_vx, mark_ca, mark_sl, mark_vs, mark_po, mark_px}
use Rattle.trace_record.specs.Fits.{Fits, stands_fits}
use Rattle.text_meaning.specs.Events.{event_of}
use Rattle.text_meaning.specs.Grammar.{tells, line}
use Rattle.text_print.specs.Print.{line_of}
use Rattle.text_print.proofs.Back.{setup_back, open_back, sustain_back, close_back, path_back, path_close_back, cell_back, pause_back}

abbrev Opens : (c m F C : ℕ) → Type 0
Opens c m F C = (c ≤ 65_535) × (m ≤ 255) × (F ≤ 4_294_967_295) × (C ≤ 4_294_967_295)

abbrev Bounded : TraceRecord → Type 0
Bounded (GM N z head) = (N ≤ 65_535) × (z ≤ 65_535)
Bounded (VO vci m F C) = Opens vci m F C
Bounded (VX vci) = vci ≤ 65_535
Bounded (CA start) = 0 ≤ 0
Bounded (SL count) = count ≤ 65_535
Bounded (PO vpi m F C) = Opens vpi m F C
Bounded (PX vpi) = vpi ≤ 65_535
Bounded (VS vci m F C x) =
    Opens vci m F C
    × ((x.m ≤ 255) × (x.F ≤ 4_294_967_295) × (x.C ≤ 4_294_967_295) × (x.tag ≤ 255))

abbrev Sized : Stands → Type 0
Sized (event r n) = Bounded r
Sized finish = 0 ≤ 0
Sized (refusal number place) = 0 ≤ 0

choose : (P : Stands → Type 0) (b : Bool) {x y : Stands} → P x → P y → P (when b then x else y)
choose P true t f = t
choose P false t f = f

module _ (s : List ℕ) (b : (i : ℕ) → get_or s i 0 < 256) where
  below16 : (i : ℕ) → be16 s i ≤ 65_535
  unfolding be16
  below16 i = let x = b i in let y = b (i + 1) in omega arith

  below32 : (i : ℕ) → be32 s i ≤ 4_294_967_295
  unfolding be32
  below32 i = let x = below16 i in let y = below16 (i + 2) in omega arith

  module _ (at : ℕ) where
    below8 : (k : ℕ) → get_or s (at + k) 0 ≤ 255
    below8 k = let x = b (at + k) in omega arith

    whole_sized : (long : ℕ) (r : TraceRecord) → Bounded r → Sized (whole s at long r)
    unfolding whole
    whole_sized long r h = choose Sized (at + long ≤? length s) h (omega arith)

    opens_sized : Opens (be16 s (at + 2)) (get_or s (at + 4) 0) (be32 s (at + 5)) (be32 s (at + 9))
    opens_sized = (below16 (at + 2), below8 4, below32 (at + 5), below32 (at + 9))

    stands_sized : Sized (stands_at s at)
    unfolding stands_at first_at later_at setup_at open_at sustain_at close_at open_path_at close_path_at cell_at pause_at
    stands_sized =
        choose Sized (1 ≤? at && at =? length s) (omega arith)
        (choose Sized (length s <? at + mark_octets) (omega arith)
        (choose Sized (at =? 0)
        (choose Sized (be16 s at =? mark_gm) (whole_sized _ (GM _ _ _) (below16 (at + 2), below16 (at + 4)))
        (choose Sized (be16 s at =? mark_gr) (whole_sized _ (GM _ _ _) (below16 (at + 2), below16 (at + 4)))
        (choose Sized (be16 s at =? mark_gn) (whole_sized _ (GM _ _ _) (below16 (at + 2), below16 (at + 4))) (omega arith))))
        (choose Sized (be16 s at =? mark_ca) (whole_sized _ (CA _) (omega arith))
        (choose Sized (be16 s at =? mark_sl) (choose Sized (be16 s (at + 2) =? 0) (omega arith) (whole_sized _ (SL _) (below16 (at + 2))))
        (choose Sized (be16 s at =? mark_vo) (whole_sized _ (VO _ _ _ _) opens_sized)
        (choose Sized (be16 s at =? mark_vx) (whole_sized _ (VX _) (below16 (at + 2)))
        (choose Sized (be16 s at =? mark_vs)
        (whole_sized _ (VS _ _ _ _ _) (opens_sized, (below8 13, below32 (at + 14), below32 (at + 18), below8 22)))
        (choose Sized (be16 s at =? mark_po) (whole_sized _ (PO _ _ _ _) opens_sized)
        (choose Sized (be16 s at =? mark_px) (whole_sized _ (PX _) (below16 (at + 2))) (omega arith))))))))))

    cell_long : (start : ℕ) → start + octets ≤ length s → length (take octets (drop start s)) ≡ octets
    cell_long start h = length-take-le octets (drop start s) (omega (arith, h, length-drop start s))

    cell_octets : (start i : ℕ) → start + octets ≤ length s → i < length (take octets (drop start s)) → get_or (take octets (drop start s)) i 0 < 256
    cell_octets start i h l =
        let e = get_or-take octets (drop start s) i 0 (omega (arith, l, cell_long start h)) ∙ get_or-drop start s i 0 in
        let x = b (start + i) in omega arith

    line_by : (r : TraceRecord) (n : ℕ) (t : List ℕ) → Fits s at (event r n) → Bounded r
        → line (at =? 0) (line_of s r ++ t) ≡ next (tells (event_of s r) t)
    line_by (GM N z head) n t f h = ap (λ (x : Bool). line x (line_of s (GM N z head) ++ t)) (eq-eqb at 0 f.2) ∙ setup_back s t N z head h.0 h.1
    line_by (VO vci m F C) n t f h =
        ap (λ (x : Bool). line x (line_of s (VO vci m F C) ++ t)) (ne_eqb at 0 (λ z. omega (arith, z, f.2))) ∙ open_back s t vci m F C h.0 h.1 h.2 h.3
    line_by (VS vci m F C x) n t f h =
        ap (λ (y : Bool). line y (line_of s (VS vci m F C x) ++ t)) (ne_eqb at 0 (λ z. omega (arith, z, f.2)))
        ∙ sustain_back s t vci m F C x h.0.0 h.0.1 h.0.2 h.0.3 h.1.0 h.1.1 h.1.2 h.1.3
    line_by (VX vci) n t f h = ap (λ (x : Bool). line x (line_of s (VX vci) ++ t)) (ne_eqb at 0 (λ z. omega (arith, z, f.2))) ∙ close_back s t vci h
    line_by (PO vpi m F C) n t f h =
        ap (λ (x : Bool). line x (line_of s (PO vpi m F C) ++ t)) (ne_eqb at 0 (λ z. omega (arith, z, f.2))) ∙ path_back s t vpi m F C h.0 h.1 h.2 h.3
    line_by (PX vpi) n t f h = ap (λ (x : Bool). line x (line_of s (PX vpi) ++ t)) (ne_eqb at 0 (λ z. omega (arith, z, f.2))) ∙ path_close_back s t vpi h
    line_by (CA start) n t f h =
        let w : start + octets ≤ length s = omega (arith, f.0, f.1, f.2.1) in
        ap (λ (x : Bool). line x (line_of s (CA start) ++ t)) (ne_eqb at 0 (λ z. omega (arith, z, f.2.0)))
        ∙ cell_back s t start (cell_long start w) (λ i l. cell_octets start i w l)
    line_by (SL count) n t f h =
        ap (λ (x : Bool). line x (line_of s (SL count) ++ t)) (ne_eqb at 0 (λ z. omega (arith, z, f.2.0))) ∙ pause_back s t count f.2.1 h

    -- the line of a record that was found at a place, and whatever stands behind it, is read as that record
    pub line_back : (r : TraceRecord) (n : ℕ) (t : List ℕ) → stands_at s at ≡ event r n
        → line (at =? 0) (line_of s r ++ t) ≡ next (tells (event_of s r) t)
    line_back r n t e = line_by r n t (subst (Fits s at) e (stands_fits s at)) (subst Sized e stands_sized)
