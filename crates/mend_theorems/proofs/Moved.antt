-- The same records at another place of another trace, one directly after the other.
use Prim.Native.Nat.{ℕ, ◌+◌, ◌-◌, ◌≤◌, ◌<◌}
use mathlib.Core.Path.{◌≡◌, refl, sym, ap, subst, ◌∙◌}
use mathlib.Core.List.{List, [], ◌∷◌}
use lib.ListN.{length, get_or}
use native.Mathlib.Omega.{arith}
use Rattle.mend_step.specs.Salvage.{Piece, keeps, skips}
use Rattle.mend_theorems.specs.Promises.{Records, packed}
use Rattle.mend_step.proofs.Shape.{reads_shape, shape_reads, shape_moved, kind_long}

pub records_le : (s : List ℕ) (p e : ℕ) (ps : List Piece) → Records s p ps e → p ≤ e
records_le s p e [] h = omega (arith, h)
records_le s p e (keeps q l ∷ ps) h = omega (arith, records_le s (p + l) e ps h.2)
records_le s p e (skips q l ∷ ps) h = absurd h

pub records_moved : (s s' : List ℕ) (e p p' : ℕ) (ps : List Piece) → Records s p ps e
    → ((i : ℕ) → p + i < e → get_or s (p + i) 0 ≡ get_or s' (p' + i) 0) → p' + (e - p) ≤ length s' → (p ≡ 0 → p' ≡ 0) → (0 < p → 0 < p')
    → Records s' p' (packed p' ps) (p' + (e - p))
records_moved s s' e p p' [] h same w f g = omega (arith, h)
records_moved s s' e p p' (keeps q l ∷ ps) h same w f g =
    let t = reads_shape s p (p + l) h.1 in
    let i = records_le s (p + l) e ps h.2 in
    let j = kind_long t.kind in
    let n : p' + l + (e - (p + l)) ≡ p' + (e - p) = omega (arith, i) in
    let u = shape_moved s p s' p' l (λ x y. same x (omega (arith, i, y))) (omega (arith, i, w)) f g t in (
      refl,
      shape_reads s' p' (p' + l) u,
      subst (Records s' (p' + l) (packed (p' + l) ps)) n
          (records_moved s s' e (p + l) (p' + l) ps h.2
          (λ x y.
          let a : p + l + x ≡ p + (l + x) = omega arith in
          let b : p' + (l + x) ≡ p' + l + x = omega arith in
          ap (λ (k : ℕ). get_or s k 0) a ∙ same (l + x) (omega (arith, y)) ∙ ap (λ (k : ℕ). get_or s' k 0) b)
          (omega (arith, n, w)) (λ z. absurd (omega (arith, j, z))) (λ z. omega (arith, j))),
    )
records_moved s s' e p p' (skips q l ∷ ps) h same w f g = absurd h

pub packed_same : (s : List ℕ) (p e : ℕ) (ps : List Piece) → Records s p ps e → packed p ps ≡ ps
packed_same s p e [] h = refl
packed_same s p e (keeps q l ∷ ps) h =
    ap (λ (n : ℕ). keeps n l ∷ packed (p + l) ps) (sym h.0) ∙ ap (λ (x : List Piece). keeps q l ∷ x) (packed_same s (p + l) e ps h.2)
packed_same s p e (skips q l ∷ ps) h = absurd h

pub packed_packed : (p p' : ℕ) (ps : List Piece) → packed p' (packed p ps) ≡ packed p' ps
packed_packed p p' [] = refl
packed_packed p p' (keeps q l ∷ ps) = ap (λ (x : List Piece). keeps p' l ∷ x) (packed_packed (p + l) (p' + l) ps)
packed_packed p p' (skips q l ∷ ps) = packed_packed p p' ps
