-- What a mended trace handed over may leave: after so many fills one result only, and where all was handed over there is one
-- number of fills. What stays open is the writer's: at which fill it says no.
use Prim.Native.Nat.{ℕ, ◌≤◌, ◌<◌}
use mathlib.Core.Path.{◌≡◌, refl, sym, ap, subst, ◌∙◌}
use mathlib.Core.Bool.{Bool, true}
use mathlib.Core.List.{List, ◌++◌}
use native.Mathlib.Omega.{arith}
use native.Mathlib.Decide.{dec_lt}
use lib.ListN.{take}
use Rattle.list_lines.proofs.Puts.{put_once}
use Rattle.std.specs.Prelude.{Result, Ok, Err}
use Rattle.mend_fill.specs.declared.Filled.{Filled}
use Rattle.mend_fill.specs.declared.FillError.{FillError}
use Rattle.mend_fill.specs.declared.FillError.TheVariants.{NoHead}
use Rattle.mend_fill.specs.Fill.{FillPromise}
use Rattle.mend_write.specs.Handed.{Fills, no_fill, then_fill, Handed}

module _ (s : List ℕ) (n : ℕ) where
  filled_once : {p : ℕ} {out text a b c d : List ℕ} {q r : Filled} → FillPromise s n p out text (Ok q) a b → FillPromise s n p out text (Ok r) c d
      → (q ≡ r) × (a ≡ c) × (b ≡ d)
  filled_once f g =
      let w = put_once f.took.written g.took.written in
      let l = put_once f.took.listed g.took.listed in
      let e = f.took.at ∙ sym g.took.at in
      (λ i. record { at = e i; written = w.1 i; listed = l.1 i }, w.0, l.0)

  pub fill_once : {p : ℕ} {out text a b c d : List ℕ} (q r : Result Filled FillError) → FillPromise s n p out text q a b → FillPromise s n p out text r c d
      → (q ≡ r) × (a ≡ c) × (b ≡ d)
  fill_once (Ok q) (Ok r) f g = let h = filled_once f g in (ap (λ (x : Filled). Ok x) h.0, h.1, h.2)
  fill_once (Err NoHead) (Err NoHead) f g = (refl, f.took.0 ∙ sym g.took.0, f.took.1 ∙ sym g.took.1)
  fill_once (Ok q) (Err NoHead) f g = absurd (omega (arith, f.number, g.number))
  fill_once (Err NoHead) (Ok r) f g = absurd (omega (arith, f.number, g.number))

  -- before the last of k fills the input's end was not reached
  record Before (out text : List ℕ) (j : ℕ) : Type 0 where
    pub w : List ℕ
    pub l : List ℕ
    pub at : ℕ
    pub out' : List ℕ
    pub text' : List ℕ
    pub fills : Fills s n out text j w l at out' text'
    pub going : at < n

  module _ {out text : List ℕ} where
    -- what was put, the place and the buffers
    pub fills_once : {k a_at b_at : ℕ} {a-w b-w a-l b-l a-out b-out a-text b-text : List ℕ}
        → Fills s n out text k a-w a-l a_at a-out a-text → Fills s n out text k b-w b-l b_at b-out b-text
        → (a-w ≡ b-w) × (a-l ≡ b-l) × (a_at ≡ b_at) × (a-out ≡ b-out) × (a-text ≡ b-text)
    fills_once no_fill no_fill = (refl, refl, refl, refl, refl)
    fills_once (then_fill {w = w} {l = l} {out' = o} {text' = t} {at = p} q o₂ t₂ a a-on f) (then_fill {w = v} {l = m} {out' = o'} {text' = t'} {at = p'} r o₃ t₃ b b-on g) =
        let e = fills_once a b in
        let f' = subst (λ (x : ℕ). FillPromise s n x o' t' (Ok q) o₂ t₂) e.2 (subst (λ (x : List ℕ). FillPromise s n p x t' (Ok q) o₂ t₂) e.3 (subst (λ (x : List ℕ). FillPromise s n p o x (Ok q) o₂ t₂) e.4 f)) in
        let h = filled_once f' g in (
          ap (λ (x : List ℕ). x ++ take q.written o₂) e.0 ∙ ap (λ (x : Filled). v ++ take x.written o₂) h.0 ∙ ap (λ (x : List ℕ). v ++ take r.written x) h.1,
          ap (λ (x : List ℕ). x ++ take q.listed t₂) e.1 ∙ ap (λ (x : Filled). m ++ take x.listed t₂) h.0 ∙ ap (λ (x : List ℕ). m ++ take r.listed x) h.2,
          ap (λ (x : Filled). x.at) h.0,
          h.1,
          h.2,
        )

    fills_before : {k j at : ℕ} {w l out' text' : List ℕ} → Fills s n out text k w l at out' text' → j < k → Before out text j
    fills_before no_fill less = absurd (omega arith)
    fills_before {j = j} (then_fill {k = k} {w = w} {l = l} {out' = o} {text' = t} {at = p} r o₂ t₂ a on f) less = go (dec_lt j k) (λ h. fills_before a h)
      where
        go : Dec (j < k) → (j < k → Before out text j) → Before out text j
        go (yes h) more = more h
        go (no h) more =
            let e : k ≡ j = omega arith in
            subst (Before out text) e (record { w = w; l = l; at = p; out' = o; text' = t; fills = a; going = on })

    not_fewer : {j k a_at b_at : ℕ} {a-w b-w a-l b-l a-out b-out a-text b-text : List ℕ}
        → Fills s n out text j a-w a-l a_at a-out a-text → n ≤ a_at → Fills s n out text k b-w b-l b_at b-out b-text → j < k → ⊥
    not_fewer a end b less =
        let p = fills_before b less in omega (arith, (fills_once a p.fills).2, p.going, end)

    pub handed_once : {x y : Bool} {a-out b-out a-text b-text : List ℕ} (a : Handed s n out text x a-out a-text) (b : Handed s n out text y b-out b-text)
        → a.count ≡ b.count
        → (a.w ≡ b.w) × (a.l ≡ b.l) × (a-out ≡ b-out) × (a-text ≡ b-text)
    handed_once {a-out = a-out} {a-text = a-text} a b e =
        let f = fills_once (subst (λ (k : ℕ). Fills s n out text k a.w a.l a.at a-out a-text) e a.fills) b.fills in
        (f.0, f.1, f.3, f.4)

    -- two that say yes handed over as many fills
    pub handed_whole : {x y : Bool} {a-out b-out a-text b-text : List ℕ} (a : Handed s n out text x a-out a-text) (b : Handed s n out text y b-out b-text)
        → x ≡ true → y ≡ true → a.count ≡ b.count
    handed_whole a b p q = go (dec_lt a.count b.count) (dec_lt b.count a.count)
      where
        go : Dec (a.count < b.count) → Dec (b.count < a.count) → a.count ≡ b.count
        go (yes h) z = absurd (not_fewer a.fills (a.all p).0 b.fills h)
        go (no h) (yes z) = absurd (not_fewer b.fills (b.all q).0 a.fills z)
        go (no h) (no z) = omega arith
