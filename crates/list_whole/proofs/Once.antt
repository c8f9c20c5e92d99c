-- So many fills allow one result, and the run is done after one number of them only: each starts where the one before ended,
-- and a fill's promise allows one result.
use Prim.Native.Nat.{ℕ, suc, ◌≤◌, ◌<◌}
use mathlib.Core.Path.{◌≡◌, refl, sym, ap, subst, ◌∙◌}
use mathlib.Core.Bool.{true, false}
use mathlib.Core.Logic.{⊎_elim}
use mathlib.Core.List.{List, [], ◌++◌}
use native.Mathlib.Omega.{arith}
use lib.Dec.{ltb}
use lib.ListN.{take}
use Rattle.list_whole.specs.Run.{World}
use Rattle.list_whole.specs.Fill.{FillPromise, Fills, no_fill, fill_more}
use Rattle.list_whole.proofs.Ran.{sided}
use Rattle.list_whole.proofs.Weight.{not_both}
use Rattle.list_whole.proofs.Whole.{fill_once}

-- before the last fill the run wasn't done
record Before (input : List ℕ) (w : World) (out : List ℕ) (j : ℕ) : Type 0 where
  pub text : List ℕ
  pub world : World
  pub buffer : List ℕ
  pub fills : Fills input w out j text world buffer
  pub going : world.done ≡ false

module _ (input : List ℕ) {w : World} {out : List ℕ} where
  -- what was put, the run with the memories, and the buffer
  pub fills_once : {k : ℕ} {a-t b-t a-out b-out : List ℕ} {a-w b-w : World}
      → Fills input w out k a-t a-w a-out → Fills input w out k b-t b-w b-out
      → (a-t ≡ b-t) × (a-w ≡ b-w) × (a-out ≡ b-out)
  fills_once no_fill no_fill = (refl, refl, refl)
  fills_once {b-out = b-out} {b-w = b-w} (fill_more {t = t} {out'' = o} {w' = w₁} {w'' = v} a-used a-fills a-going a) (fill_more {t = t₂} {out' = o₂} {w' = w₂} b-used b-fills b-going b) =
      let s = fills_once a-fills b-fills in
      let e = fill_once input (subst (λ (x : World). FillPromise input x o₂ v o a-used) s.1 (subst (λ (x : List ℕ). FillPromise input w₁ x v o a-used) s.2 a)) b in
      (ap (λ (x : List ℕ). x ++ take a-used o) s.0 ∙ ap (λ (x : List ℕ). t₂ ++ take a-used x) e.1 ∙ ap (λ (n : ℕ). t₂ ++ take n b-out) e.2, e.0, e.1)

  fills_before : {k j : ℕ} {t out' : List ℕ} {w' : World} → Fills input w out k t w' out' → j < k → Before input w out j
  fills_before no_fill l = absurd (omega arith)
  fills_before {j = j} (fill_more {k = k} used fs going f) l =
      ⊎_elim
      (λ (m : j < k). fills_before fs m)
      (λ (m : k ≤ j). let e : k ≡ j = omega arith in subst (Before input w out) e (record { text = _; world = _; buffer = _; fills = fs; going = going }))
      (sided j k (ltb j k) refl)

  fills_not_fewer : {j k : ℕ} {a-t b-t a-out b-out : List ℕ} {a-w b-w : World}
      → Fills input w out j a-t a-w a-out → a-w.done ≡ true → Fills input w out k b-t b-w b-out → j < k → ⊥
  fills_not_fewer a d b l =
      let p = fills_before b l in
      not_both (sym (ap (λ (x : World). x.done) (fills_once a p.fills).1) ∙ d) p.going

  -- a run is done after so many fills, no fewer and no more
  pub fills_count : {j k : ℕ} {a-t b-t a-out b-out : List ℕ} {a-w b-w : World}
      → Fills input w out j a-t a-w a-out → a-w.done ≡ true → Fills input w out k b-t b-w b-out → b-w.done ≡ true → j ≡ k
  fills_count {j} {k} a d b e =
      ⊎_elim
      (λ (l : j < k). absurd (fills_not_fewer a d b l))
      (λ (l : k ≤ j). ⊎_elim (λ (m : k < j). absurd (fills_not_fewer b e a m)) (λ (m : j ≤ k). omega arith) (sided k j (ltb k j) refl))
      (sided j k (ltb j k) refl)

-- a run that began and is done made a fill
pub fills_some : {input out t out' : List ℕ} {k : ℕ} {w w' : World} → Fills input w out k t w' out' → w.done ≡ false → w'.done ≡ true → 0 < k
fills_some no_fill d e = absurd (not_both e d)
fills_some (fill_more used fs going f) d e = omega arith
