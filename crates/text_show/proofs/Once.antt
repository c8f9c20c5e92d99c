-- What a text handed over may leave: after so many fills one result only, and where all was handed over there is one number of
-- fills. So two that say yes handed over the same octets, in the same order, and left the same buffer. What stays open is
-- the writer's: at which write it says no.
use Prim.Native.Nat.{ℕ, ◌<◌}
use mathlib.Core.Path.{◌≡◌, refl, sym, ap, subst, ◌∙◌}
use mathlib.Core.Bool.{Bool, true, false}
use mathlib.Core.List.{List, ◌++◌}
use native.Mathlib.Decide.{dec_lt}
use native.Mathlib.Omega.{arith}
use lib.ListN.{length, take}
use Rattle.trace_record.specs.Trace.{stands_at}
use Rattle.list_lines.specs.Put.{Put}
use Rattle.list_lines.proofs.Puts.{put_once}
use Rattle.text_print.specs.Fill.{FillPromise}
use Rattle.text_print.proofs.Once.{fill_once}
use Rattle.text_show.specs.Shown.{standing, Fills, no_fill, then_fill, Handed, Shown}

not_both : {b : Bool} → b ≡ true → b ≡ false → ⊥
not_both h k = let x : true ≡ false = sym h ∙ k in let z : ◌≡◌ {A = ℕ} 0 1 = cc in omega arith

-- before the last fill a record stood there
record Before (trace out : List ℕ) (j : ℕ) : Type 0 where
  pub text : List ℕ
  pub at : ℕ
  pub buffer : List ℕ
  pub fills : Fills trace out j text at buffer
  pub stood : standing (stands_at trace at) ≡ true

module _ (trace : List ℕ) {out : List ℕ} where
  -- what was put, the place, and the buffer
  pub fills_once : {k : ℕ} {a-t b-t : List ℕ} {a_at b_at : ℕ} {a-out b-out : List ℕ}
      → Fills trace out k a-t a_at a-out → Fills trace out k b-t b_at b-out
      → (a-t ≡ b-t) × (a_at ≡ b_at) × (a-out ≡ b-out)
  fills_once no_fill no_fill = (refl, refl, refl)
  fills_once {a-out = a-out} {b-out = b-out} (then_fill {text = t} {at = p} {out' = o} r _ fs s f) (then_fill {text = u} {at = q} {out' = v} w _ gs y g) =
      let i = fills_once fs gs in
      let e = fill_once trace q v (subst (λ (x : ℕ). FillPromise trace x v r a-out) i.1 (subst (λ (x : List ℕ). FillPromise trace p x r a-out) i.2 f)) g in
      (ap (λ (x : List ℕ). x ++ take r.used a-out) i.0 ∙ ap (λ (x : List ℕ). u ++ take r.used x) e.2 ∙ ap (λ (n : ℕ). u ++ take n b-out) e.1, e.0, e.2)

  fills_before : {k j : ℕ} {t : List ℕ} {at : ℕ} {out' : List ℕ} → Fills trace out k t at out' → j < k → Before trace out j
  fills_before no_fill l = absurd (omega arith)
  fills_before {j = j} (then_fill {count = k} r o fs s f) l = go (dec_lt j k) (λ m. fills_before fs m)
    where
      go : Dec (j < k) → (j < k → Before trace out j) → Before trace out j
      go (yes m) on = on m
      go (no m) on = let e : k ≡ j = omega arith in subst (Before trace out) e (record { text = _; at = _; buffer = _; fills = fs; stood = s })

  not_fewer : {j k : ℕ} {a-t b-t : List ℕ} {a_at b_at : ℕ} {a-out b-out : List ℕ}
      → Fills trace out j a-t a_at a-out → standing (stands_at trace a_at) ≡ false → Fills trace out k b-t b_at b-out → j < k → ⊥
  not_fewer a d b l =
      let p = fills_before b l in
      not_both p.stood (ap (λ (x : ℕ). standing (stands_at trace x)) (sym (fills_once a p.fills).1) ∙ d)

  -- no record stands there after so many fills, no fewer and no more
  fills_count : {j k : ℕ} {a-t b-t : List ℕ} {a_at b_at : ℕ} {a-out b-out : List ℕ}
      → Fills trace out j a-t a_at a-out → standing (stands_at trace a_at) ≡ false
      → Fills trace out k b-t b_at b-out → standing (stands_at trace b_at) ≡ false → j ≡ k
  fills_count {j} {k} a d b e = go (dec_lt j k) (dec_lt k j)
    where
      go : Dec (j < k) → Dec (k < j) → j ≡ k
      go (yes l) m = absurd (not_fewer a d b l)
      go (no l) (yes m) = absurd (not_fewer b e a m)
      go (no l) (no m) = omega arith

  -- two that handed over all lines
  handed_whole : {a_at b_at : ℕ} {a-out b-out : List ℕ} {x y : Bool} → (a : Handed trace out x a_at a-out) (b : Handed trace out y b_at b-out)
      → x ≡ true → y ≡ true → (a.text ≡ b.text) × (a_at ≡ b_at) × (a-out ≡ b-out)
  handed_whole {a_at} {b_at} {a-out} {b-out} a b p q =
      let e = fills_count a.fills (a.whole p).2 b.fills (b.whole q).2 in
      fills_once (subst (λ (k : ℕ). Fills trace out k a.text a_at a-out) e a.fills) b.fills

  -- two that say yes: what each descriptor was handed, and the buffer
  pub shown_once : {total : ℕ} {a-out b-out : List ℕ} {x y : Bool} → (a : Shown trace total out x a-out) (b : Shown trace total out y b-out)
      → x ≡ true → y ≡ true → (a.handed.text ≡ b.handed.text) × (a.stop ≡ b.stop) × (a-out ≡ b-out)
  shown_once {total} {a-out} {b-out} a b p q =
      let h = handed_whole a.handed b.handed (a.whole p) (b.whole q) in
      let s : a.stop ≡ b.stop = a.told.0 (a.whole p) ∙ sym (b.told.0 (b.whole q)) in
      let o = put_once (subst (λ (m : List ℕ). Put m 0 b.stop a-out (length b.stop)) h.2 (subst (λ (t : List ℕ). Put a.middle 0 t a-out (length t)) s a.put)) b.put in
      (h.0, s, o.0)
