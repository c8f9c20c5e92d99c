-- Steps after steps: a run may be cut anywhere, and a fill's promise allows one result.
use Prim.Native.Nat.{ℕ, zero, suc, ◌+◌, ◌-◌, ◌≤◌, ◌<◌}
use mathlib.Core.Path.{◌≡◌, refl, sym, ap, subst, ◌∙◌}
use mathlib.Core.Bool.{Bool, true, false}
use mathlib.Core.Logic.{◌⊎◌, inl, inr, ⊎_elim}
use mathlib.Core.List.{List, [], ◌++◌, append_assoc, append-nil}
use native.Mathlib.Numerals.{add-one}
use native.Mathlib.Nat.{add-suc, add-zero}
use native.Mathlib.Omega.{arith}
use borrow.Author.Tests.{lt-ltb, le-ltb, ltb-true, ltb-false}
use lib.Dec.{ltb}
use lib.ListN.{length, length-append}
use Rattle.list_lines.specs.Put.{Put}
use Rattle.list_lines.proofs.Puts.{put_is, put_then, put_none, put_once}
use Rattle.trace_record.specs.Trace.{stands_at}
use Rattle.list_meaning.specs.Trace.{serve}
use Rattle.list_whole.specs.Run.{World, Step, called, stands_step, step, after, text_of}
use Rattle.list_whole.specs.Fill.{room, Did, Ran, Advanced, FillOf}

pub sided : (n m : ℕ) (b : Bool) → ltb n m ≡ b → (n < m) ⊎ (m ≤ n)
sided n m true e = inl (ltb-true n m e)
sided n m false e = inr (ltb-false n m e)

module _ (more : Bool) (trace : List ℕ) where
  pub step_idle : (w : World) → w.done ≡ false → 0 < w.left → step more trace w ≡ called w (serve []) w.at (w.left - 1)
  unfolding step
  step_idle w d l = simp (d, lt-ltb 0 w.left l)

  pub step_read : (w : World) → w.done ≡ false → w.left ≡ 0 → step more trace w ≡ stands_step more trace w (stands_at trace w.at)
  unfolding step
  step_read w d l = simp (d, le-ltb 0 w.left (omega arith))

  pub after_add : (j k : ℕ) (w : World) → after more trace (j + k) w ≡ after more trace k (after more trace j w)
  unfolding after
  after_add j zero w = rw add-zero
  after_add j (suc k) w = rw add-suc (ap (λ (x : World). (step more trace x).world) (after_add j k w))

  pub text_add : (j k : ℕ) (w : World)
      → text_of more trace (j + k) w ≡ text_of more trace j w ++ text_of more trace k (after more trace j w)
  unfolding text_of
  text_add j zero w = rw add-zero (sym (append-nil (text_of more trace j w)))
  text_add j (suc k) w =
      rw add-suc
      (ap (λ (x : List ℕ). x ++ (step more trace (after more trace (j + k) w)).text) (text_add j k w)
      ∙ ap (λ (x : World). (text_of more trace j w ++ text_of more trace k (after more trace j w)) ++ (step more trace x).text) (after_add j k w)
      ∙ append_assoc (text_of more trace j w) (text_of more trace k (after more trace j w)) (step more trace (after more trace k (after more trace j w))).text)

  pub ran_none : (w : World) (out : List ℕ) (used : ℕ) → Ran more trace 0 w out used w out used
  unfolding after text_of
  ran_none w out used = record { here = refl; put = put_none out used; before = λ j h. absurd (omega arith) }

  -- one step more
  pub ran_one : (w w' : World) (out out' : List ℕ) (used used' most : ℕ) → w.done ≡ false → used + room ≤ length out
      → Did (step more trace w) most out used w' out' used' → Ran more trace 1 w out used w' out' used'
  unfolding after text_of
  ran_one w w' out out' used used' most d r s =
      record {
        here = s.world;
        put = s.put;
        before = λ j h.
            let z : j ≡ 0 = omega arith in
            (rw z d, rw z (omega (arith, r)));
      }

  -- steps after steps
  pub ran_then : (j k : ℕ) (w w' w'' : World) (out out' out'' : List ℕ) (used used' used'' : ℕ) → length out' ≡ length out
      → Ran more trace j w out used w' out' used' → Ran more trace k w' out' used' w'' out'' used''
      → Ran more trace (j + k) w out used w'' out'' used''
  ran_then j k w w' w'' out out' out'' used used' used'' same a b =
      let moved : World = after more trace j w in
      record {
        here = b.here ∙ ap (after more trace k) a.here ∙ sym (after_add j k w);
        put = put_is (text_add j k w ∙ ap (λ (x : World). text_of more trace j w ++ text_of more trace k x) (sym a.here)) (put_then a.put b.put);
        before = λ i h. ⊎_elim (λ (l : i < j). a.before i l) (λ (l : j ≤ i). later i l (omega arith)) (sided i j (ltb i j) refl);
      }
    where
      later : (i : ℕ) → j ≤ i → i - j < k
          → ((after more trace i w).done ≡ false) × (used + length (text_of more trace i w) + room ≤ length out)
      later i l h =
          let e : i ≡ j + (i - j) = omega arith in
          let o = b.before (i - j) h in
          let here : after more trace i w ≡ after more trace (i - j) w' =
          ap (λ (x : ℕ). after more trace x w) e ∙ after_add j (i - j) w ∙ ap (after more trace (i - j)) (sym a.here) in
          let text : text_of more trace i w ≡ text_of more trace j w ++ text_of more trace (i - j) w' =
          ap (λ (x : ℕ). text_of more trace x w) e ∙ text_add j (i - j) w ∙ ap (λ (x : World). text_of more trace j w ++ text_of more trace (i - j) x) (sym a.here) in
          let long : length (text_of more trace i w) ≡ length (text_of more trace j w) + length (text_of more trace (i - j) w') =
          ap length text ∙ length-append (text_of more trace j w) (text_of more trace (i - j) w') in
          (ap (λ (x : World). x.done) here ∙ o.0, omega (arith, o.1, long, a.put.next, same))
