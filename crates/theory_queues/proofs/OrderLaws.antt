-- One connection's cells keep their order: a cell due after all of its connection joins behind them, whichever queue it goes to.
use Prim.Native.Nat.{ℕ, zero, suc, ◌+◌, ◌≤◌, ◌<◌}
use mathlib.Core.Path.{◌≡◌, refl, sym, ap, ◌∙◌, subst}
use mathlib.Core.List.{List, [], ◌∷◌, ◌++◌, map, append_assoc, append-nil}
use native.Mathlib.Nat.{le_of_suc-le-suc, not-suc-le-zero}
use native.Mathlib.Decide.{ℕ_discrete}
use native.Mathlib.Omega.{arith}
use borrow.Author.Tests.{eq-eqb, ne_eqb}
use lib.ListN.{length}
use Rattle.meaning_runs.specs.Seen.{of_connection}
use Rattle.theory_queues.specs.Queue.{All, Alls, flat, put, Timed}

module _ {A : Type 0} (f : A → ℕ) (v : ℕ) where
  pub of_connection_yes : (x : A) (xs : List A) → f x ≡ v → of_connection f v (x ∷ xs) ≡ x ∷ of_connection f v xs
  of_connection_yes x xs e = rw (eq-eqb (f x) v e)

  pub of_connection_no : (x : A) (xs : List A) → (f x ≡ v → ⊥) → of_connection f v (x ∷ xs) ≡ of_connection f v xs
  of_connection_no x xs e = rw (ne_eqb (f x) v e)

  pub of_connection_append : (a b : List A) → of_connection f v (a ++ b) ≡ of_connection f v a ++ of_connection f v b
  of_connection_append [] b = refl
  of_connection_append (x ∷ a) b = go (ℕ_discrete (f x) v) (of_connection_append a b)
    where
      go : Dec (f x ≡ v) → of_connection f v (a ++ b) ≡ of_connection f v a ++ of_connection f v b
          → of_connection f v (x ∷ (a ++ b)) ≡ of_connection f v (x ∷ a) ++ of_connection f v b
      go (yes e) r = of_connection_yes x (a ++ b) e ∙ ap (λ l. x ∷ l) r ∙ sym (ap (λ l. l ++ of_connection f v b) (of_connection_yes x a e))
      go (no e) r = of_connection_no x (a ++ b) e ∙ r ∙ sym (ap (λ l. l ++ of_connection f v b) (of_connection_no x a e))

  pub of_connection_none : (q : List A) → All (λ x. f x ≡ v → ⊥) q → of_connection f v q ≡ []
  of_connection_none [] a = refl
  of_connection_none (x ∷ q) a = of_connection_no x q a.0 ∙ of_connection_none q a.1

  pub of_connection_all : (P : A → Type 0) (q : List A) → All P q → All P (of_connection f v q)
  of_connection_all P [] a = tt
  of_connection_all P (x ∷ q) a = go (ℕ_discrete (f x) v) (of_connection_all P q a.1)
    where
      go : Dec (f x ≡ v) → All P (of_connection f v q) → All P (of_connection f v (x ∷ q))
      go (yes e) k = rw (of_connection_yes x q e) (a.0, k)
      go (no e) k = rw (of_connection_no x q e) k

pub of_connection_map : {A B : Type 0} (f : B → ℕ) (g : A → B) (v : ℕ) (a : List A)
    → of_connection f v (map g a) ≡ map g (of_connection (λ x. f (g x)) v a)
of_connection_map f g v [] = refl
of_connection_map f g v (x ∷ a) = go (ℕ_discrete (f (g x)) v) (of_connection_map f g v a)
  where
    go : Dec (f (g x) ≡ v) → of_connection f v (map g a) ≡ map g (of_connection (λ x. f (g x)) v a)
        → of_connection f v (g x ∷ map g a) ≡ map g (of_connection (λ x. f (g x)) v (x ∷ a))
    go (yes e) r = of_connection_yes f v (g x) (map g a) e ∙ ap (λ l. g x ∷ l) r ∙ sym (ap (map g) (of_connection_yes (λ x. f (g x)) v x a e))
    go (no e) r = of_connection_no f v (g x) (map g a) e ∙ r ∙ sym (ap (map g) (of_connection_no (λ x. f (g x)) v x a e))

module _ {C : Type 0} (vc due : C → ℕ) where
  -- none of v in queues from n on, where all of v are due before n
  of_connection_later : (v n lim : ℕ) (r : List (List C)) → lim ≤ n → Timed due n r → Alls (λ b. vc b ≡ v → due b < lim) r
      → of_connection vc v (flat r) ≡ []
  of_connection_later v n lim [] h t a = refl
  of_connection_later v n lim (q ∷ r) h t a =
      of_connection_append vc v q (flat r)
      ∙ ap (λ l. l ++ of_connection vc v (flat r)) (of_connection_none vc v q (here q t.0 a.0))
      ∙ of_connection_later v (suc n) lim r (omega arith) t.1 a.1
    where
      here : (q : List C) → All (λ c. due c ≡ n) q → All (λ b. vc b ≡ v → due b < lim) q → All (λ c. vc c ≡ v → ⊥) q
      here [] x y = tt
      here (c ∷ q) x y = (λ e. omega (arith, y.0 e, x.0), here q x.1 y.1)

  pub put_order : (v n D : ℕ) (c : C) (r : List (List C)) → D < length r → Timed due n r → due c ≡ n + D
      → Alls (λ b. vc b ≡ vc c → due b < due c) r → of_connection vc v (flat (put D c r)) ≡ of_connection vc v (flat r) ++ of_connection vc v (c ∷ [])
  put_order v n D c [] h t e a = absurd (not-suc-le-zero h)
  put_order v n zero c (q ∷ r) h t e a = go (ℕ_discrete (vc c) v)
    where
      go : Dec (vc c ≡ v) → of_connection vc v (c ∷ (q ++ flat r)) ≡ of_connection vc v (q ++ flat r) ++ of_connection vc v (c ∷ [])
      go (yes p) =
          of_connection_yes vc v c (q ++ flat r) p
          ∙ ap (λ l. c ∷ l) none
          ∙ sym (ap (λ l. l ++ of_connection vc v (c ∷ [])) none ∙ of_connection_yes vc v c [] p)
        where
          none : of_connection vc v (q ++ flat r) ≡ []
          none = of_connection_later v n (due c) (q ∷ r) (omega arith) t (subst (λ (w : ℕ). Alls (λ b. vc b ≡ w → due b < due c) (q ∷ r)) p a)
      go (no p) =
          of_connection_no vc v c (q ++ flat r) p
          ∙ sym (ap (λ l. of_connection vc v (q ++ flat r) ++ l) (of_connection_no vc v c [] p) ∙ append-nil (of_connection vc v (q ++ flat r)))
  put_order v n (suc D) c (q ∷ r) h t e a =
      of_connection_append vc v q (flat (put D c r))
      ∙ ap (λ l. of_connection vc v q ++ l) (put_order v (suc n) D c r (le_of_suc-le-suc h) t.1 (omega arith) a.1)
      ∙ sym (append_assoc (of_connection vc v q) (of_connection vc v (flat r)) (of_connection vc v (c ∷ [])))
      ∙ ap (λ l. l ++ of_connection vc v (c ∷ [])) (sym (of_connection_append vc v q (flat r)))
