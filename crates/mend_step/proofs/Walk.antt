-- The walk: each step leads on within the input, so the pieces reach its end; what satisfies the steps is the walk.
use Prim.Native.Nat.{ℕ, zero, suc, ◌+◌, ◌-◌, ◌≤◌, ◌<◌}
use mathlib.Core.Path.{◌≡◌, refl, sym, ap, ◌∙◌}
use mathlib.Core.Bool.{Bool, true, false}
use mathlib.Core.List.{List, [], ◌∷◌}
use lib.ListN.{length}
use borrow.Author.Tests.{ltb-true, ltb-false, lt-ltb, le-ltb}
use native.Mathlib.Omega.{arith}
use Rattle.meaning.specs.Plain.{when◌then◌else◌, ◌<?◌}
use Rattle.mend_step.specs.Salvage.{Reading, none, up_to, reads_to, meets_rule, first_of, resume, step_of, step_at, next_of, Piece, piece_of, walk_from}
use Rattle.mend_step.proofs.Shape.{reads_shape, kind_long}

-- ---- the search for a place to resume at

module _ (s : List ℕ) (n : ℕ) where
  pub first_after : (m k q : ℕ) → m ≤ n → m ≤ q → m ≤ first_of s n k q
  unfolding first_of
  first_after m zero q h l = h
  first_after m (suc k) q h l = go (meets_rule s n q) (first_after m k (suc q) h (omega arith))
    where
      go : (b : Bool) → m ≤ first_of s n k (suc q) → m ≤ (when b then q else first_of s n k (suc q))
      go true i = l
      go false i = i

  pub first_within : (k q : ℕ) → length s ≤ n → k ≤ length s - q → first_of s n k q ≤ n
  unfolding first_of
  first_within zero q h l = omega arith
  first_within (suc k) q h l = go (meets_rule s n q) (first_within k (suc q) h (omega arith))
    where
      go : (b : Bool) → first_of s n k (suc q) ≤ n → (when b then q else first_of s n k (suc q)) ≤ n
      go true i = omega arith
      go false i = i

  -- a step below the end leads on, whatever the trace
  pub step_on : (p : ℕ) → p < n → p < next_of (step_at s n p)
  unfolding step_at resume
  step_on p h = go (reads_to s p) refl
    where
      go : (r : Reading) → reads_to s p ≡ r → p < next_of (step_of s n p r)
      go none e = first_after (suc p) (length s - suc p) (suc p) h (omega arith)
      go (up_to m) e = let t = reads_shape s p m e in omega (arith, kind_long t.kind)

  -- and stays within an input that is no shorter than its front
  pub step_within : (p : ℕ) → length s ≤ n → next_of (step_at s n p) ≤ n
  unfolding step_at resume
  step_within p h = go (reads_to s p) refl
    where
      go : (r : Reading) → reads_to s p ≡ r → next_of (step_of s n p r) ≤ n
      go none e = first_within (length s - suc p) (suc p) h (omega arith)
      go (up_to m) e = let t = reads_shape s p m e in omega (arith, t.within, h)

-- the least place that meets the rule, or the end
pub first_least : (s : List ℕ) (n k q t : ℕ) → q + k ≡ n → q ≤ t → t ≤ n
    → ((j : ℕ) → q ≤ j → j < t → meets_rule s n j ≡ false) → (t < n → meets_rule s n t ≡ true) → first_of s n k q ≡ t
unfolding first_of
first_least s n zero q t h l u f g = omega arith
first_least s n (suc k) q t h l u f g =
    go (q <? t) refl (λ i. first_least s n k (suc q) t (omega arith) i u (λ j x y. f j (omega arith) y) g)
  where
    go : (b : Bool) → (q <? t) ≡ b → (suc q ≤ t → first_of s n k (suc q) ≡ t) → (when meets_rule s n q then q else first_of s n k (suc q)) ≡ t
    go true e more =
        let i = ltb-true q t e in
        ap (λ (b : Bool). when b then q else first_of s n k (suc q)) (f q (omega arith) i) ∙ more (omega (arith, i))
    go false e more =
        let i = ltb-false q t e in
        let same : q ≡ t = omega (arith, i, l) in
        ap (λ (b : Bool). when b then q else first_of s n k (suc q)) (ap (meets_rule s n) same ∙ g (omega arith)) ∙ same

-- ---- the pieces of the steps from p to the end of an input of n octets, s its front

abbrev pub Walks : List ℕ → ℕ → ℕ → List Piece → Type 0
Walks s n p [] = p ≡ n
Walks s n p (x ∷ xs) = (p < n) × (x ≡ piece_of p (step_at s n p)) × Walks s n (next_of (step_at s n p)) xs

module _ (s : List ℕ) (n : ℕ) where
  pub walk_is : (p : ℕ) (xs : List Piece) → Walks s n p xs → (k : ℕ) → n - p ≤ k → walk_from s n k p ≡ xs
  unfolding walk_from
  walk_is p [] w zero h = refl
  walk_is p [] w (suc k) h =
      ap (λ (b : Bool). when b then piece_of p (step_at s n p) ∷ walk_from s n k (next_of (step_at s n p)) else []) (le-ltb p n (omega arith))
  walk_is p (x ∷ xs) w zero h = absurd (omega (arith, w.0))
  walk_is p (x ∷ xs) w (suc k) h =
      let i = step_on s n p w.0 in
      ap (λ (b : Bool). when b then piece_of p (step_at s n p) ∷ walk_from s n k (next_of (step_at s n p)) else []) (lt-ltb p n w.0)
      ∙ ap (λ (y : Piece). y ∷ walk_from s n k (next_of (step_at s n p))) (sym w.1)
      ∙ ap (λ (ys : List Piece). x ∷ ys) (walk_is (next_of (step_at s n p)) xs w.2 k (omega (arith, i)))

  pub walks : (k p : ℕ) → length s ≤ n → p ≤ n → n - p ≤ k → Walks s n p (walk_from s n k p)
  unfolding walk_from
  walks zero p f l h = omega arith
  walks (suc k) p f l h = go (p <? n) refl (λ m. walks k m f)
    where
      go : (b : Bool) → (p <? n) ≡ b → ((m : ℕ) → m ≤ n → n - m ≤ k → Walks s n m (walk_from s n k m))
          → Walks s n p (when b then piece_of p (step_at s n p) ∷ walk_from s n k (next_of (step_at s n p)) else [])
      go true e more =
          let i = ltb-true p n e in
          let j = step_on s n p i in
          (i, refl, more (next_of (step_at s n p)) (step_within s n p f) (omega (arith, j)))
      go false e more = omega (arith, ltb-false p n e)
