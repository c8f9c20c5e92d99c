-- What begins with GM, GR or GN is not refused, and nothing else is; every piece ends within the front, or is a stretch to the
-- end of the input.
use Prim.Native.Nat.{ℕ, zero, suc, ◌+◌, ◌-◌, ◌≤◌, ◌<◌}
use mathlib.Core.Path.{◌≡◌, refl, sym, ap, subst, ◌∙◌}
use mathlib.Core.Bool.{Bool, true, false, ◌&&◌, ◌||◌}
use mathlib.Core.Logic.{◌⊎◌, inl, inr, ⊎_elim}
use mathlib.Core.List.{List, [], ◌∷◌}
use lib.ListN.{length}
use borrow.Author.Tests.{leb-true, eqb-true, le-leb, ltb-true, ltb-false}
use native.Mathlib.Omega.{arith}
use Rattle.meaning.specs.Plain.{when◌then◌else◌, ◌<?◌, ◌≤?◌, ◌=?◌}
use Rattle.trace_record.specs.Trace.{be16, long_gm, mark_gr, mark_gn}
use Rattle.mend_step.specs.Salvage.{Reading, none, up_to, reads_to, among, meets_rule, first_of, resume, step_of, step_at, next_of, Piece, piece_of, walk_from, walk}
use Rattle.mend_step.specs.Salvage.{refused, mended, salvage_of, salvage_front}
use Rattle.mend_step.proofs.Shape.{First, gm, gr, gn, Kind, first, later, reads_shape, shape_reads, kind_long}
use Rattle.mend_step.proofs.Walk.{step_on}
use Rattle.mend_theorems.specs.Promises.{heads, begins, Ends}

-- ---- 17

both : (a b : Bool) → a && b ≡ true → (a ≡ true) × (b ≡ true)
both true b h = (refl, h)
both false b h = (h, absurd (let z : ◌≡◌ {A = ℕ} 0 1 = cc in omega arith))

either : (a b : Bool) → a || b ≡ true → (a ≡ true) ⊎ (b ≡ true)
either true b h = inl refl
either false b h = inr h

among_one : (m : ℕ) {x : ℕ} (xs : List ℕ) → among m (x ∷ xs) ≡ true → (m ≡ x) ⊎ (among m xs ≡ true)
among_one m {x} xs h = ⊎_elim (λ e. inl (eqb-true m x e)) (λ e. inr e) (either (m =? x) (among m xs) h)

among_first : (m : ℕ) → among m heads ≡ true → First m
among_first m h =
    ⊎_elim gm (λ i. ⊎_elim gr (λ j. ⊎_elim gn (λ k. absurd (let z : ◌≡◌ {A = ℕ} 0 1 = cc in omega arith)) (among_one m [] j)) (among_one m (mark_gn ∷ []) i))
    (among_one m (mark_gr ∷ mark_gn ∷ []) h)

first_among : {m : ℕ} → First m → among m heads ≡ true
first_among (gm h) = ap (λ (m : ℕ). among m heads) h
first_among (gr h) = ap (λ (m : ℕ). among m heads) h
first_among (gn h) = ap (λ (m : ℕ). among m heads) h

module _ (s : List ℕ) where
  begins_reads : begins s ≡ true → reads_to s 0 ≡ up_to 6
  unfolding begins
  begins_reads h =
      let t = both (long_gm ≤? length s) (among (be16 s 0) heads) h in
      shape_reads s 0 6 (record { within = leb-true _ _ t.0; kind = first refl (among_first _ t.1) refl })

  reads_begins : (e : ℕ) → reads_to s 0 ≡ up_to e → begins s ≡ true
  unfolding begins
  reads_begins e h = let t = reads_shape s 0 e h in go t.within t.kind
    where
      go : e ≤ length s → Kind (be16 s 0) (be16 s 2) 0 e → (long_gm ≤? length s) && among (be16 s 0) heads ≡ true
      go l (first z m q) = simp (le-leb long_gm (length s) (omega arith), first_among m)
      go l (later i z m q) = absurd (omega arith)

  pub begins_tells : (n : ℕ) → salvage_front s n ≡ (when begins s then mended (walk s n) else refused 17)
  unfolding salvage_front
  begins_tells n = go (reads_to s 0) refl (begins s) refl
    where
      go : (r : Reading) → reads_to s 0 ≡ r → (b : Bool) → begins s ≡ b → salvage_of s n r ≡ (when b then mended (walk s n) else refused 17)
      go none e true f = absurd (let x : none ≡ up_to 6 = sym e ∙ begins_reads f in let z : ◌≡◌ {A = ℕ} 0 1 = cc in omega arith)
      go none e false f = refl
      go (up_to m) e true f = refl
      go (up_to m) e false f = absurd (let x : false ≡ true = sym f ∙ reads_begins m e in let z : ◌≡◌ {A = ℕ} 0 1 = cc in omega arith)

-- ---- where the pieces end

module _ (s : List ℕ) (n : ℕ) where
  first_ends : (k q : ℕ) → q + k ≤ length s → (first_of s n k q ≤ length s) ⊎ (first_of s n k q ≡ n)
  unfolding first_of
  first_ends zero q h = inr refl
  first_ends (suc k) q h = go (meets_rule s n q) (first_ends k (suc q) (omega arith))
    where
      go : (b : Bool) → (first_of s n k (suc q) ≤ length s) ⊎ (first_of s n k (suc q) ≡ n)
          → ((when b then q else first_of s n k (suc q)) ≤ length s) ⊎ ((when b then q else first_of s n k (suc q)) ≡ n)
      go true i = inl (omega arith)
      go false i = i

  resume_ends : (p : ℕ) → (resume s n p ≤ length s) ⊎ (resume s n p ≡ n)
  unfolding resume first_of
  resume_ends p = go (p <? length s) refl
    where
      go : (b : Bool) → (p <? length s) ≡ b → (first_of s n (length s - suc p) (suc p) ≤ length s) ⊎ (first_of s n (length s - suc p) (suc p) ≡ n)
      go true e = first_ends (length s - suc p) (suc p) (omega (arith, ltb-true p (length s) e))
      go false e =
          let z : length s - suc p ≡ 0 = omega (arith, ltb-false p (length s) e) in
          inr (ap (λ (k : ℕ). first_of s n k (suc p)) z)

  module _ (long : ℕ) (fits : length s ≤ long) where
    skip_ends : (p m : ℕ) → p < m → (m ≤ length s) ⊎ (m ≡ n) → (p + (m - p) ≤ long) ⊎ (p + (m - p) ≡ n)
    skip_ends p m h (inl l) = inl (omega (arith, fits))
    skip_ends p m h (inr e) = inr (omega arith)

    step_ends : (p : ℕ) (xs : List Piece) → p < n → Ends long n xs → Ends long n (piece_of p (step_at s n p) ∷ xs)
    unfolding step_at
    step_ends p xs h f = go (reads_to s p) refl (step_on s n p h)
      where
        go : (r : Reading) → reads_to s p ≡ r → p < next_of (step_of s n p (reads_to s p)) → Ends long n (piece_of p (step_of s n p r) ∷ xs)
        go none e i =
            let j : p < resume s n p = subst (λ (r : Reading). p < next_of (step_of s n p r)) e i in
            (skip_ends p (resume s n p) j (resume_ends p), f)
        go (up_to m) e i = let t = reads_shape s p m e in (omega (arith, kind_long t.kind, t.within, fits), f)

    walk_from_ends : (k p : ℕ) → Ends long n (walk_from s n k p)
    unfolding walk_from
    walk_from_ends zero p = tt
    walk_from_ends (suc k) p = go (p <? n) refl (walk_from_ends k (next_of (step_at s n p)))
      where
        go : (b : Bool) → (p <? n) ≡ b → Ends long n (walk_from s n k (next_of (step_at s n p)))
            → Ends long n (when b then piece_of p (step_at s n p) ∷ walk_from s n k (next_of (step_at s n p)) else [])
        go true e f = step_ends p (walk_from s n k (next_of (step_at s n p))) (ltb-true p n e) f
        go false e f = tt

    pub walk_ends : Ends long n (walk s n)
    unfolding walk
    walk_ends = walk_from_ends n 0
