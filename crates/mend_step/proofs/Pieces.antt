-- What pieces write, one after the other; what a step below the end brings.
use Prim.Native.Nat.{ℕ, ◌+◌, ◌≤◌}
use mathlib.Core.Path.{◌≡◌, refl, sym, ap, ◌∙◌}
use mathlib.Core.List.{List, [], ◌∷◌, ◌++◌, append_assoc}
use lib.ListN.{length, take, drop}
use native.Mathlib.Omega.{arith}
use Rattle.trace_record.specs.Trace.{long_ca}
use Rattle.mend_step.specs.declared.Stride.TheVariants.{Kept}
use Rattle.mend_step.specs.Salvage.{Reading, none, up_to, reads_to, step_of, step_at, next_of, Piece, keeps, skips, written_of}
use Rattle.mend_step.proofs.Shape.{reads_shape, kind_long, kind_short}

pub written_append : (s : List ℕ) (xs ys : List Piece) → written_of s (xs ++ ys) ≡ written_of s xs ++ written_of s ys
written_append s [] ys = refl
written_append s (keeps p l ∷ xs) ys =
    ap (λ (x : List ℕ). take l (drop p s) ++ x) (written_append s xs ys)
    ∙ sym (append_assoc (take l (drop p s)) (written_of s xs) (written_of s ys))
written_append s (skips p l ∷ xs) ys = written_append s xs ys

-- a kept record lies within the trace, and is at most as long as a cell's
pub kept_within : (s : List ℕ) (n p q : ℕ) → Kept q ≡ step_at s n p → (p ≤ q) × (q ≤ length s) × (q ≤ p + long_ca)
unfolding step_at
kept_within s n p q e = go (reads_to s p) refl e
  where
    go : (r : Reading) → reads_to s p ≡ r → Kept q ≡ step_of s n p r → (p ≤ q) × (q ≤ length s) × (q ≤ p + long_ca)
    go none h f = cc
    go (up_to m) h f =
        let t = reads_shape s p m h in
        let i : q ≡ m = ap next_of f in
        (omega (arith, i, kind_long t.kind), omega (arith, i, t.within), omega (arith, i, kind_short t.kind))
