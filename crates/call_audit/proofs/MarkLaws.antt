-- The bit of an entry compared with the entry, and a test of all entries.
use Prim.Native.Nat.{ℕ, zero, suc, ◌+◌, ◌≤◌, ◌<◌}
use mathlib.Core.Path.{◌≡◌, refl, sym, ◌∙◌, ap}
use mathlib.Core.Bool.{Bool, true, false}
use native.Mathlib.Decide.{ℕ_discrete}
use native.Mathlib.Omega.{arith}
use Rattle.std.specs.List.{range_with_len, list_all}
use Rattle.std.proofs.lemmas.Bool.{and_parts, and_from}
use Rattle.call_audit.specs.Marks.{agrees}

pub agrees_same : (a b : Bool) → agrees a b ≡ true → a ≡ b
unfolding agrees
agrees_same true true e = refl
agrees_same true false e = sym e
agrees_same false true e = e
agrees_same false false e = refl

pub same_agrees : (a b : Bool) → a ≡ b → agrees a b ≡ true
unfolding agrees
same_agrees true true e = refl
same_agrees true false e = sym e
same_agrees false true e = e
same_agrees false false e = refl

-- a test of each of n entries from a on
pub all_pass : (p : ℕ → Bool) (a n : ℕ) → list_all p (range_with_len a n) ≡ true → (e : ℕ) → a ≤ e → e < a + n → p e ≡ true
all_pass p a zero y e l h = absurd (omega arith)
all_pass p a (suc n) y e l h = go (λ m. all_pass p (a + 1) n parts.1 e m (omega arith)) (ℕ_discrete a e)
  where
    parts : (p a ≡ true) × (list_all p (range_with_len (a + 1) n) ≡ true)
    parts = and_parts (p a) (list_all p (range_with_len (a + 1) n)) y

    go : (a + 1 ≤ e → p e ≡ true) → Dec (a ≡ e) → p e ≡ true
    go rest (yes s) = ap p (sym s) ∙ parts.0
    go rest (no d) = rest (omega arith)

pub pass_all : (p : ℕ → Bool) (a n : ℕ) → ((e : ℕ) → a ≤ e → e < a + n → p e ≡ true) → list_all p (range_with_len a n) ≡ true
pass_all p a zero f = refl
pass_all p a (suc n) f =
    and_from (p a) (list_all p (range_with_len (a + 1) n)) (f a (omega arith) (omega arith)) (pass_all p (a + 1) n (λ e l h. f e (omega arith) (omega arith)))
