-- A list turned round, as the calendar is: its elements, its length; and counts over joined lists.
use Prim.Native.Nat.{ℕ, zero, suc, ◌+◌, ◌-◌, ◌≤◌, ◌<◌}
use mathlib.Core.Path.{◌≡◌, refl, sym, ap, ◌∙◌, subst}
use mathlib.Core.List.{List, [], ◌∷◌, ◌++◌, map, append_assoc}
use native.Mathlib.Omega.{arith}
use lib.ListN.{length, get_or, take, drop, length-append, length-drop, get_or-append}
use native.Mathlib.Nat.{not-suc-le-zero}
use native.Mathlib.Decide.{ℕ_discrete}
use lib.Seq.{get_or-append-add, get_or-take, get_or-drop, length-take-le}
use Rattle.meaning.specs.Audit.{count, joined}
use Rattle.theory_queues.specs.Queue.{All}
use Rattle.theory_chains.specs.Strung.{cnt}
use Rattle.theory_chains.proofs.CountLaws.{is_no}
use Rattle.theory_memory.specs.Held.{Queued, space_of}

pub count_append : (k : ℕ) (a b : List ℕ) → count k (a ++ b) ≡ count k a + count k b
count_append k [] b = omega arith
count_append k (x ∷ a) b = omega (arith, count_append k a b)

pub joined_append : (a b : List (List ℕ)) → joined (a ++ b) ≡ joined a ++ joined b
joined_append [] b = refl
joined_append (q ∷ a) b = ap (λ l. q ++ l) (joined_append a b) ∙ sym (append_assoc q (joined a) (joined b))

pub get_d_map : (f : List Queued → List ℕ) (r : List (List Queued)) (j : ℕ) → f [] ≡ []
    → get_or (map f r) j [] ≡ f (get_or r j [])
get_d_map f [] j e = sym e
get_d_map f (q ∷ r) zero e = refl
get_d_map f (q ∷ r) (suc j) e = get_d_map f r j e

-- a list turned round by k
abbrev pub round : {A : Type 0} → ℕ → List A → List A
round k l = drop k l ++ take k l

pub round_length : {A : Type 0} (k : ℕ) (l : List A) → k ≤ length l → length (round k l) ≡ length l
round_length k l h = length-append (drop k l) (take k l) ∙ omega (arith, length-drop k l, length-take-le k l h)

pub round_low : {A : Type 0} (k e : ℕ) (l : List A) (d : A) → k + e < length l → get_or (round k l) e d ≡ get_or l (k + e) d
round_low k e l d h =
    get_or-append (drop k l) (take k l) d e (omega (arith, length-drop k l)) ∙ get_or-drop k l e d

pub round_high : {A : Type 0} (k e : ℕ) (l : List A) (d : A) → k ≤ length l → length l ≤ k + e → k + e < length l + k
    → get_or (round k l) e d ≡ get_or l (k + e - length l) d
round_high k e l d h h1 h2 =
    ap (λ (i : ℕ). get_or (round k l) i d) (omega (arith, length-drop k l))
    ∙ get_or-append-add (drop k l) (take k l) (k + e - length l) d
    ∙ get_or-take k l (k + e - length l) d (omega arith)

-- what all queued cells have, their spaces have
pub pick : (P : ℕ → Type 0) (k : ℕ) (q : List Queued) → All (λ c. P c.space) q → 0 < cnt space_of k q → P k
pick P k [] a h = absurd (not-suc-le-zero h)
pick P k (c ∷ q) a h = go (ℕ_discrete k c.space) (pick P k q a.1)
  where
    go : Dec (k ≡ c.space) → (0 < cnt space_of k q → P k) → P k
    go (yes e) f = subst P (sym e) a.0
    go (no e) f = f (omega (arith, is_no k c.space e))
