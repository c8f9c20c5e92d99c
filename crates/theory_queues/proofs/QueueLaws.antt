-- Queues of cells: sums, lengths and predicates through a turn, a put and an append, each by induction.
use Prim.Native.Nat.{ℕ, zero, suc, ◌+◌, ◌≤◌, ◌<◌}
use mathlib.Core.Path.{◌≡◌, refl, ap}
use mathlib.Core.Logic.{◌≢◌}
use mathlib.Core.List.{List, [], ◌∷◌, ◌++◌, map, tail}
use native.Mathlib.Nat.{le_of_suc-le-suc, not-suc-le-zero}
use native.Mathlib.Omega.{arith}
use lib.ListN.{length, get_or}
use Rattle.theory_queues.specs.Queue.{sum, sums, All, Alls, flat, first, turn, put, bare}

pub map_append : {A B : Type 0} (f : A → B) (a b : List A) → map f (a ++ b) ≡ map f a ++ map f b
map_append f [] b = refl
map_append f (x ∷ a) b = ap (λ l. f x ∷ l) (map_append f a b)

pub map_length : {A B : Type 0} (f : A → B) (l : List A) → length (map f l) ≡ length l
map_length f [] = refl
map_length f (x ∷ l) = ap suc (map_length f l)

-- queues through a map: a turn, a put, the first queue, the rest, and sums
module _ {A B : Type 0} (f : A → B) where
  pub map_turn : (r : List (List A)) → map (map f) (turn r) ≡ turn (map (map f) r)
  map_turn r = map_append (map f) r ([] ∷ [])

  pub map_put : (D : ℕ) (c : A) (r : List (List A)) → map (map f) (put D c r) ≡ put D (f c) (map (map f) r)
  map_put D c [] = refl
  map_put zero c (q ∷ r) = refl
  map_put (suc D) c (q ∷ r) = ap (λ l. map f q ∷ l) (map_put D c r)

  pub map_first : (r : List (List A)) → map f (first r) ≡ first (map (map f) r)
  map_first [] = refl
  map_first (q ∷ r) = refl

  pub map_tail : (l : List A) → map f (tail l) ≡ tail (map f l)
  map_tail [] = refl
  map_tail (x ∷ l) = refl

  pub sum_map : (g : B → ℕ) (q : List A) → sum g (map f q) ≡ sum (λ c. g (f c)) q
  sum_map g [] = refl
  sum_map g (c ∷ q) = ap (λ (n : ℕ). g (f c) + n) (sum_map g q)

  pub sums_map : (g : B → ℕ) (r : List (List A)) → sums g (map (map f) r) ≡ sums (λ c. g (f c)) r
  sums_map g [] = refl
  sums_map g (q ∷ r) = omega (arith, sum_map g q, sums_map g r)

pub sum_append : {C : Type 0} (f : C → ℕ) (a b : List C) → sum f (a ++ b) ≡ sum f a + sum f b
sum_append f [] b = omega arith
sum_append f (c ∷ cs) b = omega (arith, sum_append f cs b)

pub sums_flat : {C : Type 0} (f : C → ℕ) (r : List (List C)) → sum f (flat r) ≡ sums f r
sums_flat f [] = refl
sums_flat f (q ∷ r) = omega (arith, sum_append f q (flat r), sums_flat f r)

pub sums_first : {C : Type 0} (f : C → ℕ) (r : List (List C)) → sums f r ≡ sum f (first r) + sums f (tail r)
sums_first f [] = refl
sums_first f (q ∷ r) = refl

-- one queue's part of a sum over all
pub sum_get_or : {C : Type 0} (f : C → ℕ) (r : List (List C)) (j : ℕ) → sum f (get_or r j []) ≤ sums f r
sum_get_or f [] j = omega arith
sum_get_or f (q ∷ r) zero = omega arith
sum_get_or f (q ∷ r) (suc j) = omega (arith, sum_get_or f r j)

pub sum_le : {C : Type 0} (f g : C → ℕ) → ((c : C) → f c ≤ g c) → (q : List C) → sum f q ≤ sum g q
sum_le f g h [] = omega arith
sum_le f g h (c ∷ q) = omega (arith, h c, sum_le f g h q)

pub sums_le : {C : Type 0} (f g : C → ℕ) → ((c : C) → f c ≤ g c) → (r : List (List C)) → sums f r ≤ sums g r
sums_le f g h [] = omega arith
sums_le f g h (q ∷ r) = omega (arith, sum_le f g h q, sums_le f g h r)

-- ── a turn ──
pub turn_length : {C : Type 0} (r : List (List C)) → length (turn r) ≡ suc (length r)
turn_length [] = refl
turn_length (q ∷ r) = ap suc (turn_length r)

pub turn_sums : {C : Type 0} (f : C → ℕ) (r : List (List C)) → sums f (turn r) ≡ sums f r
turn_sums f [] = refl
turn_sums f (q ∷ r) = ap (λ (n : ℕ). sum f q + n) (turn_sums f r)

pub turn_flat : {C : Type 0} (r : List (List C)) → flat (turn r) ≡ flat r
turn_flat [] = refl
turn_flat (q ∷ r) = ap (λ l. q ++ l) (turn_flat r)

pub turn_at : {C : Type 0} (r : List (List C)) (j : ℕ) → get_or (turn r) j [] ≡ get_or r j []
turn_at [] zero = refl
turn_at [] (suc j) = refl
turn_at (q ∷ r) zero = refl
turn_at (q ∷ r) (suc j) = turn_at r j

pub get_d_past : {C : Type 0} (r : List (List C)) (j : ℕ) → length r ≤ j → get_or r j [] ≡ []
get_d_past [] j h = refl
get_d_past (q ∷ r) zero h = absurd (not-suc-le-zero h)
get_d_past (q ∷ r) (suc j) h = get_d_past r j (le_of_suc-le-suc h)

-- ── a put ──
pub put_length : {C : Type 0} (D : ℕ) (c : C) (r : List (List C)) → length (put D c r) ≡ length r
put_length D c [] = refl
put_length zero c (q ∷ r) = refl
put_length (suc D) c (q ∷ r) = ap suc (put_length D c r)

pub put_sums : {C : Type 0} (f : C → ℕ) (D : ℕ) (c : C) (r : List (List C)) → D < length r
    → sums f (put D c r) ≡ f c + sums f r
put_sums f D c [] h = absurd (not-suc-le-zero h)
put_sums f zero c (q ∷ r) h = omega arith
put_sums f (suc D) c (q ∷ r) h = omega (arith, put_sums f D c r (le_of_suc-le-suc h))

pub put_same : {C : Type 0} (D : ℕ) (c : C) (r : List (List C)) → D < length r → get_or (put D c r) D [] ≡ c ∷ get_or r D []
put_same D c [] h = absurd (not-suc-le-zero h)
put_same zero c (q ∷ r) h = refl
put_same (suc D) c (q ∷ r) h = put_same D c r (le_of_suc-le-suc h)

pub put_other : {C : Type 0} (D j : ℕ) (c : C) (r : List (List C)) → j ≢ D → get_or (put D c r) j [] ≡ get_or r j []
put_other D j c [] h = refl
put_other zero zero c (q ∷ r) h = absurd (h refl)
put_other zero (suc j) c (q ∷ r) h = refl
put_other (suc D) zero c (q ∷ r) h = refl
put_other (suc D) (suc j) c (q ∷ r) h = put_other D j c r (λ e. h (ap suc e))

-- ── empty queues ──
pub bare_length : (C : Type 0) (w : ℕ) → length (bare {C = C} w) ≡ w
bare_length C zero = refl
bare_length C (suc w) = ap suc (bare_length C w)

pub bare_sums : {C : Type 0} (f : C → ℕ) (w : ℕ) → sums f (bare w) ≡ 0
bare_sums f zero = refl
bare_sums f (suc w) = omega (arith, bare_sums f w)

pub bare_at : (C : Type 0) (w j : ℕ) → get_or (bare {C = C} w) j [] ≡ []
bare_at C zero j = refl
bare_at C (suc w) zero = refl
bare_at C (suc w) (suc j) = bare_at C w j

pub bare_flat : (C : Type 0) (w : ℕ) → flat (bare {C = C} w) ≡ []
bare_flat C zero = refl
bare_flat C (suc w) = bare_flat C w

-- ── of every cell ──
pub all_map : {C : Type 0} (P Q : C → Type 0) → ((c : C) → P c → Q c) → (q : List C) → All P q → All Q q
all_map P Q f [] a = tt
all_map P Q f (c ∷ q) a = (f c a.0, all_map P Q f q a.1)

pub alls_map : {C : Type 0} (P Q : C → Type 0) → ((c : C) → P c → Q c) → (r : List (List C)) → Alls P r → Alls Q r
alls_map P Q f [] a = tt
alls_map P Q f (q ∷ r) a = (all_map P Q f q a.0, alls_map P Q f r a.1)

pub all_both : {C : Type 0} (P Q : C → Type 0) (q : List C) → All P q → All Q q → All (λ c. P c × Q c) q
all_both P Q [] a b = tt
all_both P Q (c ∷ q) a b = ((a.0, b.0), all_both P Q q a.1 b.1)

pub alls_both : {C : Type 0} (P Q : C → Type 0) (r : List (List C)) → Alls P r → Alls Q r → Alls (λ c. P c × Q c) r
alls_both P Q [] a b = tt
alls_both P Q (q ∷ r) a b = (all_both P Q q a.0 b.0, alls_both P Q r a.1 b.1)

module _ {C : Type 0} (P : C → Type 0) where
  pub all_append : (a b : List C) → All P a → All P b → All P (a ++ b)
  all_append [] b h k = k
  all_append (c ∷ a) b h k = (h.0, all_append a b h.1 k)

  pub all_tail : (q : List C) → All P q → All P (tail q)
  all_tail [] a = tt
  all_tail (c ∷ q) a = a.1

  pub alls_first : (r : List (List C)) → Alls P r → All P (first r)
  alls_first [] a = tt
  alls_first (q ∷ r) a = a.0

  pub alls_tail : (r : List (List C)) → Alls P r → Alls P (tail r)
  alls_tail [] a = tt
  alls_tail (q ∷ r) a = a.1

  pub alls_flat : (r : List (List C)) → Alls P r → All P (flat r)
  alls_flat [] a = tt
  alls_flat (q ∷ r) a = all_append q (flat r) a.0 (alls_flat r a.1)

  pub alls_turn : (r : List (List C)) → Alls P r → Alls P (turn r)
  alls_turn [] h = (tt, tt)
  alls_turn (q ∷ r) h = (h.0, alls_turn r h.1)

  pub alls_put : (D : ℕ) (c : C) (r : List (List C)) → P c → Alls P r → Alls P (put D c r)
  alls_put D c [] p h = tt
  alls_put zero c (q ∷ r) p h = ((p, h.0), h.1)
  alls_put (suc D) c (q ∷ r) p h = (h.0, alls_put D c r p h.1)

  pub alls_bare : (w : ℕ) → Alls P (bare w)
  alls_bare zero = tt
  alls_bare (suc w) = (tt, alls_bare w)
