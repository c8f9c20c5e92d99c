-- Counting in a list of numbers: tests that agree count alike; how many are below b + 1; and a sorted list has its k-th number where
-- the counts say.
use Rattle.std.proofs.Common.{◌≡◌, ℕ, zero, suc, ◌+◌, ◌<◌, ◌≤◌, Bool, List, [], ◌∷◌, get_or, sym, refl, ap, ◌∙◌, ap₂, zero-le, arith, le-ltb, lt-ltb, eq-eqb, ne_eqb, le-leb}
use native.Mathlib.Decide.{dec_lt, ℕ_discrete}
use borrow.Author.Tests.{lt-leb}
use Rattle.meaning.specs.Plain.{when◌then◌else◌, ◌<?◌, ◌≤?◌, ◌=?◌}
use Rattle.call_tally.specs.Tally.{bin_of}
use Rattle.call_tally.specs.Delays.{cut, how_many, is_it, below, at_most, Ascending, SameNumbers}

abbrev pub one_if : Bool → ℕ
one_if b = when b then 1 else 0

-- ── tests that agree ──
pub count_same : (p q : ℕ → Bool) → ((x : ℕ) → p x ≡ q x) → (l : List ℕ) → how_many p l ≡ how_many q l
unfolding how_many
count_same p q e [] = refl
count_same p q e (x ∷ xs) = ap₂ ◌+◌ (ap one_if (e x)) (count_same p q e xs)

pub cut_same : (p q : ℕ → Bool) → ((d : ℕ) → p (bin_of d) ≡ q d) → (ds : List ℕ) → how_many p (cut ds) ≡ how_many q ds
unfolding how_many cut
cut_same p q e [] = refl
cut_same p q e (d ∷ ds) = ap₂ ◌+◌ (ap one_if (e d)) (cut_same p q e ds)

-- ── numbers below b, and those that are b ──
one_further : (b x : ℕ) → one_if (below (suc b) x) ≡ one_if (below b x) + one_if (is_it b x)
one_further b x = go (dec_lt x b) (ℕ_discrete x b)
  where
    go : Dec (x < b) → Dec (x ≡ b) → one_if (x <? suc b) ≡ one_if (x <? b) + one_if (x =? b)
    go (yes h) e = rw (lt-ltb x (suc b) (omega (arith, h)), lt-ltb x b h, ne_eqb x b (λ z. omega (arith, h, z))) refl
    go (no n) (yes e) = rw (lt-ltb x (suc b) (omega (arith, e)), le-ltb x b (omega (arith, e)), eq-eqb x b e) refl
    go (no n) (no m) = rw (le-ltb x (suc b) (omega (arith, n, m)), le-ltb x b (omega (arith, n)), ne_eqb x b m) refl

pub below_more : (b : ℕ) (l : List ℕ) → how_many (below (suc b)) l ≡ how_many (below b) l + how_many (is_it b) l
unfolding how_many
below_more b [] = refl
below_more b (x ∷ xs) = omega (arith, one_further b x, below_more b xs)

pub below_none : (l : List ℕ) → how_many (below 0) l ≡ 0
unfolding how_many
below_none [] = refl
below_none (x ∷ xs) = omega (arith, ap one_if (le-ltb x 0 zero-le), below_none xs)

pub at_most_below : (b : ℕ) (l : List ℕ) → how_many (at_most b) l ≡ how_many (below (suc b)) l
at_most_below b l = count_same (at_most b) (below (suc b)) same l
  where
    same : (x : ℕ) → (x ≤? b) ≡ (x <? suc b)
    same x = go (dec_lt b x)
      where
        go : Dec (b < x) → (x ≤? b) ≡ (x <? suc b)
        go (yes h) = lt-leb x b h ∙ sym (le-ltb x (suc b) (omega (arith, h)))
        go (no n) = le-leb x b (omega (arith, n)) ∙ sym (lt-ltb x (suc b) (omega (arith, n)))

-- lists with the same numbers have as many below b
pub same_below : (l k : List ℕ) → SameNumbers l k → (b : ℕ) → how_many (below b) l ≡ how_many (below b) k
same_below l k s zero = below_none l ∙ sym (below_none k)
same_below l k s (suc b) = omega (arith, below_more b l, below_more b k, same_below l k s b, s b)

-- ── a sorted list ──
ascending_tail : (x : ℕ) (xs : List ℕ) → Ascending (x ∷ xs) → Ascending xs
ascending_tail x xs s i j h l = s (suc i) (suc j) (omega (arith, h)) (omega (arith, l))

-- nothing is below the first number
none_below : (x b : ℕ) (xs : List ℕ) → Ascending (x ∷ xs) → b ≤ x → how_many (below b) (x ∷ xs) ≡ 0
unfolding how_many
none_below x b [] s h = omega (arith, ap one_if (le-ltb x b h))
none_below x b (y ∷ ys) s h =
    let z = none_below y b ys (ascending_tail x (y ∷ ys) s) (omega (arith, h, s 0 1 (omega arith) (omega arith))) in
    omega (arith, z, ap one_if (le-ltb x b h))

-- where at least k are below b + 1, and fewer than k are below b, the k-th is b
pub kth : (l : List ℕ) (b k : ℕ) → Ascending l → k < how_many (below (suc b)) l → how_many (below b) l ≤ k → get_or l k 0 ≡ b
unfolding how_many
kth [] b k s h m = absurd (omega (arith, h))
kth (x ∷ xs) b k s h m = go (λ j. kth xs b j (ascending_tail x xs s)) (dec_lt x b) (dec_lt b x) k h m
  where
    go : ((j : ℕ) → j < how_many (below (suc b)) xs → how_many (below b) xs ≤ j → get_or xs j 0 ≡ b)
        → Dec (x < b) → Dec (b < x)
        → (k : ℕ) → k < how_many (below (suc b)) (x ∷ xs) → how_many (below b) (x ∷ xs) ≤ k → get_or (x ∷ xs) k 0 ≡ b
    go ih (yes p) q zero h m = absurd (omega (arith, m, ap one_if (lt-ltb x b p)))
    go ih (yes p) q (suc k) h m =
        ih k (omega (arith, h, ap one_if (lt-ltb x (suc b) (omega (arith, p))))) (omega (arith, m, ap one_if (lt-ltb x b p)))
    go ih (no p) (yes q) k h m = absurd (omega (arith, h, none_below x (suc b) xs s q))
    go ih (no p) (no q) zero h m = omega (arith, p, q)
    go ih (no p) (no q) (suc k) h m =
        ih k (omega (arith, h, ap one_if (lt-ltb x (suc b) (omega (arith, q)))))
        (omega (arith, none_below x b xs s (omega (arith, p))))
