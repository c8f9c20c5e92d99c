-- A list can be taken off a budget whole, with nothing left, exactly when each number stands in it as often as the budget
-- says (paid, afford): each taking lowers the count and the budget alike.
use Prim.Native.Nat.{ℕ, zero, suc, ◌+◌, ◌-◌, ◌≤◌, ◌<◌}
use mathlib.Core.Path.{◌≡◌, refl, sym, ap, ◌∙◌}
use mathlib.Core.Bool.{true, false}
use Rattle.std.specs.List.{list_all}
use mathlib.Core.List.{List, [], ◌∷◌, ◌++◌}
use native.Mathlib.Decide.{ℕ_discrete, dec_lt}
use native.Mathlib.Omega.{arith}
use lib.ListN.{length, get_or, set, replicate, get_or-eq_default}
use lib.Seq.{get_or-set_same, get_or-set_other, set-get_or}
use borrow.Author.Tests.{lt-ltb, le-ltb, eq-eqb, ne_eqb, eqb-true}
use Rattle.meaning.specs.Plain.{when◌then◌else◌, ◌<?◌, ◌=?◌}
use Rattle.meaning.specs.Audit.{count, joined}
use Rattle.mem_walks.specs.Budget.{spent, spend_all, Covers, Gone, sum}
use Rattle.mem_walks.proofs.Choice.{both as both_true}

-- Counts: 1 at k, 0 at any other number

abbrev pub is : ℕ → ℕ → ℕ
is k x = when k =? x then 1 else 0

pub is_no : (k x : ℕ) → (x ≡ k → ⊥) → is k x ≡ 0
is_no k x h = rw (ne_eqb k x (λ e. h (sym e)))

pub is_same : (k : ℕ) → is k k ≡ 1
is_same k = rw (eq-eqb k k refl)

pub count_append : (k : ℕ) (xs ys : List ℕ) → count k (xs ++ ys) ≡ count k xs + count k ys
count_append k [] ys = omega arith
count_append k (x ∷ xs) ys = omega (arith, count_append k xs ys)

pub count_joined : (k : ℕ) (qs : List (List ℕ)) (e : ℕ) → count k (get_or qs e []) ≤ count k (joined qs)
count_joined k [] e = omega arith
count_joined k (q ∷ qs) zero = omega (arith, count_append k q (joined qs))
count_joined k (q ∷ qs) (suc e) = omega (arith, count_joined k qs e, count_append k q (joined qs))

-- One taking

pub in_budget : (b : List ℕ) (x : ℕ) → 0 < get_or b x 0 → x < length b
in_budget b x h = go (dec_lt x (length b))
  where
    go : Dec (x < length b) → x < length b
    go (yes p) = p
    go (no p) = absurd (omega (arith, get_or-eq_default b 0 {n = x} (omega arith)))

spent_same : (b : List ℕ) (x : ℕ) → 0 < get_or b x 0 → get_or (spent b x) x 0 + 1 ≡ get_or b x 0
unfolding spent
spent_same b x h = omega (arith, get_or-set_same b x (get_or b x 0 - 1) 0 (in_budget b x h))

spent_other : (b : List ℕ) (x k : ℕ) → (x ≡ k → ⊥) → get_or (spent b x) k 0 ≡ get_or b k 0
unfolding spent
spent_other b x k n = get_or-set_other b x k (get_or b x 0 - 1) 0 (λ e. n (sym e))

-- what is left of k after one x
pub spent_at : (b : List ℕ) (x k : ℕ) → 0 < get_or b x 0 → get_or (spent b x) k 0 + is k x ≡ get_or b k 0
spent_at b x k h = go (ℕ_discrete x k)
  where
    go : Dec (x ≡ k) → get_or (spent b x) k 0 + is k x ≡ get_or b k 0
    go (yes e) =
        ap (λ (j : ℕ). get_or (spent b x) j 0 + is j x) (sym e)
        ∙ omega (arith, is_same x, spent_same b x h)
        ∙ ap (λ (j : ℕ). get_or b j 0) e
    go (no n) = omega (arith, is_no k x n, spent_other b x k n)

sum_set : (b : List ℕ) (x : ℕ) → 0 < get_or b x 0 → sum (set b x (get_or b x 0 - 1)) + 1 ≡ sum b
sum_set [] x h = absurd (omega arith)
sum_set (a ∷ b) zero h = omega arith
sum_set (a ∷ b) (suc x) h = omega (arith, sum_set b x h)

-- the measure of a walk: it falls with each taking
pub sum_spent : (b : List ℕ) (x : ℕ) → 0 < get_or b x 0 → sum (spent b x) + 1 ≡ sum b
unfolding spent
sum_spent b x h = sum_set b x h

-- The three ways through the code that takes one

pub take_yes : (b : List ℕ) (x : ℕ) → 0 < get_or b x 0 → (true ≡ 0 <? get_or b x 0) × (set b x (get_or b x 0 - 1) ≡ spent b x)
unfolding spent
take_yes b x h = (sym (lt-ltb 0 (get_or b x 0) h), refl)

pub take_none : (b : List ℕ) (x : ℕ) → get_or b x 0 ≤ 0 → (false ≡ 0 <? get_or b x 0) × (b ≡ spent b x)
unfolding spent
take_none b x h =
    let e : get_or b x 0 - 1 ≡ get_or b x 0 = omega arith in
    (sym (le-ltb 0 (get_or b x 0) h), sym (ap (λ (v : ℕ). set b x v) e ∙ set-get_or b x 0))

pub take_past : (b : List ℕ) (x : ℕ) → length b ≤ x → (false ≡ 0 <? get_or b x 0) × (b ≡ spent b x)
take_past b x h = take_none b x (omega (arith, get_or-eq_default b 0 {n = x} h))

-- A whole list taken

pub spend_append : (b xs ys : List ℕ) → spend_all b (xs ++ ys) ≡ spend_all (spend_all b xs) ys
spend_append b [] ys = refl
spend_append b (x ∷ xs) ys = spend_append (spent b x) xs ys

pub covers_append : (b xs ys : List ℕ) → Covers b xs → Covers (spend_all b xs) ys → Covers b (xs ++ ys)
covers_append b [] ys c d = d
covers_append b (x ∷ xs) ys c d = (c.0, covers_append (spent b x) xs ys c.1 d)

pub covers_left : (b xs ys : List ℕ) → Covers b (xs ++ ys) → Covers b xs
covers_left b [] ys c = tt
covers_left b (x ∷ xs) ys c = (c.0, covers_left (spent b x) xs ys c.1)

pub covers_right : (b xs ys : List ℕ) → Covers b (xs ++ ys) → Covers (spend_all b xs) ys
covers_right b [] ys c = c
covers_right b (x ∷ xs) ys c = covers_right (spent b x) xs ys c.1

-- what was there is what was taken and what is left
pub paid : (b xs : List ℕ) → Covers b xs → (k : ℕ) → get_or (spend_all b xs) k 0 + count k xs ≡ get_or b k 0
paid b [] c k = omega arith
paid b (x ∷ xs) c k = omega (arith, paid (spent b x) xs c.1 k, spent_at b x k c.0)

pub afford : (b xs : List ℕ) → ((k : ℕ) → count k xs ≤ get_or b k 0) → Covers b xs
afford b [] h = tt
afford b (x ∷ xs) h = (some, afford (spent b x) xs (λ k. omega (arith, h k, spent_at b x k some)))
  where
    some : 0 < get_or b x 0
    some = omega (arith, h x, is_same x)

-- Nothing left

pub gone_yes : (b : List ℕ) → list_all (λ left. left =? 0) b ≡ true → Gone b
gone_yes [] h k = refl
gone_yes (x ∷ b) h zero = eqb-true x 0 (both_true (x =? 0) (list_all (λ left. left =? 0) b) h).0
gone_yes (x ∷ b) h (suc k) = gone_yes b (both_true (x =? 0) (list_all (λ left. left =? 0) b) h).1 k

pub gone_all : (b : List ℕ) → Gone b → list_all (λ left. left =? 0) b ≡ true
gone_all [] g = refl
gone_all (x ∷ b) g = rw (eq-eqb x 0 (g 0)) (gone_all b (λ k. g (suc k)))

pub gone_zeros : (n : ℕ) → Gone (replicate n 0)
gone_zeros zero k = refl
gone_zeros (suc n) zero = refl
gone_zeros (suc n) (suc k) = gone_zeros n k
