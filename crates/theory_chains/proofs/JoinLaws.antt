-- Lists of spaces joined: a cell at the head of an entry, an entry behind the Output List; and that a list which shares no
-- space with them is kept.
use Prim.Native.Nat.{ℕ, ◌+◌, ◌≤◌}
use mathlib.Core.Path.{◌≡◌, refl, sym, ap, ◌∙◌, subst}
use mathlib.Core.Bool.{Bool, true, false}
use mathlib.Core.List.{List, [], ◌∷◌, ◌++◌}
use native.Mathlib.Omega.{arith}
use borrow.Author.Tests.{eq-eqb}
use lib.ListN.{length, get_or, set, length-set}
use lib.Seq.{get_or-set_same}
use Rattle.meaning.specs.Numbers.{empty}
use Rattle.meaning.specs.State.{Ends}
use Rattle.meaning.specs.Lists.{Grown, is_empty, join_head, join_tail}
use Rattle.theory_chains.specs.Strung.{inside, cnt, Follow, last_of, Strung}
use Rattle.theory_chains.proofs.CountLaws.{is_same, inside_le, inside_lt}
use Rattle.theory_chains.proofs.StrungLaws.{off_zero, last_in, off_last, follow_set, strung_set, Within, marked, bare}

-- what the two joins do, by their one test
pub head_bare : (l : List ℕ) (e : Ends) (x : ℕ) → is_empty e ≡ true
    → join_head l e x ≡ record { ends = record { head = x; tail = x }; links = l }
unfolding join_head
head_bare l e x h = rw h

pub head_marked : (l : List ℕ) (e : Ends) (x : ℕ) → is_empty e ≡ false
    → join_head l e x ≡ record { ends = record { head = x; tail = e.tail }; links = set l x e.head }
unfolding join_head
head_marked l e x h = rw h

pub tail_bare : (l : List ℕ) (e more : Ends) → is_empty e ≡ true → join_tail l e more ≡ record { ends = more; links = l }
unfolding join_tail
tail_bare l e more h = rw h

pub tail_marked : (l : List ℕ) (e more : Ends) → is_empty e ≡ false
    → join_tail l e more
    ≡ record { ends = record { head = e.head; tail = more.tail }; links = set l e.tail more.head }
unfolding join_tail
tail_marked l e more h = rw h

module _ {C : Type 0} (sp : C → ℕ) where
  follow_join : (l : List ℕ) (x : C) (xs : List C) (y : C) (ys : List C) → Follow sp l x xs
      → get_or l (sp (last_of sp x xs)) 0 ≡ sp y → Follow sp l y ys → Follow sp l x (xs ++ y ∷ ys)
  follow_join l x [] y ys c e d = (e, d)
  follow_join l x (z ∷ zs) y ys c e d = (c.0, follow_join l z zs y ys c.1 e d)

  last_join : (x : C) (xs : List C) (y : C) (ys : List C) → last_of sp x (xs ++ y ∷ ys) ≡ last_of sp y ys
  last_join x [] y ys = refl
  last_join x (z ∷ zs) y ys = last_join z zs y ys

  module _ (l : List ℕ) (N : ℕ) (long : length l ≡ N) (low : N ≤ empty) where
    -- a cell joins at the head
    pub join_head_lem : (e : Ends) (c : C) (q : List C) → Within sp N low (c ∷ q) → Strung sp l e q
        → Strung sp (join_head l e (sp c)).links (join_head l e (sp c)).ends (c ∷ q)
    join_head_lem e c [] p s = rw (head_bare l e (sp c) (bare sp N low l e s)) (refl, refl, tt)
    join_head_lem e c (x ∷ xs) p s =
        let P : Grown → Type 0 = λ m. Strung sp m.links m.ends (c ∷ (x ∷ xs)) in
        subst P (sym (head_marked l e (sp c) (marked sp N low l e x xs (λ k. omega (arith, p k)) s))) (
          refl,
          s.1,
          (
            get_or-set_same l (sp c) e.head 0 (omega (arith, inside_lt (sp c) N (omega (arith, p (sp c), is_same (sp c)))))
                ∙ s.0,
            follow_set sp l (sp c) e.head x xs
                (off_zero sp (sp c) x xs (omega (arith, p (sp c), is_same (sp c), inside_le (sp c) N))) s.2,
          ),
        )

    -- a list that is not empty joins behind another
    pub join_tail_lem : (e more : Ends) (q : List C) (y : C) (ys : List C)
        → ((k : ℕ) → cnt sp k q + cnt sp k (y ∷ ys) ≤ inside k N)
        → Strung sp l e q → Strung sp l more (y ∷ ys) → Strung sp (join_tail l e more).links (join_tail l e more).ends
        (q ++ y ∷ ys)
    join_tail_lem e more [] y ys p c d = rw (tail_bare l e more (bare sp N low l e c)) d
    join_tail_lem e more (x ∷ xs) y ys p c d =
        let P : Grown → Type 0 = λ m. Strung sp m.links m.ends ((x ∷ xs) ++ y ∷ ys) in
        subst P (sym (tail_marked l e more (marked sp N low l e x xs (λ k. omega (arith, p k)) c))) (
          c.0,
          d.1 ∙ ap sp (sym (last_join x xs y ys)),
          rw (c.1, d.0)
              (follow_join (set l z (sp y)) x xs y ys
              (follow_set sp l z (sp y) x xs (off_last sp x xs (omega (arith, p z, inside_le z N))) c.2)
              (get_or-set_same l z (sp y) 0 (omega (arith, inside_lt z N (omega (arith, p z, last_in sp x xs)))))
              (follow_set sp l z (sp y) y ys (off_zero sp z y ys (omega (arith, p z, last_in sp x xs, inside_le z N)))
              d.2)),
        )
      where
        z : ℕ
        z = sp (last_of sp x xs)

-- a list beside the one that grows, whose things may be of another type
module _ {C D : Type 0} (sp : C → ℕ) (rp : D → ℕ) (l : List ℕ) where
  pub beside_head : (e f : Ends) (x : ℕ) (q : List D) → cnt rp x q ≡ 0 → Strung rp l f q
      → Strung rp (join_head l e x).links f q
  beside_head e f x q z s = go (is_empty e) refl
    where
      go : (b : Bool) → is_empty e ≡ b → Strung rp (join_head l e x).links f q
      go true h = rw (head_bare l e x h) s
      go false h = rw (head_marked l e x h) (strung_set rp l x e.head f q z s)

  pub beside_tail : (e more f : Ends) (o : List C) (q : List D) → ((k : ℕ) → cnt sp k o + cnt rp k q ≤ 1)
      → Strung sp l e o → Strung rp l f q → Strung rp (join_tail l e more).links f q
  beside_tail e more f [] q p c s = rw (tail_bare l e more (eq-eqb e.head empty c.0)) s
  beside_tail e more f (x ∷ xs) q p c s = go (is_empty e) refl
    where
      go : (b : Bool) → is_empty e ≡ b → Strung rp (join_tail l e more).links f q
      go true h = rw (tail_bare l e more h) s
      go false h =
          rw (tail_marked l e more h)
          (strung_set rp l e.tail more.head f q
          (omega (arith, p e.tail, ap (λ (k : ℕ). cnt sp k (x ∷ xs)) c.1, last_in sp x xs)) s)

pub head_length : (l : List ℕ) (e : Ends) (x : ℕ) → length (join_head l e x).links ≡ length l
head_length l e x = go (is_empty e) refl
  where
    go : (b : Bool) → is_empty e ≡ b → length (join_head l e x).links ≡ length l
    go true h = rw (head_bare l e x h)
    go false h = rw (head_marked l e x h) (length-set l x e.head)

pub tail_length : (l : List ℕ) (e more : Ends) → length (join_tail l e more).links ≡ length l
tail_length l e more = go (is_empty e) refl
  where
    go : (b : Bool) → is_empty e ≡ b → length (join_tail l e more).links ≡ length l
    go true h = rw (tail_bare l e more h)
    go false h = rw (tail_marked l e more h) (length-set l e.tail more.head)
