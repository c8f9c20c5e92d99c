-- The limits of a second bucket by its F: with F 0 there is none, and the other numbers are 0 too; else each has its own limit.
use Rattle.std.proofs.Common.{◌≡◌, ◌∙◌, ◌⊎◌, inl, inr, ℕ, ◌<◌, ◌≤◌, Bool, true, false, ◌&&◌, ◌||◌, ◌≢◌, refl, sym, arith, eq-eqb, ne_eqb, le-leb}
use borrow.Author.Tests.{lt-leb}
use Rattle.meaning.specs.Plain.{◌≤?◌, ◌=?◌}
use Rattle.meaning.specs.Numbers.{most_m, most_f, most_second_c}
use Rattle.meaning.specs.Bucket.{bucket_of, is_none, obeys_second}
use Rattle.meaning.specs.Words.{second_obeys}

and_yes : (a : Bool) → a && true ≡ a
and_yes true = refl
and_yes false = refl

and_no : (a : Bool) → a && false ≡ false
and_no true = refl
and_no false = refl

or_no : (a : Bool) → a || false ≡ a
or_no true = refl
or_no false = refl

module _ (m F C tag : ℕ) where
  pub second_none : F ≡ 0 → second_obeys (bucket_of m F C 0) tag ≡ (m =? 0 && C =? 0 && tag =? 0)
  unfolding second_obeys is_none obeys_second
  second_none e = simp (eq-eqb F 0 e, lt-leb 1 F (omega (arith, e)), and_yes, and_no, or_no)

  pub second_some : F ≢ 0
      → second_obeys (bucket_of m F C 0) tag ≡ (m ≤? most_m && F ≤? most_f && F ≤? C && C ≤? most_second_c && tag ≤? 1)
  unfolding second_obeys is_none obeys_second
  second_some ne = simp (ne_eqb F 0 ne, le-leb 1 F (omega (arith, ne)), and_yes, and_no)

  -- the tests as they are made, with v for those that come before the flag's
  pub none_last : F ≡ 0 → m ≡ 0 → C ≡ 0 → (tag =? 0) ≡ second_obeys (bucket_of m F C 0) tag
  none_last e p q = sym (second_none e ∙ simp (eq-eqb m 0 p, eq-eqb C 0 q))

  pub none_stop : (v : Bool) → F ≡ 0 → v ≡ false → (m ≡ 0) × (C ≢ 0) ⊎ (m ≢ 0) → v ≡ second_obeys (bucket_of m F C 0) tag
  none_stop v e f n = f ∙ sym (second_none e ∙ rw (no n) refl)
    where
      no : (m ≡ 0) × (C ≢ 0) ⊎ (m ≢ 0) → (m =? 0 && C =? 0) ≡ false
      no (inl p) = rw (eq-eqb m 0 p.0, ne_eqb C 0 p.1) refl
      no (inr p) = rw (ne_eqb m 0 p) refl

  pub some_last : 1 ≤ F → F ≤ most_f → m ≤ most_m → F ≤ C → C ≤ most_second_c
      → (tag ≤? 1) ≡ second_obeys (bucket_of m F C 0) tag
  some_last l h p q r =
      sym (second_some (λ e. omega (arith, e)) ∙ simp (le-leb F most_f h, le-leb m most_m p, le-leb F C q, le-leb C most_second_c r))

  pub some_stop : (v : Bool) → 1 ≤ F → F ≤ most_f → v ≡ false
      → (m ≤ most_m) × (F ≤ C) × (most_second_c < C) ⊎ (m ≤ most_m) × (C < F) ⊎ (most_m < m)
      → v ≡ second_obeys (bucket_of m F C 0) tag
  some_stop v l h f n = f ∙ sym (second_some (λ e. omega (arith, e)) ∙ rw (le-leb F most_f h, and_yes, no n) refl)
    where
      no : (m ≤ most_m) × (F ≤ C) × (most_second_c < C) ⊎ (m ≤ most_m) × (C < F) ⊎ (most_m < m)
          → (m ≤? most_m && F ≤? C && C ≤? most_second_c) ≡ false
      no (inl p) = rw (le-leb m most_m p.0, le-leb F C p.1, lt-leb C most_second_c p.2) refl
      no (inr (inl p)) = rw (le-leb m most_m p.0, lt-leb F C p.1) refl
      no (inr (inr p)) = rw (lt-leb m most_m p) refl

  pub too_many : most_f < F → false ≡ second_obeys (bucket_of m F C 0) tag
  too_many h = sym (second_some (λ e. omega (arith, e)) ∙ simp (lt-leb F most_f h, and_no))
