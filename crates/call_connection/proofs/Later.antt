-- The refusals that are open's or close's own come after the shared ones, and in their order; then the words change.
use Prim.Native.Nat.{ℕ, ◌*◌}
use mathlib.Core.Path.{◌≡◌, refl, sym, ◌∙◌, ap}
use mathlib.Core.Bool.{Bool, true, false, not, ◌&&◌}
use mathlib.Core.List.{List}
use native.Mathlib.Omega.{arith}
use borrow.Author.Tests.{eq-eqb, ne_eqb}
use lib.ListN.{get_or}
use Rattle.meaning.specs.declared.Record.{Record}
use Rattle.meaning.specs.Plain.{when◌then◌else◌, ◌=?◌}
use Rattle.meaning.specs.Header.{Name, number_in}
use Rattle.meaning.specs.Bucket.{bucket_of, obeys_rules}
use Rattle.meaning.specs.Words.{Connection, Second, connection_at, write_connection, second_obeys, opened_connection, closed_connection, debt}
use Rattle.meaning.specs.Calls.{Called, called_of, shared_refusal, open_call, close_call}
use Rattle.mem_words.proofs.Fits.{opened_at}
use Rattle.leaf_refusal.specs.Order.{refuse_of, first_of}
use Rattle.call_connection.specs.NotYet.{not_yet}
use Rattle.call_connection.specs.Own.{own_refusal}

-- ---- the shared ones
module _ (r : Record) (words : List ℕ) (who : ℕ) (name : Name) (given : shared_refusal r words who name ≡ 0 → ⊥) where
  pub open_shared : (m F C : ℕ) (x : Second) → called_of (shared_refusal r words who name) words ≡ open_call r words who name m F C x
  unfolding open_call
  open_shared m F C x = simp (ne_eqb (shared_refusal r words who name) 0 given)

  pub close_shared : called_of (shared_refusal r words who name) words ≡ close_call r words who name
  unfolding close_call
  close_shared = simp (ne_eqb (shared_refusal r words who name) 0 given)

-- ---- open
-- its own refusals, by the open word, which stands first among the words of the connection
pub own_at : (N : ℕ) (words : List ℕ) (k c m F C : ℕ) (x : Second) → k ≡ c
    → own_refusal N (get_or words (12 * k) 0) m F C x ≡ own_refusal N (connection_at words c).opened m F C x
own_at N words k c m F C x e =
    ap (λ (j : ℕ). own_refusal N (get_or words (12 * j) 0) m F C x) e
    ∙ ap (λ (o : ℕ). own_refusal N o m F C x) (sym (opened_at words c))

-- c is the connection's number
module _ (r : Record) (words : List ℕ) (who : ℕ) (name : Name) (c : ℕ) (is : c ≡ number_in r.v name) (m F C : ℕ) (x : Second) where
  -- "already open"
  abbrev already : Bool
  already = (connection_at words c).opened =? 1

  -- "m, F or C against the rules above"
  abbrev against : Bool
  against = not (obeys_rules r.n (bucket_of m F C 0))

  -- "second bucket against its limits, after 6"
  abbrev beyond : Bool
  beyond = not (second_obeys (bucket_of x.m x.F x.C 0) x.tag)

  abbrev own : ℕ
  own = own_refusal r.n (connection_at words c).opened m F C x

  -- "Each leaves everything as it came."
  abbrev told : Bool → Bool → Bool → Called
  told a b d =
      when a then called_of 5 words else when b then called_of 6 words else when d then called_of 11 words
      else called_of 0 (write_connection words c (opened_connection r.t (bucket_of m F C 0) x))

  three_given : (a b d : Bool) → (first_of (first_of (refuse_of 5 a) (refuse_of 6 b)) (refuse_of 11 d) ≡ 0 → ⊥)
      → called_of (first_of (first_of (refuse_of 5 a) (refuse_of 6 b)) (refuse_of 11 d)) words ≡ told a b d
  three_given true b d h = go b
    where
      go : (b : Bool) → called_of (first_of (first_of 5 (refuse_of 6 b)) (refuse_of 11 d)) words ≡ called_of 5 words
      go true = refl
      go false = refl
  three_given false true d h = refl
  three_given false false true h = refl
  three_given false false false h = absurd (h refl)

  three_none : (a b d : Bool) → first_of (first_of (refuse_of 5 a) (refuse_of 6 b)) (refuse_of 11 d) ≡ 0
      → called_of 0 (write_connection words c (opened_connection r.t (bucket_of m F C 0) x)) ≡ told a b d
  three_none true true d h = absurd (omega arith)
  three_none true false d h = absurd (omega arith)
  three_none false true d h = absurd (omega arith)
  three_none false false true h = absurd (omega arith)
  three_none false false false h = refl

  pub open_refused : shared_refusal r words who name ≡ 0
      → (own ≡ 0 → ⊥)
      → called_of own words ≡ open_call r words who name m F C x
  unfolding open_call
  open_refused e h = rw (eq-eqb (shared_refusal r words who name) 0 e, ← is) (three_given already against beyond h)

  pub open_done : shared_refusal r words who name ≡ 0 → own ≡ 0
      → called_of 0 (write_connection words c (opened_connection r.t (bucket_of m F C 0) x)) ≡ open_call r words who name m F C x
  unfolding open_call
  open_done e h = rw (eq-eqb (shared_refusal r words who name) 0 e, ← is) (three_none already against beyond h)

-- ---- close
-- the test of the open word, and the word where it stands
tested : (x : ℕ) → not (x =? 0) ≡ true → x ≡ 0 → ⊥
tested x h z = grind (arith, h, eq-eqb x 0 z)

untested : (x : ℕ) → not (x =? 0) ≡ false → x ≡ 0
untested x h = grind (arith, h, ne_eqb x 0)

module _ (words : List ℕ) (k c : ℕ) (is : k ≡ c) where
  pub open_at : not (get_or words (12 * k) 0 =? 0) ≡ true → (connection_at words c).opened ≡ 0 → ⊥
  open_at h z =
      tested (get_or words (12 * k) 0) h (ap (λ (j : ℕ). get_or words (12 * j) 0) is ∙ (sym (opened_at words c) ∙ z))

  pub closed_at : not (get_or words (12 * k) 0 =? 0) ≡ false → (connection_at words c).opened ≡ 0
  closed_at h =
      opened_at words c ∙ (ap (λ (j : ℕ). get_or words (12 * j) 0) (sym is) ∙ untested (get_or words (12 * k) 0) h)

-- 8 is given exactly where one of its two halves is
halves_given : (a b : Bool) → (first_of (refuse_of 8 (not a)) (refuse_of 8 (not b)) ≡ 0 → ⊥)
    → (first_of (refuse_of 8 (not a)) (refuse_of 8 (not b)) ≡ 8) × (not (a && b) ≡ true)
halves_given true true h = absurd (h refl)
halves_given true false h = (refl, refl)
halves_given false true h = (refl, refl)
halves_given false false h = (refl, refl)

halves_none : (a b : Bool) → first_of (refuse_of 8 (not a)) (refuse_of 8 (not b)) ≡ 0 → not (a && b) ≡ false
halves_none true true h = refl
halves_none true false h = absurd (omega arith)
halves_none false true h = absurd (omega arith)
halves_none false false h = absurd (omega arith)

module _ (r : Record) (words : List ℕ) (who : ℕ) (name : Name) (c : ℕ) (is : c ≡ number_in r.v name) where
  abbrev conn : Connection
  conn = connection_at words c

  pub close_closed : shared_refusal r words who name ≡ 0 → conn.opened ≡ 0 → called_of 7 words ≡ close_call r words who name
  unfolding close_call
  close_closed e o = rw (eq-eqb (shared_refusal r words who name) 0 e, ← is, eq-eqb conn.opened 0 o)

  pub close_not_yet : shared_refusal r words who name ≡ 0 → (conn.opened ≡ 0 → ⊥) → (not_yet r.t conn ≡ 0 → ⊥)
      → called_of (not_yet r.t conn) words ≡ close_call r words who name
  unfolding close_call
  close_not_yet e o h =
      let g = halves_given (conn.waiting =? 0) (debt r.t conn =? 0) h in
      rw (eq-eqb (shared_refusal r words who name) 0 e, ← is, ne_eqb conn.opened 0 o, g.0, g.1)

  pub close_done : shared_refusal r words who name ≡ 0 → (conn.opened ≡ 0 → ⊥) → not_yet r.t conn ≡ 0
      → called_of 0 (write_connection words c closed_connection) ≡ close_call r words who name
  unfolding close_call
  close_done e o h =
      rw (
        eq-eqb (shared_refusal r words who name) 0 e,
        ← is,
        ne_eqb conn.opened 0 o,
        halves_none (conn.waiting =? 0) (debt r.t conn =? 0) h,
      )
