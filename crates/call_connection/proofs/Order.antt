-- The refusals that open and close share, in document 01's order; and once none of them is given: the connection's words are lent, and an open one's m is in its range.
use Prim.Native.Nat.{ℕ, ◌≤◌}
use mathlib.Core.Path.{◌≡◌, refl}
use mathlib.Core.Bool.{Bool, true, false, not, ◌&&◌}
use mathlib.Core.List.{List}
use native.Mathlib.Omega.{arith}
use borrow.Author.Tests.{eqb-true, ne_eqb}
use lib.ListN.{length}
use Rattle.meaning.specs.declared.Record.{Record}
use Rattle.meaning.specs.Plain.{when◌then◌else◌, ◌≤?◌}
use Rattle.meaning.specs.Numbers.{ranges_hold, splits_hold, most_v, words_in}
use Rattle.meaning.specs.State.{words_length, HasConnection}
use Rattle.meaning.specs.Header.{Name, named, number_in}
use Rattle.meaning.specs.Operators.{owns}
use Rattle.meaning.specs.Words.{connection_at, open_word_fits, bucket_fits, second_in_range, buckets_fit, connection_fits}
use Rattle.meaning.specs.Calls.{shared_refusal}
use Rattle.meaning.proofs.NamesLaws.{number_low}
use Rattle.leaf_bucket.proofs.Rules.{both}
use Rattle.leaf_refusal.proofs.Ranges.{ranges_facts}
use Rattle.mem_words.proofs.Fits.{bucket_facts}
use Rattle.leaf_refusal.specs.Order.{refuse_of, first_of}

-- refusals 1, twice, 2, 4 and 16
abbrev early : Bool → Bool → Bool → Bool → Bool → ℕ
early a s b d o =
    first_of (first_of (first_of (first_of (refuse_of 1 (not a)) (refuse_of 1 (not s))) (refuse_of 2 (not b))) (refuse_of 4 (not d)))
    (refuse_of 16 (not o))

-- "1, 2, 4, 16, 3"
abbrev in_order : Bool → Bool → Bool → Bool → Bool → Bool → ℕ
in_order a s b d o e =
    when not a then 1 else when not s then 1 else when not b then 2 else when not d then 4 else when not o then 16 else when not e then 3 else 0

order_early : (a s b d o e : Bool) → (early a s b d o ≡ 0 → ⊥) → early a s b d o ≡ in_order a s b d o e
order_early true true true true true e h = absurd (h refl)
order_early true true true true false e h = refl
order_early true true true false o e h = refl
order_early true true false d o e h = refl
order_early true false b d o e h = refl
order_early false s b d o e h = refl

order_late : (a s b d o e : Bool) → early a s b d o ≡ 0 → refuse_of 3 (not e) ≡ in_order a s b d o e
order_late true true true true true e h = refl
order_late true true true true false e h = absurd (omega arith)
order_late true true true false o e h = absurd (omega arith)
order_late true true false d o e h = absurd (omega arith)
order_late true false b d o e h = absurd (omega arith)
order_late false s b d o e h = absurd (omega arith)

shared_zero : (a s b d o e : Bool) → in_order a s b d o e ≡ 0 → (a ≡ true) × (b ≡ true) × (d ≡ true) × (e ≡ true)
shared_zero true true true true true true h = (refl, refl, refl, refl)
shared_zero true true true true true false h = absurd (omega arith)
shared_zero true true true true false e h = absurd (omega arith)
shared_zero true true true false o e h = absurd (omega arith)
shared_zero true true false d o e h = absurd (omega arith)
shared_zero true false b d o e h = absurd (omega arith)
shared_zero false s b d o e h = absurd (omega arith)

module _ (r : Record) (words : List ℕ) (who : ℕ) (name : Name) where
  -- the connection's number
  abbrev pub numbered : ℕ
  numbered = number_in r.v name

  -- what refusals 1, 2, 4, 16 and 3 test
  abbrev in_range : Bool
  in_range = ranges_hold r.n r.v

  abbrev split : Bool
  split = splits_hold r.v r.splitvci r.splitpath

  abbrev is_long : Bool
  is_long = words_length r.v words

  abbrev is_named : Bool
  is_named = named r.v name

  abbrev is_owned : Bool
  is_owned = owns r who name

  abbrev fits : Bool
  fits = connection_fits r.n (connection_at words numbered)

  -- "1, 2, 4, 3", and 16 after 4: the first of those before 3 that is given is the refusal, and 3 where none of them is
  abbrev pub early_refusal : ℕ
  early_refusal = early in_range split is_long is_named is_owned

  pub shared_early : (early_refusal ≡ 0 → ⊥) → early_refusal ≡ shared_refusal r words who name
  unfolding shared_refusal
  shared_early h = order_early in_range split is_long is_named is_owned fits h

  pub shared_late : early_refusal ≡ 0 → refuse_of 3 (not fits) ≡ shared_refusal r words who name
  unfolding shared_refusal
  shared_late h = order_late in_range split is_long is_named is_owned fits h

  -- V in its range and such a connection: what its number needs
  abbrev Named : Type 0
  Named = (r.v ≤ most_v) × (named r.v name ≡ true)

  pub shared_named : shared_refusal r words who name ≡ 0 → Named
  unfolding shared_refusal
  shared_named h =
      let p = shared_zero in_range split is_long is_named is_owned fits h in ((ranges_facts r.n r.v p.0).V_most, p.2)

  -- words of the right length, and a number below V + 256
  pub lent : length words ≡ words_in r.v → is_named ≡ true → HasConnection numbered words
  lent p q = omega (arith, p, number_low r.v name q)

  pub shared_lent : shared_refusal r words who name ≡ 0 → HasConnection numbered words
  unfolding shared_refusal words_length
  shared_lent h =
      let p = shared_zero in_range split is_long is_named is_owned fits h in lent (eqb-true (length words) (words_in r.v) p.1) p.2

  m_low : shared_refusal r words who name ≡ 0 → ((connection_at words numbered).opened ≡ 0 → ⊥)
      → (connection_at words numbered).bucket.m ≤ 15
  unfolding shared_refusal connection_fits buckets_fit
  m_low h o =
      let conn = connection_at words numbered in
      let e : connection_fits r.n conn ≡ true = (shared_zero in_range split is_long is_named is_owned fits h).3 in
      let f : open_word_fits conn && buckets_fit r.n conn && conn.waiting ≤? r.n ≡ true = rw (ne_eqb conn.opened 0 o) at e in
      let g = (both (open_word_fits conn && buckets_fit r.n conn) (conn.waiting ≤? r.n) f).0 in
      let k = (both (open_word_fits conn) (buckets_fit r.n conn) g).1 in
      (bucket_facts r.n conn.bucket (both (bucket_fits r.n conn.bucket) (second_in_range conn.second conn.tag) k).0).rules.m_low

  -- an open connection's m is in its range; c is its number
  pub shared_m : (c : ℕ) → c ≡ numbered → shared_refusal r words who name ≡ 0 → ((connection_at words c).opened ≡ 0 → ⊥)
      → (connection_at words c).bucket.m ≤ 15
  shared_m c is h o = rw is (m_low h (λ e. o (rw is e)))
