-- The ranges of a connection's words for refusal 3, as they are tested one after the other, and as plain facts once they fit.
use Prim.Native.Nat.{ℕ, ◌≤◌, ◌<◌}
use mathlib.Core.Path.{◌≡◌, refl, sym, ◌∙◌}
use mathlib.Core.Bool.{Bool, true, false, ◌&&◌}
use native.Mathlib.Omega.{arith}
use native.Mathlib.Decide.{ℕ_discrete}
use borrow.Author.Tests.{lt-leb, eq-eqb, ne_eqb, leb-true, eqb-true}
use Rattle.meaning.specs.Plain.{◌≤?◌, ◌=?◌}
use Rattle.meaning.specs.Numbers.{most_m, most_f, most_second_c}
use Rattle.meaning.specs.Bucket.{Bucket, bucket_of, obeys_rules, obeys_second, is_none}
use Rattle.meaning.specs.Words.{Connection, bucket_fits, second_obeys, second_in_range, buckets_fit, open_word_fits, connection_fits}
pub use Rattle.meaning.proofs.WordsLaws.{opened_at}
use Rattle.leaf_bucket.proofs.Rules.{Obeys, rules_any_S, rules_facts, both}
use Rattle.leaf_bucket.proofs.SecondRules.{second_none, second_some}

-- ---- a bucket, of which the rules on m, F and C are tested first
pub bucket_breaks : (N : ℕ) (b : Bucket) → obeys_rules N (bucket_of b.m b.F b.C 0) ≡ false → false ≡ bucket_fits N b
unfolding bucket_fits
bucket_breaks N b e = rw (sym (rules_any_S N b 0) ∙ e)

pub bucket_obeys : (N : ℕ) (b : Bucket)
    → obeys_rules N (bucket_of b.m b.F b.C 0) ≡ true
    → (b.S ≤? b.C) ≡ bucket_fits N b
unfolding bucket_fits
bucket_obeys N b e = rw (sym (rules_any_S N b 0) ∙ e)

-- what a fitting bucket holds
pub record Fitting (N m F C S : ℕ) : Type 0 where
  pub rules : Obeys N m F C
  pub S_most : S ≤ C

pub bucket_facts : (N : ℕ) (b : Bucket) → bucket_fits N b ≡ true → Fitting N b.m b.F b.C b.S
unfolding bucket_fits
bucket_facts N b e =
    let p = both (obeys_rules N b) (b.S ≤? b.C) e in
    record { rules = rules_facts N b p.0; S_most = leb-true _ _ p.1 }

-- ---- a second bucket, of which the limits of m, F, C and flag are tested first
pub second_breaks : (b : Bucket) (tag : ℕ) → second_obeys (bucket_of b.m b.F b.C 0) tag ≡ false → false ≡ second_in_range b tag
unfolding second_in_range second_obeys is_none obeys_second
second_breaks b tag e = rw e

pub second_obeys_lem : (b : Bucket) (tag : ℕ) → second_obeys (bucket_of b.m b.F b.C 0) tag ≡ true
    → (b.S ≤? b.C) ≡ second_in_range b tag
unfolding second_in_range second_obeys is_none obeys_second
second_obeys_lem b tag e = rw e

-- what a fitting second bucket holds, be it none or not
pub record SecondFitting (m F C : ℕ) : Type 0 where
  pub m_low : m ≤ most_m
  pub C_least : F ≤ C
  pub C_most : C ≤ most_second_c

pub second_facts : (b : Bucket) (tag : ℕ) → second_in_range b tag ≡ true → SecondFitting b.m b.F b.C
unfolding second_in_range second_obeys is_none obeys_second
second_facts b tag e = go (ℕ_discrete b.F 0)
  where
    obeys : second_obeys (bucket_of b.m b.F b.C 0) tag ≡ true
    obeys = (both (second_obeys b tag) (b.S ≤? b.C) e).0

    go : Dec (b.F ≡ 0) → SecondFitting b.m b.F b.C
    go (yes z) =
        let e2 = both (b.m =? 0 && b.C =? 0) (tag =? 0) (sym (second_none b.m b.F b.C tag z) ∙ obeys) in
        let e1 = both (b.m =? 0) (b.C =? 0) e2.0 in
        let m0 = eqb-true b.m 0 e1.0 in
        let c0 = eqb-true b.C 0 e1.1 in
        record { m_low = omega (arith, m0); C_least = omega (arith, z); C_most = omega (arith, c0) }
    go (no ne) =
        let F≤C = b.F ≤? b.C in
        let low = b.m ≤? most_m && b.F ≤? most_f in
        let e3 = both (low && F≤C && b.C ≤? most_second_c) (tag ≤? 1) (sym (second_some b.m b.F b.C tag ne) ∙ obeys) in
        let e2 = both (low && F≤C) (b.C ≤? most_second_c) e3.0 in
        let e1 = both low F≤C e2.0 in
        record {
          m_low = leb-true _ _ (both (b.m ≤? most_m) (b.F ≤? most_f) e1.0).0;
          C_least = leb-true _ _ e1.1;
          C_most = leb-true _ _ e2.1;
        }

-- ---- a connection, of which the open word is tested first
pub connection_closed : (N : ℕ) (conn : Connection) → conn.opened ≡ 0 → true ≡ connection_fits N conn
unfolding connection_fits
connection_closed N conn e = simp (eq-eqb _ _ e)

pub connection_open_breaks : (N : ℕ) (conn : Connection) → 1 < conn.opened → false ≡ connection_fits N conn
unfolding connection_fits open_word_fits
connection_open_breaks N conn h = simp (ne_eqb conn.opened 0 (λ e. omega arith), lt-leb _ _ h)

-- v is what the two buckets are judged to be
module _ (N : ℕ) (conn : Connection) (v : Bool) (one : conn.opened ≡ 1) (w : v ≡ (bucket_fits N conn.bucket && second_in_range conn.second conn.tag)) where
  pub connection_last : v ≡ true → (conn.waiting ≤? N) ≡ connection_fits N conn
  unfolding connection_fits open_word_fits buckets_fit
  connection_last t = rw (one, sym w ∙ t) refl

  pub connection_stop : v ≡ false → v ≡ connection_fits N conn
  unfolding connection_fits open_word_fits buckets_fit
  connection_stop f = f ∙ rw (one, sym w ∙ f) refl
