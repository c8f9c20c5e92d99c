-- Rule 6 as plain facts about m, F and C, both ways, and that it says nothing of S.
use Rattle.std.proofs.Common.{◌≡◌, ◌∙◌, ℕ, ◌-◌, ◌/◌, ◌^◌, ◌<◌, ◌≤◌, Bool, true, false, ◌&&◌, refl, ltb-true, lt-ltb, le-leb, leb-true}
use Rattle.meaning.specs.Plain.{◌≤?◌, ◌<?◌}
use Rattle.meaning.specs.Numbers.{most_m, most_f}
use Rattle.meaning.specs.Bucket.{Bucket, bucket_of, with_s, obeys_rules}

-- the five rules, one a field
pub record Obeys (N m F C : ℕ) : Type 0 where
  pub m_low : m ≤ most_m
  pub F_least : 2 ^ m ≤ F
  pub F_most : F ≤ most_f
  pub C_least : F ≤ C
  pub delay_low : (C - F) / 2 ^ m < N

pub rules_any_S : (N : ℕ) (b : Bucket) (S : ℕ) → obeys_rules N (with_s b S) ≡ obeys_rules N b
unfolding obeys_rules
rules_any_S N b S = refl

-- both of two tests that hold together
pub both : (a b : Bool) → (a && b) ≡ true → (a ≡ true) × (b ≡ true)
both true b e = (refl, e)
both false true e = (e, refl)
both false false e = (e, e)

pub rules_facts : (N : ℕ) (b : Bucket) → obeys_rules N b ≡ true → Obeys N b.m b.F b.C
unfolding obeys_rules
rules_facts N b e =
    let L = 2 ^ b.m in
    let t1 = b.m ≤? most_m in
    let t2 = L ≤? b.F in
    let t3 = b.F ≤? most_f in
    let t4 = b.F ≤? b.C in
    let e5 = both (t1 && t2 && t3 && t4) ((b.C - b.F) / L <? N) e in
    let e4 = both (t1 && t2 && t3) t4 e5.0 in
    let e3 = both (t1 && t2) t3 e4.0 in
    let e2 = both t1 t2 e3.0 in
    record {
      m_low = leb-true _ _ e2.0;
      F_least = leb-true _ _ e2.1;
      F_most = leb-true _ _ e3.1;
      C_least = leb-true _ _ e4.1;
      delay_low = ltb-true _ _ e5.1;
    }

pub facts_rules : (N : ℕ) (b : Bucket) → Obeys N b.m b.F b.C → obeys_rules N b ≡ true
unfolding obeys_rules
facts_rules N b o =
    simp (
      le-leb _ _ o.m_low,
      le-leb _ _ o.F_least,
      le-leb _ _ o.F_most,
      le-leb _ _ o.C_least,
      lt-ltb _ _ o.delay_low,
    )

-- the first four, tested in that order, are v
module _ (N m F C : ℕ) (v : Bool) (w : v ≡ (m ≤? most_m && 2 ^ m ≤? F && F ≤? most_f && F ≤? C)) where
  in_turn : (v && (C - F) / 2 ^ m <? N) ≡ obeys_rules N (bucket_of m F C 0)
  unfolding obeys_rules
  in_turn = rw w refl

  pub rules_last : (n : ℕ) → n ≡ N → v ≡ true → ((C - F) / 2 ^ m <? n) ≡ obeys_rules N (bucket_of m F C 0)
  rules_last n p t = rw p (rw t at in_turn)

  pub rules_stop : v ≡ false → v ≡ obeys_rules N (bucket_of m F C 0)
  rules_stop f = f ∙ (rw f at in_turn)
