-- Words told to be 0 by one test: the bits of several, taken together, are none exactly when each is 0.
use Prim.Native.Nat.{ℕ}
use mathlib.Core.Path.{◌≡◌, sym, ◌∙◌}
use mathlib.Core.Logic.{◌≢◌}
use mathlib.Core.Bool.{true, false, ◌&&◌}
use native.Mathlib.Omega.{arith}
use native.Mathlib.Decide.{ℕ_discrete}
use borrow.Author.Tests.{eq-eqb, ne_eqb, eqb-true, le-leb}
use lib.Bits.{bit_or, or_add_and, and_le_l, and_le_r}
use Rattle.meaning.specs.Plain.{◌=?◌}
use Rattle.meaning.specs.Bucket.{is_none}
use Rattle.meaning.specs.Words.{Connection, second_obeys, second_in_range}
use Rattle.leaf_bucket.proofs.Rules.{both}
use Rattle.mem_words.specs.Connections.{has_none}

or_none : (a b : ℕ) → (bit_or a b =? 0) ≡ (a =? 0 && b =? 0)
or_none a b = go (ℕ_discrete a 0) (ℕ_discrete b 0)
  where
    go : Dec (a ≡ 0) → Dec (b ≡ 0) → (bit_or a b =? 0) ≡ (a =? 0 && b =? 0)
    go (yes p) (yes q) = rw (p, q)
    go (yes p) (no q) =
        simp (
          ne_eqb (bit_or a b) 0 (λ e. q (omega (arith, or_add_and a b, and_le_l a b))),
          ne_eqb b 0 q,
          eq-eqb a 0 p,
        )
    go (no p) d = simp (ne_eqb (bit_or a b) 0 (λ e. p (omega (arith, or_add_and a b, and_le_r a b))), ne_eqb a 0 p)

-- no second bucket: told by its m, F and C, and then by its S and the flag
module _ (conn : Connection) where
  abbrev rates : ℕ
  rates = bit_or (bit_or conn.second.m conn.second.F) conn.second.C

  three : (rates =? 0) ≡ (conn.second.m =? 0 && conn.second.F =? 0 && conn.second.C =? 0)
  three = or_none (bit_or conn.second.m conn.second.F) conn.second.C ∙ rw (or_none conn.second.m conn.second.F)

  pub some_rate : rates ≢ 0 → false ≡ has_none conn
  unfolding has_none
  some_rate ne = rw (sym three ∙ ne_eqb rates 0 ne)

  pub no_rate : rates ≡ 0 → (bit_or conn.second.S conn.tag =? 0) ≡ has_none conn
  unfolding has_none
  no_rate e = rw (sym three ∙ eq-eqb rates 0 e) (or_none conn.second.S conn.tag)

-- what is known of a connection without a second bucket
pub record None (conn : Connection) : Type 0 where
  pub m_is : conn.second.m ≡ 0
  pub F_is : conn.second.F ≡ 0
  pub C_is : conn.second.C ≡ 0
  pub S_is : conn.second.S ≡ 0
  pub tag_is : conn.tag ≡ 0

pub none_facts : (conn : Connection) → has_none conn ≡ true → None conn
unfolding has_none
none_facts conn e =
    let b = conn.second in
    let e4 = both (b.m =? 0 && b.F =? 0 && b.C =? 0 && b.S =? 0) (conn.tag =? 0) e in
    let e3 = both (b.m =? 0 && b.F =? 0 && b.C =? 0) (b.S =? 0) e4.0 in
    let e2 = both (b.m =? 0 && b.F =? 0) (b.C =? 0) e3.0 in
    let e1 = both (b.m =? 0) (b.F =? 0) e2.0 in
    record {
      m_is = eqb-true _ _ e1.0;
      F_is = eqb-true _ _ e1.1;
      C_is = eqb-true _ _ e2.1;
      S_is = eqb-true _ _ e3.1;
      tag_is = eqb-true _ _ e4.1;
    }

pub none_fits : (conn : Connection) → None conn → second_in_range conn.second conn.tag ≡ true
unfolding second_in_range second_obeys is_none
none_fits conn n =
    simp (
      eq-eqb _ _ n.m_is,
      eq-eqb _ _ n.F_is,
      eq-eqb _ _ n.C_is,
      eq-eqb _ _ n.tag_is,
      le-leb conn.second.S conn.second.C (omega (arith, n.S_is)),
    )
