-- The ranges of N and V as plain facts, where refusal 1 is not given.
use Prim.Native.Nat.{ℕ, ◌≤◌}
use mathlib.Core.Path.{◌≡◌, refl}
use mathlib.Core.Bool.{Bool, true, false, ◌&&◌}
use native.Mathlib.Omega.{arith}
use borrow.Author.Tests.{leb-true}
use Rattle.meaning.specs.Plain.{◌≤?◌}
use Rattle.meaning.specs.Numbers.{most_n, least_v, most_v, ranges_hold}

-- each of four tests that hold together
false_true : false ≡ true → ⊥
false_true h = let z : ◌≡◌ {A = ℕ} 0 1 = cc in omega arith

pub four_hold_lem : (a b d e : Bool) → (a && b && d && e) ≡ true → (a ≡ true) × (b ≡ true) × (d ≡ true) × (e ≡ true)
four_hold_lem true true true e h = (refl, refl, refl, h)
four_hold_lem true true false e h = absurd (false_true h)
four_hold_lem true false d e h = absurd (false_true h)
four_hold_lem false b d e h = absurd (false_true h)

pub record InRange (N z : ℕ) : Type 0 where
  pub N_least : 1 ≤ N
  pub N_most : N ≤ most_n
  pub V_least : least_v ≤ z
  pub V_most : z ≤ most_v

pub ranges_facts : (N z : ℕ) → ranges_hold N z ≡ true → InRange N z
unfolding ranges_hold
ranges_facts N z h =
    let t = four_hold_lem (1 ≤? N) (N ≤? most_n) (least_v ≤? z) (z ≤? most_v) h in
    record {
      N_least = leb-true _ _ t.0;
      N_most = leb-true _ _ t.1;
      V_least = leb-true _ _ t.2;
      V_most = leb-true _ _ t.3;
    }
