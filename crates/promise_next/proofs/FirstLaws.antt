-- What the search for the first number says: none of those before it will do; it does, unless it is 0 and none will.
use Prim.Native.Nat.{ℕ, zero, suc, ◌+◌, ◌≤◌, ◌<◌}
use mathlib.Core.Path.{◌≡◌, refl, ap, ◌∙◌, fun_ext}
use mathlib.Core.Logic.{◌≢◌}
use mathlib.Core.Bool.{Bool, true, false}
use native.Mathlib.Decide.{ℕ_discrete}
use native.Mathlib.Omega.{arith}
use Rattle.meaning.specs.Plain.{when◌then◌else◌}
use Rattle.meaning.specs.Next.{first_in}

module _ (p : ℕ → Bool) where
  -- x is what the search among the k numbers from d on found
  pub record First (k d x : ℕ) : Type 0 where
    pub none : x ≡ 0 → (j : ℕ) → d ≤ j → j < d + k → p j ≡ false
    pub found : x ≢ 0 → (d ≤ x) × (x < d + k) × (p x ≡ true)
    pub before : (j : ℕ) → d ≤ j → j < x → p j ≡ false

  pub first_in_lem : (k d : ℕ) → 1 ≤ d → First k d (first_in p k d)
  unfolding first_in
  first_in_lem zero d h =
      record {
        none = λ e j l m. absurd (omega arith);
        found = λ e. absurd (e refl);
        before = λ j l m. absurd (omega arith);
      }
  first_in_lem (suc k) d h = go (p d) refl (first_in_lem k (d + 1) (omega arith))
    where
      go : (b : Bool) → p d ≡ b → First k (d + 1) (first_in p k (d + 1)) → First (suc k) d (when b then d else first_in p k (d + 1))
      go true e f =
          record {
            none = λ z j l m. absurd (omega arith);
            found = λ z. (omega arith, omega arith, e);
            before = λ j l m. absurd (omega arith);
          }
      go false e f =
          record {
            none = λ z j l m. here j l (λ q. f.none z j q (omega arith));
            found = λ z. (omega (arith, (f.found z).0), omega (arith, (f.found z).1), (f.found z).2);
            before = λ j l m. here j l (λ q. f.before j q m);
          }
        where
          here : (j : ℕ) → d ≤ j → (d + 1 ≤ j → p j ≡ false) → p j ≡ false
          here j l g = at (ℕ_discrete j d)
            where
              at : Dec (j ≡ d) → p j ≡ false
              at (yes q) = ap p q ∙ e
              at (no q) = g (omega arith)

-- the same test, the same number
pub first_same : (p q : ℕ → Bool) (k d : ℕ) → ((j : ℕ) → p j ≡ q j) → first_in p k d ≡ first_in q k d
first_same p q k d e = ap (λ (f : ℕ → Bool). first_in f k d) (fun_ext e)
