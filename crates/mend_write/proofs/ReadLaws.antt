-- The answers of `read` so far, and that what comes next counts on from the total: each answer is put behind the ones before.
use Prim.Native.Nat.{ℕ, ◌+◌, ◌≤◌, ◌<◌}
use mathlib.Core.Path.{◌≡◌, refl, sym, ap, ◌∙◌}
use mathlib.Core.Bool.{Bool, true, false, ◌&&◌}
use mathlib.Core.List.{List, [], ◌∷◌, ◌++◌, append_assoc}
use borrow.Author.Tests.{lt-ltb, le-leb, ne_eqb}
use native.Mathlib.Omega.{arith}
use Rattle.meaning.specs.Plain.{◌≤?◌}
use Rattle.std.specs.Prelude.{Result, Ok, Err}
use Rattle.mend_write.specs.declared.CountError.{CountError}
use Rattle.mend_write.specs.declared.CountError.TheVariants.{Failed, TooLong}
use Rattle.mend_write.specs.Reads.{chunk, most, Got, failed, octets, fits, counted, Reads}

fits_append : (xs ys : List Got) → fits xs ≡ true → fits ys ≡ true → fits (xs ++ ys) ≡ true
fits_append [] ys p q = q
fits_append (failed ∷ xs) ys p q = fits_append xs ys p q
fits_append (octets n ∷ xs) ys p q = go (n ≤? chunk) p (λ e. fits_append xs ys e q)
  where
    go : (b : Bool) → b && fits xs ≡ true → (fits xs ≡ true → fits (xs ++ ys) ≡ true) → b && fits (xs ++ ys) ≡ true
    go true e f = f e
    go false e f = e

-- so far: whatever comes next, the count goes on from total
pub record Sofar (before total : ℕ) : Type 0 where
  pub gots : List Got
  pub fit : fits gots ≡ true
  pub leads : (more : List Got) → counted before (gots ++ more) ≡ counted total more

pub reads_none : (before : ℕ) → Sofar before before
reads_none before = record { gots = []; fit = refl; leads = λ more. refl }

module _ (before total : ℕ) (s : Sofar before total) where
  -- with these answers at the last
  reads_with : (r : Result ℕ CountError) (more : List Got) → fits more ≡ true → counted total more ≡ r
      → ((t : ℕ) → r ≡ Err (TooLong t) → most ≤ t) → Reads before r
  reads_with r more f e l =
      record { gots = s.gots ++ more; fit = fits_append s.gots more s.fit f; is = sym (s.leads more ∙ e); long = l }

  pub reads_failed : Reads before (Err (Failed total))
  unfolding counted
  reads_failed = reads_with (Err (Failed total)) (failed ∷ []) refl refl (λ t q. cc)

  pub reads_ended : total < most → Reads before (Ok total)
  unfolding counted
  reads_ended low = reads_with (Ok total) (octets 0 ∷ []) refl (rw (lt-ltb total most low) refl) (λ t q. cc)

  pub reads_long : most ≤ total → Reads before (Err (TooLong total))
  unfolding counted
  reads_long h = reads_with (Err (TooLong total)) [] refl refl (λ t q. let e : total ≡ t = cc in omega (arith, h, e))

  pub reads_more : (n : ℕ) → total < most → (n ≡ 0 → ⊥) → n ≤ chunk → Sofar before (total + n)
  unfolding counted
  reads_more n low ne few =
      record {
        gots = s.gots ++ (octets n ∷ []);
        fit = fits_append s.gots (octets n ∷ []) s.fit (ap (λ (b : Bool). b && true) (le-leb n chunk few));
        leads = λ more.
            ap (counted before) (append_assoc s.gots (octets n ∷ []) more) ∙ s.leads (octets n ∷ more)
            ∙ rw (lt-ltb total most low, ne_eqb n 0 ne) refl;
      }
