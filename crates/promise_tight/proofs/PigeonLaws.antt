-- Counting departures: at most one a slot, so w slots hold at most w; those of two VCs are no more than all.
use Prim.Native.Nat.{ℕ, zero, suc, ◌+◌, ◌≤◌, ◌<◌}
use mathlib.Core.Path.{◌≡◌, ap, ◌∙◌}
use mathlib.Core.Logic.{◌≢◌}
use mathlib.Core.Bool.{Bool, true}
use mathlib.Core.List.{List, [], ◌∷◌}
use native.Mathlib.Decide.{ℕ_discrete}
use native.Mathlib.Omega.{arith}
use lib.ListN.{length, get_or}
use Rattle.meaning.specs.State.{State}
use Rattle.meaning_runs.specs.Run.{Event}
use Rattle.meaning_runs.specs.Seen.{of_connection, departures_in, departures_of, no_departure}
use Rattle.theory_queues.proofs.OrderLaws.{of_connection_yes, of_connection_no}
use Rattle.theory_invariant.specs.Invariant.{Inv}
use Rattle.promise_bound.specs.Bound.{is_in_window}
use Rattle.promise_bound.proofs.CountLaws.{count}
use Rattle.promise_bound.proofs.BoundLaws.{leaving_is}
use Rattle.promise_bound.proofs.LineLaws.{whole_line}

module _ {A : Type 0} (p : A → Bool) (d : A) where
  -- n that stand one after the other and pass
  pub at_least : (l : List A) (i n : ℕ) → i + n ≤ length l → ((j : ℕ) → j < n → p (get_or l (i + j) d) ≡ true) → n ≤ count p d l
  at_least [] i n low f = omega (arith, low)
  at_least (x ∷ l) zero zero low f = omega arith
  at_least (x ∷ l) zero (suc n) low f =
      rw (f 0 (omega arith)) (omega (arith, at_least l zero n (omega (arith, low)) rest))
    where
      rest : (j : ℕ) → j < n → p (get_or l (zero + j) d) ≡ true
      rest j less =
          let e : suc (zero + j) ≡ zero + suc j = omega arith in
          ap (λ (k : ℕ). p (get_or (x ∷ l) k d)) e ∙ f (suc j) (omega (arith, less))
  at_least (x ∷ l) (suc i) n low f = omega (arith, at_least l i n (omega (arith, low)) rest)
    where
      rest : (j : ℕ) → j < n → p (get_or l (i + j) d) ≡ true
      rest j less =
          let e : suc (i + j) ≡ suc i + j = omega arith in
          ap (λ (k : ℕ). p (get_or (x ∷ l) k d)) e ∙ f j less

  -- of two numbers
  pub two_parts : (g : A → ℕ) (u v : ℕ) → u ≢ v → (l : List A) → count p d (of_connection g u l) + count p d (of_connection g v l) ≤ count p d l
  two_parts g u v ne [] = omega arith
  two_parts g u v ne (x ∷ l) = go (ℕ_discrete (g x) u) (ℕ_discrete (g x) v) (two_parts g u v ne l)
    where
      go : Dec (g x ≡ u) → Dec (g x ≡ v) → count p d (of_connection g u l) + count p d (of_connection g v l) ≤ count p d l
          → count p d (of_connection g u (x ∷ l)) + count p d (of_connection g v (x ∷ l)) ≤ count p d (x ∷ l)
      go (yes e) (yes f) rest = absurd (ne (omega (arith, e, f)))
      go (yes e) (no f) rest = rw (of_connection_yes g u x l e, of_connection_no g v x l f) (omega (arith, rest))
      go (no e) (yes f) rest = rw (of_connection_no g u x l e, of_connection_yes g v x l f) (omega (arith, rest))
      go (no e) (no f) rest = rw (of_connection_no g u x l e, of_connection_no g v x l f) (omega (arith, rest))

-- ── the departures of a run ──
-- at most w of two VCs in w slots
pub two_share : (N z kind : ℕ) (h : List Event) (s : State) → Inv N z kind h s → (u v : ℕ) → u ≢ v → (x w : ℕ)
    → count (is_in_window x w) no_departure (departures_of u h) + count (is_in_window x w) no_departure (departures_of v h) ≤ w
unfolding departures_of
two_share N z kind h s i u v ne x w =
    omega (
      arith,
      two_parts (is_in_window x w) no_departure (λ d. d.vci) u v ne (departures_in h),
      leaving_is x w (departures_in h),
      whole_line N z kind h s i x w,
    )
