-- The sum of the waiting words after a write of one connection's words.
use Prim.Native.Nat.{ℕ, zero, suc, ◌+◌, ◌*◌, ◌≤◌, ◌<◌}
use mathlib.Core.Path.{◌≡◌, refl, ap, ◌∙◌}
use mathlib.Core.Bool.{Bool, true, false}
use mathlib.Core.Logic.{◌⊎◌, inl, inr, ⊎_elim, ◌≢◌}
use mathlib.Core.List.{List}
use native.Mathlib.Omega.{arith}
use borrow.Author.Tests.{eqb-true, eqb-false}
use lib.Dec.{eqb}
use lib.ListN.{length}
use Rattle.meaning.specs.Numbers.{words_per_connection}
use Rattle.meaning.specs.Words.{Connection, connection_at, write_connection}
use Rattle.meaning.proofs.WordsLaws.{write_read, write_read_other}
use Rattle.list_counts.specs.Waiting.{sum_waiting}

pub same_or_not : (u v : ℕ) (b : Bool) → eqb u v ≡ b → (u ≡ v) ⊎ (u ≢ v)
same_or_not u v true e = inl (eqb-true u v e)
same_or_not u v false e = inr (eqb-false u v e)

module _ (words : List ℕ) (v : ℕ) (vc : Connection) where
  -- connections before v keep their words
  pub sum_before : (k : ℕ) → k ≤ v → sum_waiting k (write_connection words v vc) ≡ sum_waiting k words
  unfolding sum_waiting
  sum_before zero h = refl
  sum_before (suc k) h =
      let e : (connection_at (write_connection words v vc) k).waiting ≡ (connection_at words k).waiting = ap (λ (x : Connection). x.waiting) (write_read_other words v vc k (λ q. omega arith)) in
      omega (arith, e, sum_before k (omega arith))

  module _ (inside : words_per_connection * v + words_per_connection ≤ length words) where
    -- from v on, the sum has lost what waited and gained what waits
    pub sum_after : (k : ℕ) → v < k → sum_waiting k (write_connection words v vc) + (connection_at words v).waiting ≡ sum_waiting k words + vc.waiting
    unfolding sum_waiting
    sum_after zero h = absurd (omega arith)
    sum_after (suc k) h =
        ⊎_elim
        (λ (e : k ≡ v).
        let w : (connection_at (write_connection words v vc) k).waiting ≡ vc.waiting = ap (λ (u : ℕ). (connection_at (write_connection words v vc) u).waiting) e ∙ ap (λ (x : Connection). x.waiting) (write_read words v vc inside) in
        let o : (connection_at words k).waiting ≡ (connection_at words v).waiting = ap (λ (u : ℕ). (connection_at words u).waiting) e in
        omega (arith, w, o, sum_before k (omega arith)))
        (λ (n : k ≢ v).
        let w : (connection_at (write_connection words v vc) k).waiting ≡ (connection_at words k).waiting = ap (λ (x : Connection). x.waiting) (write_read_other words v vc k n) in
        let l : v < k = omega (arith, n) in
        omega (arith, w, sum_after k l))
        (same_or_not k v (eqb k v) refl)

-- what one connection has waiting is part of the sum
pub sum_part : (words : List ℕ) (v k : ℕ) → v < k → (connection_at words v).waiting ≤ sum_waiting k words
unfolding sum_waiting
sum_part words v zero h = absurd (omega arith)
sum_part words v (suc k) h =
    ⊎_elim
    (λ (e : v ≡ k). let o : (connection_at words v).waiting ≡ (connection_at words k).waiting = ap (λ (u : ℕ). (connection_at words u).waiting) e in omega arith)
    (λ (n : v ≢ k). let l : v < k = omega (arith, n) in omega (arith, sum_part words v k l))
    (same_or_not v k (eqb v k) refl)
