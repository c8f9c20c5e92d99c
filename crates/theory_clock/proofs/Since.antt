-- How far behind rotation lets a connection fall: one slot more with each slot, and none when rotation names it.
use Prim.Native.Nat.{ℕ, ◌+◌, ◌-◌, ◌%◌, ◌≤◌, ◌<◌}
use mathlib.Core.Path.{◌≡◌, ◌∙◌, ap}
use mathlib.Core.Logic.{◌≢◌}
use mathlib.Core.Bool.{false}
use mathlib.Core.List.{List}
use native.Mathlib.Omega.{arith}
use native.Mathlib.Nat.{mod-lt, mod-eq_of_lt, mod_self, mod-add-mod}
use native.Mathlib.Decide.{dec_lt, dec_le, ℕ_discrete}
use borrow.Author.Tests.{le-leb, lt-leb}
use lib.ListN.{length}
use Rattle.meaning.specs.Numbers.{connections_in, unused, words_in}
use Rattle.meaning.specs.Words.{Connection, connection_at, write_connection}
use Rattle.meaning.proofs.WordsLaws.{write_length, write_read, write_read_other}
use Rattle.theory_clock.specs.Kept.{since, Behind, Recent}

pub since_low : (R r v : ℕ) → r < R → v < R → since R r v < R
unfolding since
since_low R r v h b = go (dec_le v r)
  where
    go : Dec (v ≤ r) → since R r v < R
    go (yes p) = rw (le-leb v r p) (omega arith)
    go (no p) = rw (lt-leb v r (omega arith)) (omega arith)

-- rotation after one slot more
next_rotation : (R r : ℕ) → r < R → (P : ℕ → Type 0) → (r + 1 < R → P (r + 1)) → (r + 1 ≡ R → P 0) → P ((r + 1) % R)
next_rotation R r h P more wrap = go (dec_lt (r + 1) R)
  where
    go : Dec (r + 1 < R) → P ((r + 1) % R)
    go (yes p) = rw (mod-eq_of_lt p) (more p)
    go (no p) = let e : r + 1 ≡ R = omega arith in rw (e, mod_self R) (wrap e)

-- "rotation by one modulo V": a connection that rotation does not name is one slot further behind
pub since_next : (R r v : ℕ) → r < R → v < R → v ≢ (r + 1) % R → since R ((r + 1) % R) v ≡ since R r v + 1
unfolding since
since_next R r v h b = next_rotation R r h (λ q. v ≢ q → since R q v ≡ since R r v + 1) more wrap
  where
    more : r + 1 < R → v ≢ r + 1 → since R (r + 1) v ≡ since R r v + 1
    more p ne = go (dec_le v r)
      where
        go : Dec (v ≤ r) → since R (r + 1) v ≡ since R r v + 1
        go (yes q) = rw (le-leb v (r + 1) (omega arith), le-leb v r q) (omega arith)
        go (no q) = rw (lt-leb v (r + 1) (omega arith), lt-leb v r (omega arith)) (omega arith)

    wrap : r + 1 ≡ R → v ≢ 0 → since R 0 v ≡ since R r v + 1
    wrap e ne = rw (lt-leb v 0 (omega arith), le-leb v r (omega arith)) (omega arith)

pub rotation_low : (R r : ℕ) → r < R → (r + 1) % R < R
rotation_low R r h = mod-lt (r + 1) (omega arith)

-- rotation is (k + R - 1) modulo R, and stays so
pub rotation_next : (R k : ℕ) → 1 ≤ R → ((k + R - 1) % R + 1) % R ≡ (k + 1 + R - 1) % R
rotation_next R k h = mod-add-mod (k + R - 1) R 1 ∙ ap (λ (n : ℕ). n % R) (omega arith)

-- one connection's words are written: it and the others are as near as they may be
pub recent_write : (z k : ℕ) (most : ℕ → ℕ) (l : List ℕ) (v : ℕ) (vc : Connection) → v < connections_in z → length l ≡ words_in z
    → ((u : ℕ) → unused z u ≡ false → u < connections_in z → u ≢ v → Behind k (most u) (connection_at l u))
    → Behind k (most v) vc → Recent z k most (write_connection l v vc)
recent_write z k most l v vc h long others b =
    record { long = write_length l v vc ∙ long; behind = λ u p q. go u p q (ℕ_discrete u v) }
  where
    go : (u : ℕ) → unused z u ≡ false → u < connections_in z → Dec (u ≡ v) → Behind k (most u) (connection_at (write_connection l v vc) u)
    go u p q (yes e) = rw (e, write_read l v vc (omega arith)) b
    go u p q (no ne) = rw (write_read_other l v vc u ne) (others u p q ne)
