-- The tests of refusals 1 and 2 pass where the ranges and lengths hold.
use Prim.Native.Nat.{ℕ, ◌*◌, ◌≤◌}
use mathlib.Core.Path.{◌≡◌}
use mathlib.Core.Bool.{true}
use mathlib.Core.List.{List}
use native.Mathlib.Omega.{arith}
use borrow.Author.Tests.{eq-eqb, le-leb}
use lib.ListN.{length}
use Rattle.meaning.specs.Numbers.{ranges_hold, connections_in, words_in, bit_words}
use Rattle.meaning.specs.State.{words_length, lengths_hold}
use Rattle.theory_invariant.specs.Invariant.{Ranges}

pub ranges_hold_lem : (N z : ℕ) → Ranges N z → ranges_hold N z ≡ true
unfolding ranges_hold
ranges_hold_lem N z r =
    rw (le-leb 1 N r.N_low, le-leb N 1_024 r.N_high, le-leb 2 z r.z_low, le-leb z 1_024 r.z_high)

-- rotation's round
pub connections_few : (N z : ℕ) → Ranges N z → connections_in z ≤ 1_280
connections_few N z r = omega (arith, r.z_high)

pub words_hold : (z : ℕ) (words : List ℕ) → length words ≡ words_in z → words_length z words ≡ true
unfolding words_length
words_hold z words e = eq-eqb (length words) (words_in z) e

pub lengths_hold_lem : (N z : ℕ) (cells links calendar words bits arrived : List ℕ) → length cells ≡ 53 * N → length links ≡ N
    → length calendar ≡ 2 * N → length words ≡ words_in z → length bits ≡ bit_words → length arrived ≡ N
    → lengths_hold N z cells links calendar words bits arrived ≡ true
unfolding lengths_hold
lengths_hold_lem N z cells links calendar words bits arrived e1 e2 e3 e4 e5 e6 =
    rw (
      eq-eqb (length cells) (53 * N) e1,
      eq-eqb (length links) N e2,
      eq-eqb (length calendar) (2 * N) e3,
      words_hold z words e4,
      eq-eqb (length bits) bit_words e5,
      eq-eqb (length arrived) N e6,
    )
