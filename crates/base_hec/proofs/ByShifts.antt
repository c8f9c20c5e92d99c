-- The shifts of `base_hec::check_of` give the remainder: both are linear, and they agree at each of the 32 powers of 2.
use mathlib.Core.Path.{◌≡◌}
use Prim.Native.Nat.{ℕ, ◌*◌, ◌/◌, ◌%◌, ◌^◌, ◌<◌}
use lib.Bits.{bit_xor}
use Rattle.base_hec.specs.Check.{remainder}
use Rattle.base_hec.proofs.Linear.{Linear, same, after, sum, up, down, low, agree}
use Rattle.base_hec.proofs.Remainder.{remainder_linear}

-- a shift to the left, in 64 bits
abbrev left : ℕ → ℕ → ℕ
left k x = (x * 2 ^ k) % 2 ^ 64

left_linear : (k : ℕ) → Linear (left k)
left_linear k = after (λ x. x % 2 ^ 64) (λ x. x * 2 ^ k) (low 64) (up k)

-- x, and x shifted by j and by k, added
abbrev three : ℕ → ℕ → ℕ → ℕ
three j k x = bit_xor (bit_xor x (left j x)) (left k x)

three_linear : (j k : ℕ) → Linear (three j k)
three_linear j k = sum (λ x. bit_xor x (left j x)) (left k) (sum (λ x. x) (left j) same (left_linear j)) (left_linear k)

abbrev first : ℕ → ℕ
first x = bit_xor x (three 1 2 x / 2 ^ 8)

abbrev second : ℕ → ℕ
second x = bit_xor x (three 2 4 x / 2 ^ 16)

abbrev third : ℕ → ℕ
third x = bit_xor x (bit_xor x (left 4 x) / 2 ^ 28)

abbrev lowest : ℕ → ℕ
lowest x = three 1 2 x % 2 ^ 8

abbrev pub by_shifts : ℕ → ℕ
by_shifts x = lowest (third (second (first x)))

first_linear : Linear first
first_linear = sum (λ x. x) (λ x. three 1 2 x / 2 ^ 8) same (after (λ x. x / 2 ^ 8) (three 1 2) (down 8) (three_linear 1 2))

second_linear : Linear second
second_linear = sum (λ x. x) (λ x. three 2 4 x / 2 ^ 16) same (after (λ x. x / 2 ^ 16) (three 2 4) (down 16) (three_linear 2 4))

third_linear : Linear third
third_linear =
    sum (λ x. x) (λ x. bit_xor x (left 4 x) / 2 ^ 28) same
    (after (λ x. x / 2 ^ 28) (λ x. bit_xor x (left 4 x)) (down 28) (sum (λ x. x) (left 4) same (left_linear 4)))

lowest_linear : Linear lowest
lowest_linear = after (λ x. x % 2 ^ 8) (three 1 2) (low 8) (three_linear 1 2)

shifts_linear : Linear by_shifts
shifts_linear =
    after (λ x. lowest (third (second x))) first
    (after (λ x. lowest (third x)) second (after lowest third lowest_linear third_linear) second_linear)
    first_linear

pub by_shifts_lem : (w : ℕ) → w < 2 ^ 32 → by_shifts w ≡ remainder 32 (w * 2 ^ 8)
unfolding remainder
by_shifts_lem w h =
    agree by_shifts (λ x. remainder 32 (x * 2 ^ 8)) shifts_linear
    (after (remainder 32) (λ x. x * 2 ^ 8) (remainder_linear 32) (up 8))
    32 tt w h
