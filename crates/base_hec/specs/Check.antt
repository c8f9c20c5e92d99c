-- ITU-T I.432: octet 5 of a header checks the first four. A polynomial over bits is a number here: its binary digit of
-- weight 2^k is the coefficient of x^k. Two are added, and subtracted, bit by bit: `bit_xor`, with no carry.
--
--   head_of l        == the first four octets of l as one number of 32 digits, octet 1 highest
--   remainder k p   == what long division by the generator leaves of p, where p has at most k + 8 digits
--   hec_of l         == the octet 5 that belongs to the first four octets of l
--   syndrome_of l    == that octet and the fifth of l, added bit by bit: 0 where they are the same
use Rattle.std.specs.Prelude.{ℕ, zero, suc, ◌+◌, ◌*◌, ◌/◌, ◌%◌, ◌^◌, List, get_or}
use Rattle.std.specs.Int.Bits.{bit_xor}

-- "x^8 + x^2 + x + 1"
abbrev pub generator : ℕ
generator = 0b1_0000_0111

-- Long division, one digit after the other: the digit of x^(k+8), 0 or 1, says how often the generator times x^k is
-- subtracted. Then that digit is 0, and the next lower one is looked at. Below x^8 the remainder is left.
unfoldable pub remainder : ℕ → ℕ → ℕ
remainder zero p = p
remainder (suc k) p = remainder k (bit_xor p (p / 2 ^ (k + 8) % 2 * (generator * 2 ^ k)))

-- "01010101"
abbrev pub coset : ℕ
coset = 0b0101_0101

-- "remainder of the first four octets times x^8 by x^8 + x^2 + x + 1, then 01010101 added bit by bit"
unfoldable pub check_of : ℕ → ℕ
check_of head = bit_xor (remainder 32 (head * 2 ^ 8)) coset

unfoldable pub head_of : List ℕ → ℕ
head_of l = get_or l 0 0 * 2 ^ 24 + get_or l 1 0 * 2 ^ 16 + get_or l 2 0 * 2 ^ 8 + get_or l 3 0

unfoldable pub hec_of : List ℕ → ℕ
hec_of l = check_of (head_of l)

unfoldable pub syndrome_of : List ℕ → ℕ
syndrome_of l = bit_xor (hec_of l) (get_or l 4 0)
