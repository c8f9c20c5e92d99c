-- What a syndrome says of a header of forty bits. Bit 0 is the highest of octet 1 and is sent first; bit 39 is the lowest
-- of octet 5.
--
--   one_bit i        == the syndrome of an error in bit i alone
--   wrong_bit s      == the bit whose error alone has syndrome s; `no_error` where s is 0, `several` where no bit has it
--   wrong_bits       == the same as a table of 256 entries, one for each syndrome
--   named b         == that bit where b is one of the forty
--   flipped i l     == l with bit i of its header changed
use Rattle.std.specs.Prelude.{ℕ, zero, suc, ◌-◌, ◌/◌, ◌%◌, ◌^◌, cond, Option, Some, None, List, [], ◌∷◌, ltb, eqb, get_or, set}
use Rattle.std.specs.Int.Bits.{bit_xor}
use Rattle.base_hec.specs.Check.{remainder}

-- "which names the wrong header bit out of forty, no error, or more than one"
abbrev pub no_error : ℕ
no_error = 40

abbrev pub several : ℕ
several = 41

-- An error in bit i alone adds x^(39-i) to the header, and its remainder to the syndrome.
unfoldable pub one_bit : ℕ → ℕ
one_bit i = remainder 32 (2 ^ (39 - i))

-- the first of the n bits from i on whose error alone has syndrome s
unfoldable pub first_with : ℕ → ℕ → ℕ → ℕ
first_with zero i s = several
first_with (suc n) i s = cond (eqb (one_bit i) s) i (first_with n (suc i) s)

unfoldable pub wrong_bit : ℕ → ℕ
wrong_bit s = cond (eqb s 0) no_error (first_with 40 0 s)

abbrev pub named : ℕ → Option ℕ
named bit = cond (ltb bit no_error) (Some bit) None

unfoldable pub flipped : ℕ → List ℕ → List ℕ
flipped i l = set l (i / 8) (bit_xor (get_or l (i / 8) 0) (2 ^ (7 - i % 8)))

-- "a table of 256 entries, one for each syndrome"
unfoldable pub wrong_bits : List ℕ
wrong_bits =
    40 ∷ 39 ∷ 38 ∷ 41 ∷ 37 ∷ 41 ∷ 41 ∷ 31 ∷ 36 ∷ 41 ∷ 41 ∷ 8 ∷ 41 ∷ 41 ∷ 30 ∷ 41 ∷
    35 ∷ 41 ∷ 41 ∷ 41 ∷ 41 ∷ 23 ∷ 7 ∷ 41 ∷ 41 ∷ 41 ∷ 41 ∷ 41 ∷ 29 ∷ 41 ∷ 41 ∷ 41 ∷
    34 ∷ 41 ∷ 41 ∷ 41 ∷ 41 ∷ 41 ∷ 41 ∷ 41 ∷ 41 ∷ 41 ∷ 22 ∷ 41 ∷ 6 ∷ 41 ∷ 41 ∷ 41 ∷
    41 ∷ 0 ∷ 41 ∷ 41 ∷ 41 ∷ 41 ∷ 41 ∷ 41 ∷ 28 ∷ 41 ∷ 41 ∷ 41 ∷ 41 ∷ 41 ∷ 41 ∷ 41 ∷
    33 ∷ 41 ∷ 41 ∷ 10 ∷ 41 ∷ 41 ∷ 41 ∷ 41 ∷ 41 ∷ 41 ∷ 41 ∷ 41 ∷ 41 ∷ 41 ∷ 41 ∷ 41 ∷
    41 ∷ 12 ∷ 41 ∷ 41 ∷ 21 ∷ 41 ∷ 41 ∷ 19 ∷ 5 ∷ 41 ∷ 41 ∷ 17 ∷ 41 ∷ 41 ∷ 41 ∷ 41 ∷
    41 ∷ 41 ∷ 41 ∷ 41 ∷ 41 ∷ 41 ∷ 41 ∷ 3 ∷ 41 ∷ 41 ∷ 41 ∷ 15 ∷ 41 ∷ 41 ∷ 41 ∷ 41 ∷
    27 ∷ 41 ∷ 41 ∷ 41 ∷ 41 ∷ 41 ∷ 41 ∷ 41 ∷ 41 ∷ 41 ∷ 41 ∷ 41 ∷ 41 ∷ 41 ∷ 41 ∷ 41 ∷
    32 ∷ 41 ∷ 41 ∷ 41 ∷ 41 ∷ 41 ∷ 9 ∷ 41 ∷ 41 ∷ 24 ∷ 41 ∷ 41 ∷ 41 ∷ 41 ∷ 41 ∷ 41 ∷
    41 ∷ 41 ∷ 41 ∷ 41 ∷ 41 ∷ 41 ∷ 41 ∷ 41 ∷ 41 ∷ 41 ∷ 41 ∷ 1 ∷ 41 ∷ 41 ∷ 41 ∷ 41 ∷
    41 ∷ 41 ∷ 11 ∷ 41 ∷ 41 ∷ 41 ∷ 41 ∷ 41 ∷ 20 ∷ 41 ∷ 41 ∷ 13 ∷ 41 ∷ 41 ∷ 18 ∷ 41 ∷
    4 ∷ 41 ∷ 41 ∷ 41 ∷ 41 ∷ 41 ∷ 16 ∷ 41 ∷ 41 ∷ 41 ∷ 41 ∷ 41 ∷ 41 ∷ 41 ∷ 41 ∷ 41 ∷
    41 ∷ 41 ∷ 41 ∷ 41 ∷ 41 ∷ 41 ∷ 41 ∷ 25 ∷ 41 ∷ 41 ∷ 41 ∷ 41 ∷ 41 ∷ 41 ∷ 2 ∷ 41 ∷
    41 ∷ 41 ∷ 41 ∷ 41 ∷ 41 ∷ 41 ∷ 14 ∷ 41 ∷ 41 ∷ 41 ∷ 41 ∷ 41 ∷ 41 ∷ 41 ∷ 41 ∷ 41 ∷
    26 ∷ 41 ∷ 41 ∷ 41 ∷ 41 ∷ 41 ∷ 41 ∷ 41 ∷ 41 ∷ 41 ∷ 41 ∷ 41 ∷ 41 ∷ 41 ∷ 41 ∷ 41 ∷
    41 ∷ 41 ∷ 41 ∷ 41 ∷ 41 ∷ 41 ∷ 41 ∷ 41 ∷ 41 ∷ 41 ∷ 41 ∷ 41 ∷ 41 ∷ 41 ∷ 41 ∷ 41 ∷ []
