-- Document 02 (vii), free spaces as bits: "Keep a bit for each space, sixteen words of 64 bits beside the number of free spaces, and
-- take the lowest free space by counting trailing zeros. The number always equals the ones in the words."
-- (ix), a mark for each entry: "Keep one bit for each entry". Both stand in one lent memory of 32 words.
--
--   is_set bits k          == bit k of the lent words is set: bit j of word w is 64 w + j
--   is_free_space bits x         == the bit of space x is set: bit x, in words 0 to 15
--   is_marked bits e       == the bit of entry e is set: bit 1,024 + e, in words 16 to 31
--   ones_below k bits      == how many bits are set in the first k words
--   spaces_fit N free bits == no bit at or above N is set, and the number free is the ones in the words
--   lowest_free bits       == the lowest space whose bit is set
--   taken bits x, given bits x  == the words once space x is taken, and once it is given back
--   marked bits e, unmarked bits e  == the words once a cell has joined entry e, and once entry e is emptied
--   all_free N             == the words in which spaces 0 to N-1 are free, and no other, and no entry is marked
use Rattle.std.specs.Prelude.{ℕ, zero, suc, ◌+◌, ◌-◌, ◌*◌, ◌/◌, ◌%◌, ◌^◌, min, Bool, true, ◌&&◌, List, [], ◌∷◌, get_or, set}
use Rattle.std.specs.Int.Count.{ones, count_trailing_zeros}
use Rattle.meaning.specs.Plain.{when◌then◌else◌, ◌<?◌, ◌=?◌}
use Rattle.meaning.specs.Numbers.{most_n, free_words, bit_words, word_bits}

abbrev pub word_of : ℕ → ℕ
word_of x = x / word_bits

abbrev pub bit_of : ℕ → ℕ
bit_of x = x % word_bits

unfoldable pub is_set : List ℕ → ℕ → Bool
is_set bits k = get_or bits (word_of k) 0 / 2 ^ bit_of k % 2 =? 1

unfoldable pub is_free_space : List ℕ → ℕ → Bool
is_free_space bits x = x <? most_n && is_set bits x

abbrev pub entry_bit : ℕ → ℕ
entry_bit e = most_n + e

unfoldable pub is_marked : List ℕ → ℕ → Bool
is_marked bits e = is_set bits (entry_bit e)

unfoldable pub ones_below : ℕ → List ℕ → ℕ
ones_below zero bits = 0
ones_below (suc k) bits = ones_below k bits + ones (get_or bits k 0)

-- the bits of word w that are below N
abbrev pub bits_in : ℕ → ℕ → ℕ
bits_in N w = min (N - word_bits * w) word_bits

-- "a bit at or above N": none in the first k words
unfoldable pub none_above : ℕ → ℕ → List ℕ → Bool
none_above N zero bits = true
none_above N (suc k) bits = none_above N k bits && get_or bits k 0 <? 2 ^ bits_in N k

-- refusal 3: "a bit at or above N, a number other than the ones"; all sixteen words of spaces are judged
unfoldable pub spaces_fit : ℕ → ℕ → List ℕ → Bool
spaces_fit N free bits = none_above N free_words bits && ones_below free_words bits =? free

-- the first word from w on, of so many, that is not 0 has it
unfoldable pub lowest_from : ℕ → ℕ → List ℕ → ℕ
lowest_from zero w bits = word_bits * w
lowest_from (suc k) w bits =
    when get_or bits w 0 =? 0 then lowest_from k (w + 1) bits else word_bits * w + count_trailing_zeros word_bits (get_or bits w 0)

unfoldable pub lowest_free : List ℕ → ℕ
lowest_free bits = lowest_from free_words 0 bits

-- a bit that is set, cleared, and one that is clear, set
unfoldable pub without_bit : List ℕ → ℕ → List ℕ
without_bit bits k = set bits (word_of k) (get_or bits (word_of k) 0 - 2 ^ bit_of k)

unfoldable pub with_bit : List ℕ → ℕ → List ℕ
with_bit bits k = set bits (word_of k) (get_or bits (word_of k) 0 + 2 ^ bit_of k)

abbrev pub taken : List ℕ → ℕ → List ℕ
taken bits x = without_bit bits x

abbrev pub given : List ℕ → ℕ → List ℕ
given bits x = with_bit bits x

-- a cell that joins sets its entry's bit, a transfer clears entry T's, also where it was so before: a slot judges no such bit
unfoldable pub marked : List ℕ → ℕ → List ℕ
marked bits e = when is_marked bits e then bits else with_bit bits (entry_bit e)

unfoldable pub unmarked : List ℕ → ℕ → List ℕ
unmarked bits e = when is_marked bits e then without_bit bits (entry_bit e) else bits

-- word w of them, and k words from w on
abbrev pub full_word : ℕ → ℕ → ℕ
full_word N w = 2 ^ bits_in N w - 1

unfoldable pub full_from : ℕ → ℕ → ℕ → List ℕ
full_from N zero w = []
full_from N (suc k) w = full_word N w ∷ full_from N k (w + 1)

abbrev pub all_free : ℕ → List ℕ
all_free N = full_from N bit_words 0
