-- Document 01, "Trace and listing": words of a line as octets, in ASCII.
--
--   decimal_of n    == n in decimal, without leading zeros
--   line words     == the words, one space between, a line feed after
--   shown b n      == n where the test b holds, otherwise `-`;  word_of o == the same of a number or none
use Rattle.std.specs.Prelude.{ℕ, zero, suc, ◌+◌, ◌/◌, ◌%◌, Bool, Option, Some, None, List, [], ◌∷◌, ◌++◌}
use Rattle.meaning.specs.Plain.{when◌then◌else◌, ◌<?◌}

abbrev pub space : ℕ
space = 32

abbrev pub line_feed : ℕ
line_feed = 10

abbrev pub dash : ℕ
dash = 45

-- the digit of a number below ten: `0` is octet 48
abbrev pub digit : ℕ → ℕ
digit n = 48 + n

-- the decimal digits of n, where k of them are enough
unfoldable pub decimal : ℕ → ℕ → List ℕ
decimal zero n = []
decimal (suc k) n = when n <? 10 then digit n ∷ [] else decimal k (n / 10) ++ (digit (n % 10) ∷ [])

-- every number of a line has 32 bits or fewer: ten digits are enough
unfoldable pub decimal_of : ℕ → List ℕ
decimal_of n = decimal 10 n

unfoldable pub line : List (List ℕ) → List ℕ
line [] = []
line (w ∷ []) = w ++ (line_feed ∷ [])
line (w ∷ v ∷ ws) = w ++ (space ∷ line (v ∷ ws))

unfoldable pub shown : Bool → ℕ → List ℕ
shown b n = when b then decimal_of n else (dash ∷ [])

-- the number that is shown, otherwise `-`
abbrev pub word_of : Option ℕ → List ℕ
word_of (Some n) = decimal_of n
word_of None = dash ∷ []
