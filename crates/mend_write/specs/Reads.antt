-- What counting an input on to its end means, by what `read` answers, one answer after the other: a number of octets, 0 at
-- the input's end, or that it failed. Which answers come is the system's.
--
--   counted total gots == the count, where total octets came before and the reads from now on answer gots
--   Reads before r     == r is the count that some answers lead to; too long only where it is
use Rattle.std.specs.Prelude.{ℕ, ◌+◌, ◌≡◌, ◌≤◌, Bool, true, ◌&&◌, List, [], ◌∷◌, Result, Ok, Err}
use Rattle.meaning.specs.Plain.{when◌then◌else◌, ◌<?◌, ◌≤?◌, ◌=?◌}
use Rattle.mend_write.specs.declared.CountError.{CountError}
use Rattle.mend_write.specs.declared.CountError.TheVariants.{Failed, TooLong}

-- one read brings so many octets at most; a total that one more could bring to 2^64 is not counted on
abbrev pub chunk : ℕ
chunk = 65_536

abbrev pub most : ℕ
most = 18_446_744_073_709_486_079

pub data Got : Type 0 where
  failed : Got
  octets : (n : ℕ) → Got

abbrev pub fits : List Got → Bool
fits [] = true
fits (failed ∷ gots) = fits gots
fits (octets n ∷ gots) = n ≤? chunk && fits gots

-- the count, or why there is none: a read failed, or the input is too long
unfoldable pub counted : ℕ → List Got → Result ℕ CountError
counted total [] = Err (TooLong total)
counted total (failed ∷ gots) = Err (Failed total)
counted total (octets n ∷ gots) =
    when total <? most then (when n =? 0 then Ok total else counted (total + n) gots)
    else Err (TooLong total)

pub record Reads (before : ℕ) (r : Result ℕ CountError) : Type 0 where
  pub gots : List Got
  pub fit : fits gots ≡ true
  pub is : r ≡ counted before gots
  pub long : (total : ℕ) → r ≡ Err (TooLong total) → most ≤ total
