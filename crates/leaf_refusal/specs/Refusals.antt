-- The number of each refusal, as C is told it; docs/REFERENCE.md says what each means.
use Rattle.std.specs.Prelude.{ℕ, Result, Ok, Err}
use Rattle.leaf_refusal.specs.declared.Refusal.{Refusal}
use Rattle.leaf_refusal.specs.declared.Refusal.TheVariants.{Ranges, Lengths, Stored, Name, AlreadyOpen, Rules, NotOpen, NotYet}
use Rattle.leaf_refusal.specs.declared.Refusal.TheVariants.{CellSize, SecondBucket, OutOfOrder, LineKind, Share, Operator}

abbrev pub number_of : Refusal → ℕ
number_of Ranges = 1
number_of Lengths = 2
number_of Stored = 3
number_of Name = 4
number_of AlreadyOpen = 5
number_of Rules = 6
number_of NotOpen = 7
number_of NotYet = 8
number_of CellSize = 9
number_of SecondBucket = 11
number_of OutOfOrder = 12
number_of LineKind = 13
number_of Share = 15
number_of Operator = 16

-- 0 where nothing is refused
abbrev pub given_number : Result Unit Refusal → ℕ
given_number (Ok _) = 0
given_number (Err why) = number_of why
