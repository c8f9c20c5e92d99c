-- The bits of the entries against the entries: "one bit for each entry, compared by the audit".
--
--   has_cell N calendar e   == entry e is below N and is not empty
--   agrees a b             == they are the same
--   MarksAre N ..          == the bit of each entry says whether it has a cell; those at N and above are 0
--   MarksBelow N .. k      == the same of the entries below k
use Rattle.std.specs.Prelude.{ℕ, ◌<◌, ◌≡◌, Bool, not, ◌&&◌, List}
use Rattle.meaning.specs.Plain.{when◌then◌else◌, ◌<?◌}
use Rattle.meaning.specs.Numbers.{most_n}
use Rattle.meaning.specs.Bits.{is_marked}
use Rattle.meaning.specs.Lists.{is_empty, entry_at}

abbrev pub has_cell : ℕ → List ℕ → ℕ → Bool
has_cell N calendar e = e <? N && not (is_empty (entry_at calendar e))

unfoldable pub agrees : Bool → Bool → Bool
agrees a b = when b then a else not a

abbrev pub MarksBelow : ℕ → List ℕ → List ℕ → ℕ → Type 0
MarksBelow N calendar bits k = (e : ℕ) → e < k → is_marked bits e ≡ has_cell N calendar e

abbrev pub MarksAre : ℕ → List ℕ → List ℕ → Type 0
MarksAre N calendar bits = MarksBelow N calendar bits most_n
