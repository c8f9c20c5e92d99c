-- Document 02 (viii): "Adjoining pauses go into as few SL records as possible".
--
--   sum_of ns     == the slots of SL records with the counts ns
--   Held ns      == each of them is a count that an SL can hold
--   records n    == how many SL records a pause of n slots is written in
use Rattle.std.specs.Prelude.{ℕ, ◌+◌, ◌/◌, ◌%◌, ◌≤◌, List, [], ◌∷◌}
use Rattle.meaning.specs.Plain.{when◌then◌else◌, ◌=?◌}
use Rattle.text_meaning.specs.Events.{full}

abbrev pub sum_of : List ℕ → ℕ
sum_of [] = 0
sum_of (n ∷ ns) = n + sum_of ns

abbrev pub Held : List ℕ → Type 0
Held [] = 0 ≤ 0
Held (n ∷ ns) = (n ≤ full) × Held ns

unfoldable pub records : ℕ → ℕ
records n = n / full + (when n % full =? 0 then 0 else 1)
