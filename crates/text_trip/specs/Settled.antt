-- Document 02 (viii): "writing what was read gives the same octets for every trace already in that form".
--
--   Single es    == each pause is one that one SL record holds, as the reader reads it
--   Settled es   == the form: each SL directly followed by an SL is full
use Rattle.std.specs.Prelude.{ℕ, ◌≤◌, ◌<◌, ◌≡◌, List, [], ◌∷◌}
use Rattle.text_meaning.specs.Events.{Event, told, pause, full}

abbrev pub Single : List Event → Type 0
Single [] = 0 ≤ 0
Single (told o ∷ es) = Single es
Single (pause n ∷ es) = (0 < n) × (n ≤ full) × Single es

abbrev pub Settled : List Event → Type 0
Settled [] = 0 ≤ 0
Settled (told o ∷ es) = Settled es
Settled (pause n ∷ []) = 0 ≤ 0
Settled (pause n ∷ told o ∷ es) = Settled es
Settled (pause n ∷ pause m ∷ es) = (n ≡ full) × Settled (pause m ∷ es)
