-- Document 02, request (i): the two modes, and what the header check lets through to the five steps of a slot.
--
--   checked mode cell        == the check of a lent cell in this mode
--   arriving raw mode cell   == the same for any lent octets, none or 53, of a policer that is raw or not
--   arriving_fits ..          == what `arriving` reads, raw and mode, is in its range
use Rattle.std.specs.Prelude.{ℕ, ◌<◌, Bool, true, false, cond, ◌&&◌, ◌||◌, List, [], ltb, leb, eqb, length, get_or}
use Rattle.base_hec.specs.Check.{syndrome_of}
use Rattle.base_hec.specs.WrongBit.{no_error, wrong_bit, flipped}

-- "mode 0 correction, 1 detection"
abbrev pub correction : ℕ
correction = 0

abbrev pub detection : ℕ
detection = 1

-- What the check answers. The five steps go on with `cell`: nothing, or 53 octets.
pub record Arriving : Type 0 where
  pub cell : List ℕ
  pub dropped : Bool
  pub mode : ℕ

abbrev pub passes : List ℕ → ℕ → Arriving
passes cell mode = record { cell = cell; dropped = false; mode = mode }

-- "A dropped cell .. makes its slot empty for steps 1 to 5"
abbrev pub drops : ℕ → Arriving
drops mode = record { cell = []; dropped = true; mode = mode }

-- "In correction mode, the first, a single wrong bit is mended, more than one drops the cell, and any error leads to
-- detection; there every error drops the cell, and a clean header leads back."
unfoldable pub checked : ℕ → List ℕ → Arriving
checked mode cell =
    let bit = wrong_bit (syndrome_of cell) in
    cond (eqb bit no_error) (passes cell correction)
    (cond (eqb mode correction && ltb bit no_error) (passes (flipped bit cell) detection) (drops detection))

-- A slot lent no cell keeps the mode; a policer that is not raw looks at no header.
unfoldable pub arriving : ℕ → ℕ → List ℕ → Arriving
arriving raw mode cell = cond (eqb (length cell) 0 || eqb raw 0) (passes cell mode) (checked mode cell)

-- "raw is read when 53 octets are lent, mode when raw is 1; a value read outside 0 and 1 is 3."
unfoldable pub arriving_fits : ℕ → ℕ → List ℕ → Bool
arriving_fits raw mode cell = eqb (length cell) 0 || eqb raw 0 || (eqb raw 1 && leb mode detection)

-- each element is an octet
abbrev pub Octets : List ℕ → Type 0
Octets l = (k : ℕ) → get_or l k 0 < 256
