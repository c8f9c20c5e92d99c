-- The same check over numbers, as the code has it: the first four octets as one, the fifth as another.
--
--   checked_word mode head fifth   == what the check answers, with the header as mended
--   octets_of head fifth           == the five octets of a header
--   arriving_of r cell             == what the check lets through of a lent cell, r being its answer
use Rattle.std.specs.Prelude.{ℕ, ◌-◌, ◌/◌, ◌%◌, ◌^◌, cond, ◌&&◌, List, [], ◌∷◌, ◌++◌, ltb, eqb, drop}
use Rattle.std.specs.Int.Bits.{bit_xor}
use Rattle.base_hec.specs.declared.Checked.{Checked}
use Rattle.base_hec.specs.declared.Checked.TheVariants.{Clean, Mended, Dropped}
use Rattle.base_hec.specs.Check.{check_of}
use Rattle.base_hec.specs.WrongBit.{no_error, wrong_bit}
use Rattle.base_hec.specs.Modes.{correction, detection, Arriving, passes, drops}

-- bits 0 to 31 stand in the first four octets, 32 to 39 in the fifth
unfoldable pub mended_word : ℕ → ℕ → ℕ → Checked
mended_word bit head fifth =
    cond (ltb bit 32) (Mended (bit_xor head (2 ^ (31 - bit))) fifth) (Mended head (bit_xor fifth (2 ^ (39 - bit))))

unfoldable pub erred_word : ℕ → ℕ → ℕ → ℕ → Checked
erred_word mode head fifth bit =
    cond (eqb mode correction && ltb bit no_error) (mended_word bit head fifth) Dropped

unfoldable pub checked_word : ℕ → ℕ → ℕ → Checked
checked_word mode head fifth =
    let bit = wrong_bit (bit_xor (check_of head) fifth) in
    cond (eqb bit no_error) Clean (erred_word mode head fifth bit)

unfoldable pub octets_of : ℕ → ℕ → List ℕ
octets_of head fifth =
    head / 2 ^ 24 ∷ head / 2 ^ 16 % 2 ^ 8 ∷ head / 2 ^ 8 % 2 ^ 8 ∷ head % 2 ^ 8 ∷ fifth ∷ []

-- what a lent cell becomes by it: as it came; its header from the numbers, its payload as lent; or nothing
abbrev pub arriving_of : Checked → List ℕ → Arriving
arriving_of Clean cell = passes cell correction
arriving_of (Mended head fifth) cell = passes (octets_of head fifth ++ drop 5 cell) detection
arriving_of Dropped cell = drops detection
