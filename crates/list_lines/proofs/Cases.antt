-- Lines of document 01's example and the edges of its rules, by computation.
use mathlib.Core.Path.{◌≡◌, refl}
use mathlib.Core.List.{[], ◌∷◌}
use Rattle.meaning.specs.Numbers.{lets_in}
use Rattle.meaning.specs.Work.{answer_of}
use Rattle.list_lines.specs.Text.{decimal, decimal_of, line, shown}
use Rattle.list_lines.specs.Lines.{letter, shows_vci, served_line, slot_line, open_line}

-- `3 X 40 - -`
pub excess_line : slot_line 3 (answer_of 0 2 40 0 65535 0) ≡ 51 ∷ 32 ∷ 88 ∷ 32 ∷ 52 ∷ 48 ∷ 32 ∷ 45 ∷ 32 ∷ 45 ∷ 10 ∷ []
unfolding slot_line served_line line shown letter shows_vci lets_in decimal_of decimal
excess_line = refl

-- `6 . - - 40`
pub silent_line : slot_line 6 (answer_of 0 0 0 0 2 40) ≡ 54 ∷ 32 ∷ 46 ∷ 32 ∷ 45 ∷ 32 ∷ 45 ∷ 32 ∷ 52 ∷ 48 ∷ 10 ∷ []
unfolding slot_line served_line line shown letter shows_vci lets_in decimal_of decimal
silent_line = refl

-- `9 U 0 - -`: VPI not 0 with VCI 0 prints VCI 0, since `-` stands exactly after `.` and H
pub unknown_line : slot_line 9 (answer_of 0 3 0 0 65535 0) ≡ 57 ∷ 32 ∷ 85 ∷ 32 ∷ 48 ∷ 32 ∷ 45 ∷ 32 ∷ 45 ∷ 10 ∷ []
unfolding slot_line served_line line shown letter shows_vci lets_in decimal_of decimal
unknown_line = refl

-- `5 A 41 0 41`: a D of 0 is printed, and space 0 is a space
pub accepted_line : slot_line 5 (answer_of 0 1 41 0 0 41) ≡ 53 ∷ 32 ∷ 65 ∷ 32 ∷ 52 ∷ 49 ∷ 32 ∷ 48 ∷ 32 ∷ 52 ∷ 49 ∷ 10 ∷ []
unfolding slot_line served_line line shown letter shows_vci lets_in decimal_of decimal
accepted_line = refl

-- `7 H - - 40`: a dropped cell shows neither VCI nor D; what departs is shown
pub dropped_line : slot_line 7 (answer_of 0 4 0 0 2 40) ≡ 55 ∷ 32 ∷ 72 ∷ 32 ∷ 45 ∷ 32 ∷ 45 ∷ 32 ∷ 52 ∷ 48 ∷ 10 ∷ []
unfolding slot_line served_line line shown letter shows_vci lets_in decimal_of decimal
dropped_line = refl

-- `8 T 40 3 -`: a tagged cell shows VCI and D as an accepted one does
pub tagged_line : slot_line 8 (answer_of 0 5 40 3 65535 0) ≡ 56 ∷ 32 ∷ 84 ∷ 32 ∷ 52 ∷ 48 ∷ 32 ∷ 51 ∷ 32 ∷ 45 ∷ 10 ∷ []
unfolding slot_line served_line line shown letter shows_vci lets_in decimal_of decimal
tagged_line = refl

-- `open 66559 4`: V 1,024 and VPI 65,535, which names no path, in full
pub no_path_line : open_line 66559 4 ≡ 111 ∷ 112 ∷ 101 ∷ 110 ∷ 32 ∷ 54 ∷ 54 ∷ 53 ∷ 53 ∷ 57 ∷ 32 ∷ 52 ∷ 10 ∷ []
unfolding open_line line decimal_of decimal
no_path_line = refl

pub zero_decimal : decimal_of 0 ≡ 48 ∷ []
unfolding decimal_of decimal
zero_decimal = refl

pub last_decimal : decimal_of 4294967295 ≡ 52 ∷ 50 ∷ 57 ∷ 52 ∷ 57 ∷ 54 ∷ 55 ∷ 50 ∷ 57 ∷ 53 ∷ []
unfolding decimal_of decimal
last_decimal = refl
