-- Document 01, "Refusal numbers": "Order: setup 1, 2; open 1, 2, 4, 3, 5, 6; close 1, 2, 4, 3, 7, 8; slot 1, 2, 9, 3."
-- Document 02 (vi): "13, line kind unknown, after 1 at setup"; (xi): "16, not this operator's connection, after 4".
use Rattle.std.specs.Prelude.{ℕ, Bool}
use Rattle.meaning.specs.Plain.{when◌then◌else◌, ◌=?◌}

-- the number of a refusal where it is given, otherwise 0
abbrev pub refuse_of : ℕ → Bool → ℕ
refuse_of number given = when given then number else 0

-- the first of two that is given
abbrev pub first_of : ℕ → ℕ → ℕ
first_of one other = when one =? 0 then other else one
