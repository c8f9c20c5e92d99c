-- Document 02 (xi), "Two operators on one card": whose a connection is, and as whom a call is made. Opens and closes alone ask
-- this; a slot, the line and the audit don't.
--
--   owner_of splitvci splitpath name  == the operator whose connection this is: 0 the first, 1 the second
--   owns r who name                   == is it who's, by the splits that the record holds; else refusal 16
use Rattle.std.specs.Prelude.{ℕ, Bool}
use Rattle.meaning.specs.declared.Record.{Record}
use Rattle.meaning.specs.Plain.{when◌then◌else◌, ◌<?◌, ◌=?◌}
use Rattle.meaning.specs.Header.{Name, by_vci, by_vpi}

abbrev pub first_operator : ℕ
first_operator = 0

abbrev pub second_operator : ℕ
second_operator = 1

-- "Connections below a split VCI and a split path number, fixed at setup, are the first's, the others the second's."
unfoldable pub owner_of : ℕ → ℕ → Name → ℕ
owner_of splitvci splitpath (by_vci vci) = when vci <? splitvci then first_operator else second_operator
owner_of splitvci splitpath (by_vpi vpi) = when vpi <? splitpath then first_operator else second_operator

-- "Opens and closes carry the operator and touch only its own connections": a number that is no operator's owns nothing
unfoldable pub owns : Record → ℕ → Name → Bool
owns r who name = who =? owner_of r.splitvci r.splitpath name
