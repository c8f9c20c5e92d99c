-- Room in the output, counted down so that nothing wraps: once over, always over.
--
--   room_of most long   == what is left of most octets when long are needed, if they suffice
--   less_of room n      == n octets less
use Rattle.std.specs.Prelude.{ℕ, ◌-◌, Option, Some, None}
use Rattle.meaning.specs.Plain.{when◌then◌else◌, ◌<?◌}

unfoldable pub room_of : ℕ → ℕ → Option ℕ
room_of most long = when most <? long then None else Some (most - long)

unfoldable pub less_of : Option ℕ → ℕ → Option ℕ
less_of None n = None
less_of (Some left) n = when left <? n then None else Some (left - n)
