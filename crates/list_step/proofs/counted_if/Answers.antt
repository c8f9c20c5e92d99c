-- `list_step::counted_if` counts one more or none, modulo 2^32.
use Rattle.std.proofs.Common.{◌≡◌, Bool, true, false, refl}
use mir.Val.{bool_byte}
use Rattle.meaning.specs.Plain.{when◌then◌else◌}
use Rattle.meaning.specs.Numbers.{slot_numbers}
use Rattle.list_whole.specs.Run.{counted_if}
use Rattle.list_step.proofs.counted_if.Goals as goal

-- a test as a number
as_number : (b : Bool) → bool_byte b ≡ (when b then 1 else 0)
as_number true = refl
as_number false = refl

pub returns : goal.returns
unfolding counted_if slot_numbers
returns c = rw (c.from.ensures, as_number c.args.on)
