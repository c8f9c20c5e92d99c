-- `meaning::fresh_record` meets its contract: its thirteen numbers are those of `fresh_record`, raw among them as 1 or 0.
use Prim.Native.Nat.{ℕ, zero, suc, ◌+◌, ◌-◌, ◌≤◌}
use mathlib.Core.Path.{◌≡◌, refl}
use mathlib.Core.Bool.{Bool, true, false}
use native.Mathlib.Omega.{arith}
use mir.Val.{bool_byte}
use Rattle.meaning.specs.Numbers.{connections_in, nni, slot_numbers}
use Rattle.meaning.specs.Calls.{raw_number, kind_number, kind_of, fresh_record}
use Rattle.meaning.proofs.fresh_record.Goals as goal

-- a yes or no as a number
byte_is : (raw : Bool) → bool_byte raw ≡ raw_number raw
byte_is true = refl
byte_is false = refl

-- a kind by its number
kind_is : (kind : ℕ) → kind ≤ nni → kind_number (kind_of kind) ≡ kind
kind_is zero h = refl
kind_is (suc zero) h = refl
kind_is (suc (suc k)) h = absurd (omega (arith, h))

pub returns : goal.returns
unfolding fresh_record slot_numbers
returns c = rw (c.from.ensures, byte_is c.args.raw, kind_is c.args.kind c.requires.2, last) refl
  where
    last : connections_in c.args.v - 1 ≡ c.args.v + 255
    last = omega arith
