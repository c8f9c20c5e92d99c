-- "Setup is handed no record": of what is lent, the record makes no difference. Assumes nothing.
use Prim.Native.Nat.{ℕ}
use mathlib.Core.Path.{◌≡◌, refl}
use Rattle.meaning.specs.declared.Record.{Record}
use Rattle.meaning.specs.State.{State, with_record}
use Rattle.meaning.specs.Calls.{Asked, setup}

pub record_apart : (N z : ℕ) (a : Asked) (lent : State) (r : Record) → setup N z a (with_record lent r) ≡ setup N z a lent
unfolding setup with_record
record_apart N z a lent r = refl
