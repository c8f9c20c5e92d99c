-- The first marked entry of a stretch.
--
--   NoMark bits from to   == no entry from `from` on and below `to` is marked
--   First bits from to e  == e is the first marked entry from `from` on and below `to`
use Rattle.std.specs.Prelude.{ℕ, ◌≤◌, ◌<◌, ◌≡◌, true, false, List}
use Rattle.meaning.specs.Bits.{is_marked}

abbrev pub NoMark : List ℕ → ℕ → ℕ → Type 0
NoMark bits from to = (e : ℕ) → from ≤ e → e < to → is_marked bits e ≡ false

pub record First (bits : List ℕ) (from to e : ℕ) : Type 0 where
  pub within : (from ≤ e) × (e < to)
  pub own : is_marked bits e ≡ true
  pub none : NoMark bits from e
