-- The bits once entry e is emptied, or is not: as many words, and the same spaces free.
use Prim.Native.Nat.{ℕ}
use mathlib.Core.Path.{◌≡◌, refl}
use mathlib.Core.Bool.{Bool, true, false}
use mathlib.Core.List.{List}
use lib.ListN.{length}
use Rattle.meaning.specs.Plain.{when◌then◌else◌}
use Rattle.meaning.specs.Bits.{is_free_space, spaces_fit, unmarked}
use Rattle.meaning.proofs.MarksLaws.{unmarked_length, unmarked_free, unmarked_fits}

module _ (bits : List ℕ) (e : ℕ) where
  pub clear_length : (m : Bool) → length (when m then unmarked bits e else bits) ≡ length bits
  clear_length true = unmarked_length bits e
  clear_length false = refl

  pub clear_free : (m : Bool) (x : ℕ) → is_free_space (when m then unmarked bits e else bits) x ≡ is_free_space bits x
  clear_free true x = unmarked_free bits e x
  clear_free false x = refl

  pub clear_fits : (m : Bool) (N free : ℕ) → spaces_fit N free (when m then unmarked bits e else bits) ≡ spaces_fit N free bits
  clear_fits true N free = unmarked_fits bits e N free
  clear_fits false N free = refl
