-- An open or close that answers 0 names a connection, and that connection is the caller's: of every record and all words. Assumes nothing.
use Prim.Native.Nat.{ℕ}
use mathlib.Core.Path.{◌≡◌, refl}
use mathlib.Core.Bool.{Bool, true, false, not}
use mathlib.Core.List.{List}
use borrow.Author.Tests.{eqb-true, eqb-false}
use Rattle.meaning.specs.declared.Record.{Record}
use Rattle.meaning.specs.Plain.{when◌then◌else◌, ◌=?◌}
use Rattle.meaning.specs.Header.{Name, named}
use Rattle.meaning.specs.Operators.{owns}
use Rattle.meaning.specs.Words.{Second}
use Rattle.meaning.specs.Calls.{Called, called_of, shared_refusal, open_call, close_call}
use Rattle.meaning.proofs.OperatorsLaws.{shared_owned}

none_shared : (k : ℕ) (words : List ℕ) (rest : Called) (b : Bool) → k =? 0 ≡ b → (when not b then called_of k words else rest).number ≡ 0 → k ≡ 0
none_shared k words rest true e f = eqb-true k 0 e
none_shared k words rest false e f = f

module _ (r : Record) (words : List ℕ) (who : ℕ) (name : Name) where
  pub open_owned : (m F C : ℕ) (x : Second) → (open_call r words who name m F C x).number ≡ 0
      → (named r.v name ≡ true) × (owns r who name ≡ true)
  unfolding open_call
  open_owned m F C x e =
      let k = shared_refusal r words who name in
      shared_owned r words who name (none_shared k words _ (k =? 0) refl e)

  pub close_owned : (close_call r words who name).number ≡ 0 → (named r.v name ≡ true) × (owns r who name ≡ true)
  unfolding close_call
  close_owned e =
      let k = shared_refusal r words who name in
      shared_owned r words who name (none_shared k words _ (k =? 0) refl e)
