-- The likely ways' writes over plain lists: an entry whose tail stays.
use Prim.Native.Nat.{ℕ, ◌+◌, ◌*◌}
use mathlib.Core.Path.{◌≡◌, sym, ◌∙◌, ap}
use mathlib.Core.Logic.{◌≢◌}
use mathlib.Core.List.{List}
use native.Mathlib.Omega.{arith}
use borrow.Author.Tests.{eq-eqb, ne_eqb}
use lib.ListN.{get_or, set}
use lib.Seq.{get_or-set_other, set-get_or}
use Rattle.meaning.specs.Plain.{when◌then◌else◌, ◌=?◌}
use Rattle.meaning.specs.Numbers.{empty}
use Rattle.meaning.specs.Lists.{write_entry}
use Rattle.mem_lists.specs.Spaces.{ends_of}

-- an entry's head is written, and its tail where it was empty
module _ (calendar : List ℕ) (e x head : ℕ) where
  pub entry_empty : head ≡ 65535
      → set (set calendar (2 * e) x) (2 * e + 1) x
      ≡ write_entry calendar e (ends_of x (when head =? empty then x else get_or calendar (2 * e + 1) 0))
  unfolding write_entry
  entry_empty q = simp (eq-eqb head 65535 q)

  tail_kept : get_or (set calendar (2 * e) x) (2 * e + 1) 0 ≡ get_or calendar (2 * e + 1) 0
  tail_kept = get_or-set_other calendar (2 * e) (2 * e + 1) x 0 (λ q. omega arith)

  pub entry_marked : head ≢ 65535
      → set calendar (2 * e) x
      ≡ write_entry calendar e (ends_of x (when head =? empty then x else get_or calendar (2 * e + 1) 0))
  unfolding write_entry
  entry_marked ne =
      simp (ne_eqb head 65535 ne)
      (sym (set-get_or (set calendar (2 * e) x) (2 * e + 1) 0) ∙ ap (set (set calendar (2 * e) x) (2 * e + 1)) tail_kept)
