-- The octets that a run notes of a departure are those of the line cell, whatever idle cell of 53 octets the caller lends:
-- a part of the cell memory does not depend on it.
use Prim.Native.Nat.{ℕ, ◌/◌}
use mathlib.Core.Path.{◌≡◌, refl}
use mathlib.Core.Logic.{◌≢◌}
use mathlib.Core.Bool.{Bool, true, false, not, ◌&&◌, ◌||◌}
use mathlib.Core.List.{List}
use borrow.Author.Tests.{ne_eqb}
use lib.ListN.{length}
use Rattle.meaning.specs.Plain.{when◌then◌else◌, ◌<?◌, ◌=?◌}
use Rattle.meaning.specs.Numbers.{octets, cell_start, empty}
use Rattle.meaning.specs.Work.{Work}
use Rattle.meaning.specs.Line.{Part, cell_memory, idle_cell, cells_allowed, line_part, octets_of, line_cell}
use Rattle.meaning_runs.specs.Run.{idle, shown}

-- the part that is shown, by its tests, where the number is not 65,535
abbrev part : ℕ → Bool → Bool → Bool → Part
part x a b c =
    when not (a && b && (c || false)) then record { slice = idle_cell; start = 0; long = 0 }
    else when c then record { slice = cell_memory; start = cell_start x; long = octets }
    else record { slice = idle_cell; start = 0; long = octets }

part_any : (cells mine yours : List ℕ) (x : ℕ) (a b c : Bool)
    → octets_of cells mine (part x a b c) ≡ octets_of cells yours (part x a b c)
unfolding octets_of
part_any cells mine yours x true true true = refl
part_any cells mine yours x true true false = refl
part_any cells mine yours x true false true = refl
part_any cells mine yours x true false false = refl
part_any cells mine yours x false true true = refl
part_any cells mine yours x false true false = refl
part_any cells mine yours x false false true = refl
part_any cells mine yours x false false false = refl

pub line_any : (cells mine yours : List ℕ) (x : ℕ) → length mine ≡ length yours → x ≢ empty
    → line_cell cells mine x ≡ line_cell cells yours x
unfolding line_cell line_part
line_any cells mine yours x same ne =
    rw (same, ne_eqb x empty ne)
    (part_any cells mine yours x (cells_allowed (length cells)) (length yours =? octets) (x <? length cells / octets))

pub shown_any : (w : Work) (yours : List ℕ) → length yours ≡ octets → w.answer.space ≢ empty
    → shown w ≡ line_cell w.state.cells yours w.answer.space
unfolding shown
shown_any w yours long ne =
    rw (ne_eqb w.answer.space empty ne) (line_any w.state.cells idle yours w.answer.space (rw long) ne)
