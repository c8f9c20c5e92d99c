-- The part to show, case by case from plain facts of the numbers, and that it lies within its slice.
use Prim.Native.Nat.{ℕ, ◌+◌, ◌*◌, ◌/◌, ◌%◌, ◌≤◌, ◌<◌}
use mathlib.Core.Path.{◌≡◌, refl}
use mathlib.Core.Bool.{Bool, true, false, not, ◌&&◌, ◌||◌}
use native.Mathlib.Omega.{arith}
use borrow.Author.Tests.{ne_eqb, eq-eqb, le-leb, lt-leb, le-ltb, lt-ltb, ltb-true, eqb-true}
use Rattle.meaning.specs.Plain.{when◌then◌else◌, ◌<?◌, ◌=?◌}
use Rattle.meaning.specs.Numbers.{empty}
use Rattle.meaning.specs.Line.{Slice, cell_memory, idle_cell, Part, cells_allowed, line_part}

-- "an empty part of the idle cell", "that space", "the whole idle cell"
abbrev pub empty_part : Part
empty_part = record { slice = idle_cell; start = 0; long = 0 }

abbrev pub space_part : ℕ → Part
space_part x = record { slice = cell_memory; start = 53 * x; long = 53 }

abbrev pub idle_part : Part
idle_part = record { slice = idle_cell; start = 0; long = 53 }

-- a cell memory and an idle cell of these lengths, and a number
module _ (cells idle number : ℕ) where
  pub by_rest : (cells % 53 ≡ 0 → ⊥) → line_part cells idle number ≡ empty_part
  unfolding line_part cells_allowed
  by_rest h = simp (ne_eqb (cells % 53) 0 h)

  pub by_few : cells % 53 ≡ 0 → cells / 53 < 1 → line_part cells idle number ≡ empty_part
  unfolding line_part cells_allowed
  by_few h f = simp (eq-eqb (cells % 53) 0 h, lt-leb 1 (cells / 53) f)

  pub by_many : cells % 53 ≡ 0 → 1 ≤ cells / 53 → 1024 < cells / 53 → line_part cells idle number ≡ empty_part
  unfolding line_part cells_allowed
  by_many h f g = simp (eq-eqb (cells % 53) 0 h, le-leb 1 (cells / 53) f, lt-leb (cells / 53) 1024 g)

  module _ (h : cells % 53 ≡ 0) (f : 1 ≤ cells / 53) (g : cells / 53 ≤ 1024) where
    allowed : cells_allowed cells ≡ true
    unfolding cells_allowed
    allowed = simp (eq-eqb (cells % 53) 0 h, le-leb 1 (cells / 53) f, le-leb (cells / 53) 1024 g)

    pub by_idle : (idle ≡ 53 → ⊥) → line_part cells idle number ≡ empty_part
    unfolding line_part
    by_idle n = simp (allowed, ne_eqb idle 53 n)

    pub by_space : idle ≡ 53 → number < cells / 53 → line_part cells idle number ≡ space_part number
    unfolding line_part
    by_space n o = simp (allowed, eq-eqb idle 53 n, lt-ltb number (cells / 53) o)

    pub by_number : idle ≡ 53 → cells / 53 ≤ number → (number ≡ 65535 → ⊥) → line_part cells idle number ≡ empty_part
    unfolding line_part
    by_number n o e = simp (allowed, eq-eqb idle 53 n, le-ltb number (cells / 53) o, ne_eqb number 65535 e)

    pub by_nothing : idle ≡ 53 → cells / 53 ≤ number → number ≡ 65535 → line_part cells idle number ≡ idle_part
    unfolding line_part
    by_nothing n o e = simp (allowed, eq-eqb idle 53 n, le-ltb number (cells / 53) o, eq-eqb number 65535 e)

  -- a part's end is no further than its slice's
  abbrev pub long_of : Slice → ℕ
  long_of cell_memory = cells
  long_of idle_cell = idle

  abbrev Inside : Part → Type 0
  Inside p = p.start + p.long ≤ long_of p.slice

  abbrev fits : Bool
  fits = cells_allowed cells && idle =? 53 && (number <? cells / 53 || number =? empty)

  idle_long_lem : (a b d : Bool) → (a && b && d) ≡ true → b ≡ true
  idle_long_lem true true d e = refl
  idle_long_lem true false d e = e
  idle_long_lem false true d e = refl
  idle_long_lem false false d e = e

  pub part_inside : Inside (line_part cells idle number)
  unfolding line_part
  part_inside = go fits refl (number <? cells / 53) refl
    where
      go : (a : Bool) → fits ≡ a → (b : Bool) → (number <? cells / 53) ≡ b
          → Inside (when not a then empty_part else when b then space_part number else idle_part)
      go false e b o = omega arith
      go true e true o = omega (arith, ltb-true number (cells / 53) o)
      go true e false o =
          omega (arith, eqb-true idle 53 (idle_long_lem (cells_allowed cells) (idle =? 53) (number <? cells / 53 || number =? empty) e))
