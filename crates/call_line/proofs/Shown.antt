-- What a place of numbers says of a part, and that the octets at such a place are the line cell.
use Prim.Native.Nat.{ℕ, ◌+◌, ◌-◌, ◌≤◌}
use mathlib.Core.Path.{◌≡◌, refl, sym, ◌∙◌, ap}
use mathlib.Core.List.{List}
use native.Mathlib.Nat.{le_trans, add-sub_cancel_left}
use native.Mathlib.Omega.{arith}
use lib.ListN.{length, take, drop}
use Rattle.meaning.specs.Line.{Slice, cell_memory, idle_cell, Part, line_part, octets_of, line_cell}
use Rattle.meaning.specs.Promises.{LinePromise}
use Rattle.call_line.specs.declared.Place.{Place}
use Rattle.call_line.specs.Placed.{slice_number, place_of}
use Rattle.call_line.proofs.Cases.{long_of, part_inside}

is_idle : (s : Slice) → slice_number s ≡ 1 → s ≡ idle_cell
is_idle cell_memory e = absurd (omega arith)
is_idle idle_cell e = refl

is_cells : (s : Slice) → (slice_number s ≡ 1 → ⊥) → s ≡ cell_memory
is_cells cell_memory e = refl
is_cells idle_cell e = absurd (e refl)

module _ (cells idle : List ℕ) (number : ℕ) (p : Place) (e : p ≡ place_of (line_part (length cells) (length idle) number)) where
  abbrev P : Part
  P = line_part (length cells) (length idle) number

  start_is : p.start ≡ P.start
  start_is = ap (λ (q : Place). q.start) e

  long_is : p.length ≡ P.long
  long_is = ap (λ (q : Place). q.length) e

  slice_is : p.from_idle ≡ slice_number P.slice
  slice_is = ap (λ (q : Place). q.from_idle) e

  end_is : p.start + p.length ≤ long_of (length cells) (length idle) number P.slice
  end_is = rw (start_is, long_is) (part_inside (length cells) (length idle) number)

  long_of_most : (s : Slice) → long_of (length cells) (length idle) number s ≤ length cells + length idle
  long_of_most cell_memory = omega arith
  long_of_most idle_cell = omega arith

  pub end_most : p.start + p.length ≤ length cells + length idle
  end_most = le_trans end_is (long_of_most P.slice)

  pub idle_end : p.from_idle ≡ 1 → p.start + p.length ≤ length idle
  idle_end h = rw (is_idle P.slice (sym slice_is ∙ h)) at end_is

  pub cells_end : (p.from_idle ≡ 1 → ⊥) → p.start + p.length ≤ length cells
  cells_end h = rw (is_cells P.slice (λ z. h (slice_is ∙ z))) at end_is

  -- the octets of a part at p, and where they lie
  module _ (at_cells at_idle : ℕ × ℕ) (r : List ℕ) (at : ℕ × ℕ) where
    pub idle_line : p.from_idle ≡ 1
        → r ≡ take (p.start + p.length - p.start) (drop p.start idle)
        → at.0 ≡ at_idle.0
        → at.1 ≡ at_idle.1 + p.start
        → LinePromise cells idle at_cells at_idle number r at
    unfolding line_cell octets_of
    idle_line h shows block place =
        let s = is_idle P.slice (sym slice_is ∙ h) in
        record {
          shows = rw (s, ← start_is, ← long_is) (shows ∙ rw add-sub_cancel_left);
          block = rw s block;
          place = rw (s, ← start_is) place;
        }

    pub cells_line : (p.from_idle ≡ 1 → ⊥)
        → r ≡ take (p.start + p.length - p.start) (drop p.start cells)
        → at.0 ≡ at_cells.0
        → at.1 ≡ at_cells.1 + p.start
        → LinePromise cells idle at_cells at_idle number r at
    unfolding line_cell octets_of
    cells_line h shows block place =
        let s = is_cells P.slice (λ z. h (slice_is ∙ z)) in
        record {
          shows = rw (s, ← start_is, ← long_is) (shows ∙ rw add-sub_cancel_left);
          block = rw s block;
          place = rw (s, ← start_is) place;
        }
