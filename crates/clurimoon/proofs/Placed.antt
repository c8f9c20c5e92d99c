-- The line's part, as `line` lends it, lies exactly where `clurimoon_line` says, and no other place is allowed.
use Prim.Native.Nat.{ℕ, ◌+◌}
use mathlib.Core.Path.{◌≡◌, refl, sym, ◌∙◌, ap}
use mathlib.Core.List.{List}
use lib.ListN.{length, take, drop}
use Rattle.meaning.specs.Plain.{when◌then◌else◌, ◌=?◌}
use Rattle.meaning.specs.Line.{Slice, cell_memory, idle_cell, Part, line_part, slice_of, octets_of, line_cell}
use Rattle.meaning.specs.Promises.{start_of, LinePromise}
use Rattle.call_line.specs.declared.Place.{Place}
use Rattle.call_line.specs.Placed.{slice_number, place_of}
use Rattle.clurimoon.specs.Places.{place_promise}

-- the slice that a place names: 1 the idle cell, otherwise the cell memory
abbrev pub slice_at : {A : Type 0} → A → A → Place → A
slice_at cells idle p = when p.from_idle =? 1 then idle else cells

-- r, which starts at `at`, is the octets at the place p, and it lies there
pub record LiesAt (cells idle : List ℕ) (at_cells at_idle : ℕ × ℕ) (p : Place) (r : List ℕ) (at : ℕ × ℕ) : Type 0 where
  pub shows : r ≡ take p.length (drop p.start (slice_at cells idle p))
  pub block : at.0 ≡ (slice_at at_cells at_idle p).0
  pub place : at.1 ≡ (slice_at at_cells at_idle p).1 + p.start

slice_octets : (cells idle : List ℕ) (q : Part) → octets_of cells idle q ≡ take q.long (drop q.start (slice_at cells idle (place_of q)))
unfolding octets_of
slice_octets cells idle q = go q.slice
  where
    go : (s : Slice)
        → take q.long (drop q.start (slice_of cells idle s))
        ≡ take q.long (drop q.start (when slice_number s =? 1 then idle else cells))
    go cell_memory = refl
    go idle_cell = refl

slice_start : (at_cells at_idle : ℕ × ℕ) (s : Slice)
    → start_of at_cells at_idle s ≡ (when slice_number s =? 1 then at_idle else at_cells)
slice_start at_cells at_idle cell_memory = refl
slice_start at_cells at_idle idle_cell = refl

pub line_lies : (cells idle : List ℕ) (at_cells at_idle : ℕ × ℕ) (number : ℕ) (p : Place) (r : List ℕ) (at : ℕ × ℕ)
    → place_promise cells idle number p
    → LinePromise cells idle at_cells at_idle number r at
    → LiesAt cells idle at_cells at_idle p r at
unfolding line_cell
line_lies cells idle at_cells at_idle number p r at e l =
    let q = line_part (length cells) (length idle) number in
    let s = slice_start at_cells at_idle q.slice in
    rw e (record {
      shows = l.shows ∙ slice_octets cells idle q;
      block = l.block ∙ ap (λ (x : ℕ × ℕ). x.0) s;
      place = l.place ∙ ap (λ (x : ℕ × ℕ). x.1 + q.start) s;
    })

-- two places that the promise allows coincide
pub place_once : (cells idle : List ℕ) (number : ℕ) (a b : Place)
    → place_promise cells idle number a
    → place_promise cells idle number b
    → a ≡ b
place_once cells idle number a b p q = p ∙ sym q
