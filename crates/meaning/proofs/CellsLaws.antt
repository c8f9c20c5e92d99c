-- "The cell is written into its own 53 octets of the cell memory, and every other octet keeps its value": what is read
-- of the cell memory after a write.
use Prim.Native.Nat.{ℕ, ◌+◌, ◌*◌, ◌-◌, ◌≤◌, ◌<◌}
use mathlib.Core.Path.{◌≡◌, sym, ◌∙◌, ap}
use mathlib.Core.Logic.{◌≢◌}
use mathlib.Core.List.{List, ◌++◌}
use native.Mathlib.Omega.{arith}
use native.Mathlib.Decide.{dec_lt}
use lib.ListN.{length, get_or, take, drop, length-append, length-take, length-drop, get_or-append}
use lib.Seq.{length-take-le, get_or-append-add, get_or-take, get_or-drop, ext_get_or, take_at, drop_at}
use Rattle.meaning.specs.Numbers.{cell_start}
use Rattle.meaning.specs.State.{write_cell}
use Rattle.meaning.specs.Header.{header_at}

module _ (cells : List ℕ) (x : ℕ) (cell : List ℕ) (inside : 53 * x + 53 ≤ length cells) (long : length cell ≡ 53) where
  front : length (take (53 * x) cells) ≡ 53 * x
  front = length-take-le (53 * x) cells (omega arith)

  pub cell_length : length (write_cell cells x cell) ≡ length cells
  unfolding write_cell
  cell_length =
      simp (length-append, length-drop) (omega (arith, front))

  -- an octet before the space
  pub cell_before_lem : (j : ℕ) → j < 53 * x → get_or (write_cell cells x cell) j 0 ≡ get_or cells j 0
  unfolding write_cell
  cell_before_lem j h =
      get_or-append (take (53 * x) cells) _ 0 j (omega (arith, front))
      ∙ get_or-take (53 * x) cells j 0 h

  -- an octet of the space
  pub cell_own : (k : ℕ) → k < 53 → get_or (write_cell cells x cell) (53 * x + k) 0 ≡ get_or cell k 0
  unfolding write_cell
  cell_own k h =
      ap (λ (n : ℕ). get_or (take (53 * x) cells ++ (cell ++ drop (53 * x + 53) cells)) (n + k) 0) (sym front)
      ∙ get_or-append-add (take (53 * x) cells) (cell ++ drop (53 * x + 53) cells) k 0
      ∙ get_or-append cell (drop (53 * x + 53) cells) 0 k (omega arith)

  -- an octet after it
  pub cell_after : (j : ℕ) → 53 * x + 53 ≤ j → get_or (write_cell cells x cell) j 0 ≡ get_or cells j 0
  unfolding write_cell
  cell_after j h =
      ap (λ (n : ℕ). get_or (take (53 * x) cells ++ (cell ++ drop (53 * x + 53) cells)) n 0) (omega (arith, front))
      ∙ get_or-append-add (take (53 * x) cells) (cell ++ drop (53 * x + 53) cells) (length cell + (j - (53 * x + 53))) 0
      ∙ get_or-append-add cell (drop (53 * x + 53) cells) (j - (53 * x + 53)) 0
      ∙ get_or-drop (53 * x + 53) cells (j - (53 * x + 53)) 0
      ∙ ap (λ (n : ℕ). get_or cells n 0) (omega arith)

  -- an octet of another space
  pub cell_other : (y k : ℕ) → y ≢ x → k < 53 → get_or (write_cell cells x cell) (53 * y + k) 0 ≡ get_or cells (53 * y + k) 0
  cell_other y k ne h = go (dec_lt y x)
    where
      go : Dec (y < x) → get_or (write_cell cells x cell) (53 * y + k) 0 ≡ get_or cells (53 * y + k) 0
      go (yes b) = cell_before_lem (53 * y + k) (omega arith)
      go (no b) = cell_after (53 * y + k) (omega arith)

  -- the header in the space, and in another space
  pub header_own : (kind : ℕ) → header_at kind (write_cell cells x cell) (cell_start x) ≡ header_at kind cell 0
  unfolding header_at
  header_own kind =
      rw (first, cell_own 1 (omega arith), cell_own 2 (omega arith), cell_own 3 (omega arith))
    where
      first : get_or (write_cell cells x cell) (53 * x) 0 ≡ get_or cell 0 0
      first = ap (λ (n : ℕ). get_or (write_cell cells x cell) n 0) (omega arith) ∙ cell_own 0 (omega arith)

  pub header_other : (kind y : ℕ) → y ≢ x → header_at kind (write_cell cells x cell) (cell_start y) ≡ header_at kind cells (cell_start y)
  unfolding header_at
  header_other kind y ne =
      rw (first, cell_other y 1 ne (omega arith), cell_other y 2 ne (omega arith), cell_other y 3 ne (omega arith))
    where
      first : get_or (write_cell cells x cell) (53 * y) 0 ≡ get_or cells (53 * y) 0
      first =
          ap (λ (n : ℕ). get_or (write_cell cells x cell) n 0) (omega arith)
          ∙ cell_other y 0 ne (omega arith)
          ∙ ap (λ (n : ℕ). get_or cells n 0) (omega arith)

  -- the 53 octets of the space, and of another space
  pub octets_own : take 53 (drop (53 * x) (write_cell cells x cell)) ≡ cell
  unfolding write_cell
  octets_own = rw (drop_at (take (53 * x) cells) (cell ++ drop (53 * x + 53) cells) (53 * x) front) (take_at cell _ 53 long)

  pub octets_other : (y : ℕ) → y ≢ x → take 53 (drop (53 * y) (write_cell cells x cell)) ≡ take 53 (drop (53 * y) cells)
  octets_other y ne =
      ext_get_or 0 _ _
      (simp (length-take, length-drop) (omega (arith, cell_length)))
      (λ k h. let s : k < 53 = omega (arith, length-take 53 (drop (53 * y) (write_cell cells x cell))) in
      get_or-take 53 (drop (53 * y) (write_cell cells x cell)) k 0 s
      ∙ get_or-drop (53 * y) (write_cell cells x cell) k 0
      ∙ cell_other y k ne s
      ∙ sym (get_or-drop (53 * y) cells k 0)
      ∙ sym (get_or-take 53 (drop (53 * y) cells) k 0 s))
