-- What is shown of a space: the line cell is its 53 octets, and the header read there is theirs.
use Prim.Native.Nat.{ℕ, ◌+◌, ◌*◌, ◌/◌, ◌%◌, ◌≤◌, ◌<◌}
use mathlib.Core.Path.{◌≡◌, refl, sym, ap, ◌∙◌}
use mathlib.Core.Bool.{true}
use mathlib.Core.List.{List}
use native.Mathlib.Nat.{mul-mod_right, mul-div_cancel_left}
use native.Mathlib.Omega.{arith}
use borrow.Author.Tests.{eq-eqb, le-leb, lt-ltb}
use lib.ListN.{length, get_or, drop}
use lib.Seq.{get_or-take, get_or-drop}
use Rattle.meaning.specs.Numbers.{octets, cell_start}
use Rattle.meaning.specs.Header.{header_at}
use Rattle.meaning.specs.Line.{cells_allowed, line_part, octets_of, line_cell}
use Rattle.theory_memory.specs.Held.{octets_in}

pub header_in_lem : (kind : ℕ) (cells : List ℕ) (x : ℕ) → header_at kind cells (cell_start x) ≡ header_at kind (octets_in cells x) 0
unfolding header_at
header_in_lem kind cells x =
    sym (rw (at 0 (omega arith), at 1 (omega arith), at 2 (omega arith), at 3 (omega arith), nought) refl)
  where
    at : (k : ℕ) → k < 53 → get_or (octets_in cells x) k 0 ≡ get_or cells (53 * x + k) 0
    at k h = get_or-take 53 (drop (53 * x) cells) k 0 h ∙ get_or-drop (53 * x) cells k 0

    nought : 53 * x + 0 ≡ 53 * x
    nought = omega arith

module _ (N : ℕ) (low : 1 ≤ N) (high : N ≤ 1_024) (cells idle : List ℕ) (long : length cells ≡ 53 * N)
    (rest : length idle ≡ 53) where
  many : length cells / octets ≡ N
  many = ap (λ (k : ℕ). k / 53) long ∙ mul-div_cancel_left N (omega arith)

  allowed : cells_allowed (length cells) ≡ true
  unfolding cells_allowed
  allowed =
      rw (
        many,
        eq-eqb (length cells % 53) 0 (ap (λ (k : ℕ). k % 53) long ∙ mul-mod_right 53 N),
        le-leb 1 N low,
        le-leb N 1_024 high,
      )

  pub line_cell_lem : (x : ℕ) → x < N → line_cell cells idle x ≡ octets_in cells x
  unfolding line_cell line_part octets_of
  line_cell_lem x h = rw (allowed, eq-eqb (length idle) 53 rest, many, lt-ltb x N h)
