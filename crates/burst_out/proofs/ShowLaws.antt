-- A slot's line cell, shown into its own octets: a departing cell is copied there, and where nothing departs they stay.
use Prim.Native.Nat.{ℕ, ◌+◌, ◌*◌, ◌/◌, ◌%◌, ◌≤◌, ◌<◌}
use mathlib.Core.Path.{◌≡◌, refl, sym, ◌∙◌, ap}
use mathlib.Core.Bool.{Bool, true, false, ◌&&◌}
use mathlib.Core.List.{List, ◌++◌}
use native.Mathlib.Omega.{arith}
use borrow.Author.Tests.{eq-eqb, leb-true, lt-ltb, le-ltb}
use lib.ListN.{length, take, drop, length-drop, take-append-drop}
use lib.Seq.{length-take-le, take_all, drop-drop}
use Rattle.meaning.specs.Plain.{◌≤?◌, ◌=?◌}
use Rattle.meaning.specs.Numbers.{octets, most_n}
use Rattle.meaning.specs.State.{write_cell}
use Rattle.meaning.specs.Line.{cells_allowed, line_part, octets_of, line_cell}
use Rattle.burst_out.specs.Handout.{own_octets, shown_into}

both_true : (a b : Bool) → a && b ≡ true → (a ≡ true) × (b ≡ true)
both_true true b e = (refl, e)
both_true false b e = absurd (let w : ◌≡◌ {A = ℕ} 0 1 = cc in omega arith)

module _ (departures : List ℕ) (i : ℕ) (inside : 53 * i + 53 ≤ length departures) where
  own_long : length (own_octets departures i) ≡ 53
  unfolding own_octets
  own_long = length-take-le 53 (drop (53 * i) departures) (rw length-drop (omega arith))

  own_put : write_cell departures i (own_octets departures i) ≡ departures
  unfolding write_cell own_octets
  own_put =
      ap (λ (l : List ℕ). take (53 * i) departures ++ (take 53 (drop (53 * i) departures) ++ l)) (sym (drop-drop 53 (53 * i) departures))
      ∙ ap (λ (l : List ℕ). take (53 * i) departures ++ l) (take-append-drop 53 (drop (53 * i) departures))
      ∙ take-append-drop (53 * i) departures

  module _ (cells : List ℕ) (allowed : cells_allowed (length cells) ≡ true) where
    -- the departing cell
    pub shown_cell : (space : ℕ) → space < length cells / 53
        → shown_into departures i cells space ≡ write_cell departures i (take 53 (drop (53 * space) cells))
    unfolding shown_into line_cell line_part octets_of
    shown_cell space low =
        simp (allowed, eq-eqb (length (own_octets departures i)) 53 own_long, lt-ltb space (length cells / 53) low)

    -- nothing departs
    few : length cells / 53 ≤ 65535
    unfolding cells_allowed
    few =
        let b = both_true (length cells % octets =? 0 && 1 ≤? length cells / octets) (length cells / octets ≤? most_n) allowed in
        omega (arith, leb-true (length cells / 53) 1024 b.1)

    pub shown_none : (space : ℕ) → space ≡ 65535 → shown_into departures i cells space ≡ departures
    unfolding shown_into line_cell line_part octets_of
    shown_none space none =
        simp (allowed, eq-eqb (length (own_octets departures i)) 53 own_long, le-ltb space (length cells / 53) (omega (arith, few, none)), eq-eqb space 65535 none)
        (ap (write_cell departures i) (take_all 53 (own_octets departures i) (omega (arith, own_long))) ∙ own_put)
