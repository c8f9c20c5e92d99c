-- A cell of a burst is read where it stands among the burst's arrivals: its octets, its header and its name are those from there on.
use Prim.Native.Nat.{ℕ, ◌+◌, ◌*◌, ◌≤◌, ◌<◌}
use mathlib.Core.Path.{◌≡◌, ◌∙◌, ap}
use mathlib.Core.List.{List}
use native.Mathlib.Omega.{arith}
use native.Mathlib.Nat.{add-zero}
use borrow.Author.Tests.{ne_eqb}
use lib.ListN.{length, get_or, take, drop, length-drop}
use lib.Seq.{length-take-le, get_or-take, get_or-drop}
use Rattle.meaning.specs.Header.{header_at}
use Rattle.leaf_header.specs.Name.{name_at, Reads}
use Rattle.slot_arrive.specs.Arrival.{cell_name}

module _ (arrivals : List ℕ) (i : ℕ) (inside : 53 * i + 53 ≤ length arrivals) where
  abbrev cell : List ℕ
  cell = take 53 (drop (53 * i) arrivals)

  pub cell_long : length cell ≡ 53
  cell_long = length-take-le 53 (drop (53 * i) arrivals) (rw (length-drop (53 * i) arrivals) (omega arith))

  pub octet : (j : ℕ) → j < 53 → get_or cell j 0 ≡ get_or arrivals (53 * i + j) 0
  octet j low = get_or-take 53 (drop (53 * i) arrivals) j 0 low ∙ get_or-drop (53 * i) arrivals j 0

  module _ (kind : ℕ) where
    pub header_is : header_at kind cell 0 ≡ header_at kind arrivals (53 * i)
    unfolding header_at
    header_is = rw (first, octet 1 (omega arith), octet 2 (omega arith), octet 3 (omega arith))
      where
        first : get_or cell 0 0 ≡ get_or arrivals (53 * i) 0
        first = octet 0 (omega arith) ∙ ap (λ (j : ℕ). get_or arrivals j 0) (add-zero (53 * i))

    pub name_is : (name : ℕ) → name ≡ name_at kind arrivals (53 * i) → name ≡ cell_name kind cell
    unfolding cell_name name_at
    name_is name e = e ∙ rw (← header_is, ne_eqb (length cell) 0 (λ q. omega (arith, q, cell_long)))

    pub reads_is : (name : ℕ) → Reads kind (header_at kind arrivals (53 * i)) name → Reads kind (header_at kind cell 0) name
    reads_is name r = rw header_is r
