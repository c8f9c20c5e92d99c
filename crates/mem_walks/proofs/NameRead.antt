-- The header of a space's cell from the octets that the code reads: they are those of `header_at`; and the number of the
-- connection that it names, by its VPI and, where that is 0, by its VCI.
use Prim.Native.Nat.{ℕ, ◌+◌, ◌*◌, ◌/◌, ◌%◌, ◌≤◌, ◌<◌}
use mathlib.Core.Path.{◌≡◌, ◌∙◌}
use mathlib.Core.Bool.{true, false}
use mathlib.Core.List.{List}
use native.Mathlib.Omega.{arith}
use lib.ListN.{get_or}
use borrow.Author.Tests.{eq-eqb, ne_eqb, lt-ltb, le-ltb, le-leb, lt-leb}
use Rattle.meaning.specs.Numbers.{paths, empty, cell_start}
use Rattle.meaning.specs.Header.{Header, vpi_high, header_of, header_at, connection, names_connection}
use Rattle.meaning.proofs.NamesLaws.{vc_number, vc_named, path_number, path_named}
use Rattle.mem_walks.specs.Walk.{name_of}

-- ── what the octets say ──
pub vpi_uni : (cells : List ℕ) (kind x o1 o2 : ℕ) → o1 ≡ get_or cells (53 * x) 0 → o2 ≡ get_or cells (53 * x + 1) 0 → kind ≡ 0
    → o1 % 16 * 16 + o2 / 16 ≡ (header_at kind cells (cell_start x)).vpi
unfolding header_at header_of vpi_high
vpi_uni cells kind x o1 o2 p q h = simp (← p, ← q, eq-eqb _ _ h)

pub vpi_nni : (cells : List ℕ) (kind x o1 o2 : ℕ) → o1 ≡ get_or cells (53 * x) 0 → o2 ≡ get_or cells (53 * x + 1) 0 → (kind ≡ 0 → ⊥)
    → o1 * 16 + o2 / 16 ≡ (header_at kind cells (cell_start x)).vpi
unfolding header_at header_of vpi_high
vpi_nni cells kind x o1 o2 p q h = simp (← p, ← q, ne_eqb _ _ h)

pub vci_read : (cells : List ℕ) (kind x o2 o3 o4 : ℕ) → o2 ≡ get_or cells (53 * x + 1) 0 → o3 ≡ get_or cells (53 * x + 2) 0
    → o4 ≡ get_or cells (53 * x + 3) 0 → o2 % 16 * 4096 + o3 * 16 + o4 / 16 ≡ (header_at kind cells (cell_start x)).vci
unfolding header_at header_of
vci_read cells kind x o2 o3 o4 p q r = simp (← p, ← q, ← r)

-- ── what it names ──
module _ (kind z : ℕ) (cells : List ℕ) (x : ℕ) where
  abbrev h : Header
  h = header_at kind cells (cell_start x)

  name_some : names_connection z h ≡ true → connection z h ≡ name_of kind z cells x
  unfolding name_of
  name_some e = rw e

  name_none : names_connection z h ≡ false → empty ≡ name_of kind z cells x
  unfolding name_of
  name_none e = rw e

  -- a path
  module _ (vpi : ℕ) (is : vpi ≡ h.vpi) where
    pub name_beyond : paths ≤ vpi → empty ≡ name_of kind z cells x
    name_beyond b =
        name_none
        (path_named z h (λ e. omega (arith, is, b, e))
        ∙ rw (le-leb 1 h.vpi (omega (arith, is, b)), le-ltb h.vpi paths (omega (arith, is, b))))

    pub name_path : vpi < paths → 0 < vpi → z + vpi ≡ name_of kind z cells x
    name_path b a =
        let n : h.vpi ≡ 0 → ⊥ = λ e. omega (arith, is, a, e) in
        let e : z + vpi ≡ connection z h = omega (arith, is, path_number z h n) in
        e
        ∙ name_some
        (path_named z h n
        ∙ rw (le-leb 1 h.vpi (omega (arith, is, a)), lt-ltb h.vpi paths (omega (arith, is, b))))

    -- a VC
    module _ (none : vpi ≤ 0) (vci : ℕ) (vci_is : vci ≡ h.vci) where
      vpi_0 : h.vpi ≡ 0
      vpi_0 = omega (arith, is, none)

      pub name_0 : vci < 1 → empty ≡ name_of kind z cells x
      name_0 a = name_none (vc_named z h vpi_0 ∙ rw (lt-leb 1 h.vci (omega (arith, vci_is, a))))

      pub name_past : 1 ≤ vci → z ≤ vci → empty ≡ name_of kind z cells x
      name_past a b =
          name_none
          (vc_named z h vpi_0
          ∙ rw (le-leb 1 h.vci (omega (arith, vci_is, a)), le-ltb h.vci z (omega (arith, vci_is, b))))

      pub name_vc : 1 ≤ vci → vci < z → vci ≡ name_of kind z cells x
      name_vc a b =
          let e : vci ≡ connection z h = omega (arith, vci_is, vc_number z h vpi_0) in
          e
          ∙ name_some
          (vc_named z h vpi_0
          ∙ rw (le-leb 1 h.vci (omega (arith, vci_is, a)), lt-ltb h.vci z (omega (arith, vci_is, b))))
