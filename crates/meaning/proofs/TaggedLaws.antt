-- A tagged cell (document 02 (iv)): as long as it was, with the same VPI and VCI, CLP 1, and an octet 5 that passes the check.
use Prim.Native.Nat.{ℕ, ◌+◌, ◌*◌, ◌/◌, ◌<◌}
use mathlib.Core.Path.{◌≡◌, refl, sym, ◌∙◌, ap}
use mathlib.Core.Bool.{Bool, true, false}
use mathlib.Core.List.{List}
use native.Mathlib.Omega.{arith}
use lib.ListN.{length, get_or, set, length-set}
use lib.Seq.{get_or-set_same, get_or-set_other}
use lib.Bits.{bit_xor, xor_self}
use Rattle.base_hec.specs.Check.{check_of, head_of, hec_of, syndrome_of}
use Rattle.meaning.specs.Plain.{when◌then◌else◌, ◌=?◌}
use Rattle.meaning.specs.Numbers.{tagged}
use Rattle.meaning.specs.Header.{header_of, header_at, clp_in, with_clp, tagged_cell, connection, names_connection}
use Rattle.meaning.proofs.NamesLaws.{same_connection, same_named}
use Rattle.meaning.specs.Arrival.{sent_as}

pub tagged_length : (cell : List ℕ) → length (tagged_cell cell) ≡ length cell
unfolding tagged_cell with_clp
tagged_length cell = simp length-set

module _ (cell : List ℕ) (long : 4 < length cell) where
  -- octets 1 to 3 and those after the header
  pub tagged_same : (k : ℕ) → (k ≡ 3 → ⊥) → (k ≡ 4 → ⊥) → get_or (tagged_cell cell) k 0 ≡ get_or cell k 0
  unfolding tagged_cell with_clp
  tagged_same k three four =
      get_or-set_other (with_clp cell) 4 k (hec_of (with_clp cell)) 0 four
      ∙ get_or-set_other cell 3 k (get_or cell 3 0 / 2 * 2 + 1) 0 three

  pub tagged_four : get_or (tagged_cell cell) 3 0 ≡ get_or cell 3 0 / 2 * 2 + 1
  unfolding tagged_cell with_clp
  tagged_four =
      get_or-set_other (with_clp cell) 4 3 (hec_of (with_clp cell)) 0 (λ e. omega arith)
      ∙ get_or-set_same cell 3 (get_or cell 3 0 / 2 * 2 + 1) 0 (omega arith)

  pub tagged_five : get_or (tagged_cell cell) 4 0 ≡ hec_of (with_clp cell)
  unfolding tagged_cell with_clp
  tagged_five = get_or-set_same (with_clp cell) 4 (hec_of (with_clp cell)) 0 (simp length-set long)

  -- it names what it named
  pub tagged_vpi : (kind : ℕ) → (header_at kind (tagged_cell cell) 0).vpi ≡ (header_at kind cell 0).vpi
  unfolding header_at header_of
  tagged_vpi kind = rw (tagged_same 0 (λ e. omega arith) (λ e. omega arith), tagged_same 1 (λ e. omega arith) (λ e. omega arith))

  pub tagged_vci : (kind : ℕ) → (header_at kind (tagged_cell cell) 0).vci ≡ (header_at kind cell 0).vci
  unfolding header_at header_of
  tagged_vci kind =
      rw (tagged_same 1 (λ e. omega arith) (λ e. omega arith), tagged_same 2 (λ e. omega arith) (λ e. omega arith), tagged_four)
      (omega arith)

  pub tagged_clp : clp_in (tagged_cell cell) ≡ 1
  unfolding clp_in
  tagged_clp = rw tagged_four (omega arith)

  -- the four octets as one number: octet 4 is its low octet
  pub tagged_head : head_of (with_clp cell) ≡ head_of cell / 2 * 2 + 1
  unfolding head_of with_clp
  tagged_head =
      rw (
        get_or-set_other cell 3 0 (get_or cell 3 0 / 2 * 2 + 1) 0 (λ e. omega arith),
        get_or-set_other cell 3 1 (get_or cell 3 0 / 2 * 2 + 1) 0 (λ e. omega arith),
        get_or-set_other cell 3 2 (get_or cell 3 0 / 2 * 2 + 1) 0 (λ e. omega arith),
        get_or-set_same cell 3 (get_or cell 3 0 / 2 * 2 + 1) 0 (omega arith),
      )
      (omega arith)

  -- octet 5 belongs to the four octets before it
  same_head : head_of (tagged_cell cell) ≡ head_of (with_clp cell)
  unfolding head_of tagged_cell with_clp
  same_head =
      simp (
        get_or-set_other (with_clp cell) 4 0 (hec_of (with_clp cell)) 0 (λ e. omega arith),
        get_or-set_other (with_clp cell) 4 1 (hec_of (with_clp cell)) 0 (λ e. omega arith),
        get_or-set_other (with_clp cell) 4 2 (hec_of (with_clp cell)) 0 (λ e. omega arith),
        get_or-set_other (with_clp cell) 4 3 (hec_of (with_clp cell)) 0 (λ e. omega arith),
      )

  pub tagged_checks : get_or (tagged_cell cell) 4 0 ≡ hec_of (tagged_cell cell)
  unfolding hec_of
  tagged_checks = tagged_five ∙ ap check_of (sym same_head)

  pub tagged_passes : syndrome_of (tagged_cell cell) ≡ 0
  unfolding syndrome_of
  tagged_passes = ap (bit_xor (hec_of (tagged_cell cell))) tagged_checks ∙ xor_self (hec_of (tagged_cell cell))

  -- octet 4 and octet 5 stored over a copy
  pub tagged_stored : (copy : List ℕ) (four head five : ℕ) → copy ≡ cell → four ≡ get_or cell 3 0 / 2 * 2 + 1 → head ≡ head_of cell
      → five ≡ check_of (head / 2 * 2 + 1)
      → set (set copy 3 four) 4 five ≡ tagged_cell cell
  unfolding tagged_cell hec_of with_clp
  tagged_stored copy four head five same o4 h o5 =
      rw (same, o4, o5, h) (stored ∙ ap (λ (k : ℕ). set (with_clp cell) 4 (check_of k)) (sym tagged_head))
    where
      stored : set (set cell 3 (get_or cell 3 0 / 2 * 2 + 1)) 4 (check_of (head_of cell / 2 * 2 + 1))
          ≡ set (with_clp cell) 4 (check_of (head_of cell / 2 * 2 + 1))
      stored = refl

-- what is stored of a cell that is let in, tagged or not
pub sent_length : (verdict : ℕ) (cell : List ℕ) → length (sent_as verdict cell) ≡ length cell
unfolding sent_as
sent_length verdict cell = go (verdict =? tagged)
  where
    go : (b : Bool) → length (when b then tagged_cell cell else cell) ≡ length cell
    go true = tagged_length cell
    go false = refl

pub sent_vpi : (kind verdict : ℕ) (cell : List ℕ) → 4 < length cell
    → (header_at kind (sent_as verdict cell) 0).vpi ≡ (header_at kind cell 0).vpi
unfolding sent_as
sent_vpi kind verdict cell long = go (verdict =? tagged)
  where
    go : (b : Bool) → (header_at kind (when b then tagged_cell cell else cell) 0).vpi ≡ (header_at kind cell 0).vpi
    go true = tagged_vpi cell long kind
    go false = refl

pub sent_vci : (kind verdict : ℕ) (cell : List ℕ) → 4 < length cell
    → (header_at kind (sent_as verdict cell) 0).vci ≡ (header_at kind cell 0).vci
unfolding sent_as
sent_vci kind verdict cell long = go (verdict =? tagged)
  where
    go : (b : Bool) → (header_at kind (when b then tagged_cell cell else cell) 0).vci ≡ (header_at kind cell 0).vci
    go true = tagged_vci cell long kind
    go false = refl

-- it names the connection that it named
pub sent_connection : (kind z verdict : ℕ) (cell : List ℕ) → 4 < length cell
    → connection z (header_at kind (sent_as verdict cell) 0) ≡ connection z (header_at kind cell 0)
sent_connection kind z verdict cell long =
    same_connection z (header_at kind (sent_as verdict cell) 0) (header_at kind cell 0)
    (sent_vpi kind verdict cell long) (sent_vci kind verdict cell long)

pub sent_named : (kind z verdict : ℕ) (cell : List ℕ) → 4 < length cell
    → names_connection z (header_at kind (sent_as verdict cell) 0) ≡ names_connection z (header_at kind cell 0)
sent_named kind z verdict cell long =
    same_named z (header_at kind (sent_as verdict cell) 0) (header_at kind cell 0)
    (sent_vpi kind verdict cell long) (sent_vci kind verdict cell long)
