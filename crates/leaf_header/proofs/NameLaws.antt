-- VPI and VCI as one number: of four octets it is their 28 bits before PTI, or the 24 after GFC at the UNI; it is 0 exactly where
-- it is no user cell, and the connection that a header names can be told from it. By the kind's mask it is cut as by the kind itself.
use Prim.Native.Nat.{ℕ, ◌+◌, ◌*◌, ◌/◌, ◌%◌, ◌≤◌, ◌<◌}
use mathlib.Core.Path.{◌≡◌, refl, sym, ◌∙◌, ap}
use mathlib.Core.Logic.{◌≢◌}
use mathlib.Core.Bool.{Bool, true, false, ◌&&◌}
use mathlib.Core.List.{List}
use native.Mathlib.Omega.{arith}
use native.Mathlib.Decide.{dec_lt, ℕ_discrete}
use native.Mathlib.Nat.{mod-eq_of_lt}
use borrow.Author.Tests.{eqb-true, leb-true, lt-ltb, le-ltb, le-leb, lt-leb, eq-eqb, ne_eqb}
use lib.Bits.{bit_and, and_mask}
use lib.ListN.{get_or}
use Rattle.meaning.specs.Plain.{when◌then◌else◌, ◌≤?◌, ◌=?◌}
use Rattle.meaning.specs.Numbers.{most_v, kind_in_range}
use Rattle.meaning.specs.Header.{Header, vpi_high, header_of, header_at, no_user_cell, connection, names_connection}
use Rattle.meaning.proofs.NamesLaws.{vc_number, vc_named, path_number, path_named}
use Rattle.leaf_header.specs.Name.{name_of, no_name, name_at, word_at, name_in, mask_for, Reads, number_for, numbered}

-- ---- the two kinds
kind_low : (kind : ℕ) → kind_in_range kind ≡ true → kind ≤ 1
unfolding kind_in_range
kind_low kind k = leb-true kind 1 k

pub in_uni : (kind head : ℕ) → kind ≡ 0 → head / 16 % 16777216 ≡ name_in kind head
unfolding name_in
in_uni kind head e = rw (eq-eqb kind 0 e)

pub in_nni : (kind head : ℕ) → kind ≢ 0 → head / 16 ≡ name_in kind head
unfolding name_in
in_nni kind head ne = rw (ne_eqb kind 0 ne)

-- ---- four octets, the first with GFC at the UNI, the last with PTI and CLP
module _ (l : List ℕ) (i : ℕ)
    (p : get_or l i 0 < 256)
    (q : get_or l (i + 1) 0 < 256)
    (r : get_or l (i + 2) 0 < 256)
    (s : get_or l (i + 3) 0 < 256) where
  name_uni : (kind : ℕ) → kind ≡ 0
      → (word_at l i / 16 % 16777216 ≡ name_at kind l i) × Reads kind (header_at kind l i) (word_at l i / 16 % 16777216)
  unfolding word_at name_at kind_in_range name_of header_at header_of vpi_high
  name_uni kind e =
      rw e (
        omega (arith, p, q, r, s),
        λ _. (omega (arith, p, q, r, s), omega (arith, p, q, r, s)),
      )

  name_nni : (kind : ℕ) → kind ≡ 1
      → (word_at l i / 16 ≡ name_at kind l i) × Reads kind (header_at kind l i) (word_at l i / 16)
  unfolding word_at name_at kind_in_range name_of header_at header_of vpi_high
  name_nni kind e =
      rw e (
        omega (arith, p, q, r, s),
        λ _. (omega (arith, p, q, r, s), omega (arith, p, q, r, s)),
      )

  name_both : (kind : ℕ) → kind_in_range kind ≡ true
      → (name_in kind (word_at l i) ≡ name_at kind l i) × Reads kind (header_at kind l i) (name_in kind (word_at l i))
  name_both kind k = go (ℕ_discrete kind 0)
    where
      go : Dec (kind ≡ 0) → (name_in kind (word_at l i) ≡ name_at kind l i) × Reads kind (header_at kind l i) (name_in kind (word_at l i))
      go (yes e) = rw (← in_uni kind (word_at l i) e) (name_uni kind e)
      go (no ne) = rw (← in_nni kind (word_at l i) ne) (name_nni kind (omega (arith, ne, kind_low kind k)))

  -- w is that word
  pub word_names : (w : ℕ) → w ≡ word_at l i → (kind : ℕ) → kind_in_range kind ≡ true → name_in kind w ≡ name_at kind l i
  word_names w e kind k = ap (name_in kind) e ∙ (name_both kind k).0

  pub word_reads : (w : ℕ) → w ≡ word_at l i → (kind : ℕ) → Reads kind (header_at kind l i) (name_in kind w)
  word_reads w e kind k = rw e ((name_both kind k).1 k)

-- ---- the name by a mask: at the UNI it cuts GFC, at the NNI it keeps all, as a header's number has 28 bits before PTI and CLP
pub name_by : (kind mask head : ℕ) → kind_in_range kind ≡ true → mask ≡ mask_for kind → head < 4294967296
    → bit_and (head / 16) mask ≡ name_in kind head
unfolding mask_for
name_by kind mask head k m low = go (ℕ_discrete kind 0)
  where
    go : Dec (kind ≡ 0) → bit_and (head / 16) mask ≡ name_in kind head
    go (yes e) =
        ap (bit_and (head / 16)) (m ∙ rw (eq-eqb kind 0 e)) ∙ and_mask (head / 16) 24 ∙ in_uni kind head e
    go (no ne) =
        ap (bit_and (head / 16)) (m ∙ rw (ne_eqb kind 0 ne)) ∙ and_mask (head / 16) 28
        ∙ mod-eq_of_lt {n = head / 16} {m = 268435456} (omega (arith, low)) ∙ in_nni kind head ne

-- ---- by the kind, as tested
pub kind_uni : (kind : ℕ) → kind ≡ 0 → kind_in_range kind ≡ true
unfolding kind_in_range
kind_uni kind e = le-leb kind 1 (omega (arith, e))

pub kind_nni : (kind : ℕ) → kind ≡ 1 → kind_in_range kind ≡ true
unfolding kind_in_range
kind_nni kind e = le-leb kind 1 (omega (arith, e))

kind_none : (kind : ℕ) → kind ≢ 0 → kind ≢ 1 → kind_in_range kind ≡ false
unfolding kind_in_range
kind_none kind a b = lt-leb kind 1 (omega (arith, a, b))

pub name_none_at : (kind : ℕ) (l : List ℕ) (i : ℕ) → kind ≢ 0 → kind ≢ 1
    → (no_name ≡ name_at kind l i) × Reads kind (header_at kind l i) no_name
unfolding name_at
name_none_at kind l i a b =
    let e = kind_none kind a b in
    (rw e, λ f. absurd (let y : ◌≡◌ {A = Bool} true false = sym f ∙ e in let w : ◌≡◌ {A = ℕ} 0 1 = cc in omega arith))

-- ---- no user cell
first : (a b : Bool) → a && b ≡ true → a ≡ true
first true b p = refl
first false b p = p

pub second : (a b : Bool) → a && b ≡ true → b ≡ true
second true b p = p
second false true p = refl
second false false p = p

pub name_none : (h : Header) → name_of h ≡ 0 → no_user_cell h ≡ true
unfolding name_of no_user_cell
name_none h e = simp (eq-eqb h.vpi 0 (omega arith), eq-eqb h.vci 0 (omega arith))

pub none_name : (h : Header) → no_user_cell h ≡ true → name_of h ≡ 0
unfolding name_of no_user_cell
none_name h e =
    let p = eqb-true h.vpi 0 (first (h.vpi =? 0) (h.vci =? 0) e) in
    let q = eqb-true h.vci 0 (second (h.vpi =? 0) (h.vci =? 0) e) in
    omega arith

pub name_user : (h : Header) → name_of h ≢ 0 → no_user_cell h ≡ false
name_user h ne = go (no_user_cell h) refl
  where
    go : (b : Bool) → no_user_cell h ≡ b → no_user_cell h ≡ false
    go true e = absurd (ne (none_name h e))
    go false e = e

-- ---- the connection that a name stands for
pub number_vc : (z name : ℕ) → name < z → name ≡ number_for z name
unfolding number_for
number_vc z name h = rw (lt-ltb name z h)

pub number_path : (z name : ℕ) → z ≤ name → name / 65536 ≢ 0 → name / 65536 < 256 → z + name / 65536 ≡ number_for z name
unfolding number_for
number_path z name h some low = rw (le-ltb name z h, ne_eqb _ 0 some, lt-ltb (name / 65536) 256 low)

pub number_high : (z name : ℕ) → z ≤ name → name / 65536 ≢ 0 → 256 ≤ name / 65536 → 0 ≡ number_for z name
unfolding number_for
number_high z name h some high = rw (le-ltb name z h, ne_eqb _ 0 some, le-ltb (name / 65536) 256 high)

pub number_past : (z name : ℕ) → z ≤ name → name / 65536 ≡ 0 → 0 ≡ number_for z name
unfolding number_for
number_past z name h none = rw (le-ltb name z h, eq-eqb _ 0 none)

-- no header has this name
pub number_no_name : (z : ℕ) → z ≤ most_v → number_for z no_name ≡ 0
number_no_name z few = sym (number_high z no_name (omega arith) (λ e. omega arith) (omega arith))

-- ---- from the header: a VC where the VPI is 0, else a path
and_false : (b : Bool) → b && false ≡ false
and_false true = refl
and_false false = refl

module _ (z : ℕ) (h : Header) (few : z ≤ most_v) (small : h.vci < 65536) where
  by_vci_lem : h.vpi ≡ 0 → number_for z (name_of h) ≡ (when names_connection z h then connection z h else 0)
  unfolding name_of
  by_vci_lem e = go (dec_lt h.vci z) (ℕ_discrete h.vci 0)
    where
      name : h.vpi * 65536 + h.vci ≡ h.vci
      name = omega (arith, e)

      go : Dec (h.vci < z) → Dec (h.vci ≡ 0)
          → number_for z (h.vpi * 65536 + h.vci) ≡ (when names_connection z h then connection z h else 0)
      go (yes low) (yes none) =
          rw (name, vc_named z h e, vc_number z h e) (rw none (sym (number_vc z 0 (omega (arith, low, none)))))
      go (yes low) (no some) =
          rw (name, vc_named z h e, vc_number z h e, le-leb 1 h.vci (omega (arith, some)), lt-ltb h.vci z low)
          (sym (number_vc z h.vci low))
      go (no high) k =
          rw (name, vc_named z h e, vc_number z h e, le-ltb h.vci z (omega (arith, high)), and_false (1 ≤? h.vci))
          (sym (number_past z h.vci (omega (arith, high)) (omega (arith, small))))

  by_vpi_lem : h.vpi ≢ 0 → number_for z (name_of h) ≡ (when names_connection z h then connection z h else 0)
  unfolding name_of
  by_vpi_lem ne = go (dec_lt h.vpi 256)
    where
      name : ℕ
      name = h.vpi * 65536 + h.vci

      vpi_is : (h.vpi * 65536 + h.vci) / 65536 ≡ h.vpi
      vpi_is = omega (arith, small)

      past : z ≤ h.vpi * 65536 + h.vci
      past = omega (arith, ne, few)

      go : Dec (h.vpi < 256)
          → number_for z (h.vpi * 65536 + h.vci) ≡ (when names_connection z h then connection z h else 0)
      go (yes low) =
          rw (path_named z h ne, path_number z h ne, le-leb 1 h.vpi (omega (arith, ne)), lt-ltb h.vpi 256 low)
          (sym (number_path z _ past (λ f. ne (sym vpi_is ∙ f)) (rw vpi_is low)) ∙ ap (λ (k : ℕ). z + k) vpi_is)
      go (no high) =
          rw (path_named z h ne, le-ltb h.vpi 256 (omega (arith, high)), and_false (1 ≤? h.vpi))
          (sym (number_high z _ past (λ f. ne (sym vpi_is ∙ f)) (rw vpi_is (omega (arith, high)))))

  pub number_named : number_for z (name_of h) ≡ (when names_connection z h then connection z h else 0)
  number_named = go (ℕ_discrete h.vpi 0)
    where
      go : Dec (h.vpi ≡ 0) → number_for z (name_of h) ≡ (when names_connection z h then connection z h else 0)
      go (yes e) = by_vci_lem e
      go (no ne) = by_vpi_lem ne

-- ---- where the kind is one, and where it is none; what is read at a place
module _ (kind z : ℕ) where
  pub numbered_is : z ≤ most_v → (l : List ℕ) (i name : ℕ) → name ≡ name_at kind l i → Reads kind (header_at kind l i) name
      → number_for z name ≡ numbered kind z (header_at kind l i)
  unfolding numbered name_at
  numbered_is few l i name e f = go (kind_in_range kind) refl
    where
      go : (b : Bool) → kind_in_range kind ≡ b → number_for z name ≡ numbered kind z (header_at kind l i)
      go true k =
          let small : (header_at kind l i).vci < 65536 = omega (arith, (f k).0) in
          rw k (ap (number_for z) (rw k at e) ∙ number_named z (header_at kind l i) few small)
      go false k = rw k (ap (number_for z) (rw k at e) ∙ number_no_name z few)

  pub numbered_yes : (h : Header) → kind_in_range kind ≡ true → names_connection z h ≡ true → numbered kind z h ≡ connection z h
  unfolding numbered
  numbered_yes h k e = rw (k, e)

  pub numbered_no : (h : Header) → names_connection z h ≡ false → numbered kind z h ≡ 0
  unfolding numbered
  numbered_no h e = rw (e, and_false (kind_in_range kind))

  pub numbered_fits : (h : Header) → kind_in_range kind ≡ true → numbered kind z h ≡ (when names_connection z h then connection z h else 0)
  unfolding numbered
  numbered_fits h e = rw e

  pub numbered_off : (h : Header) → kind_in_range kind ≡ false → numbered kind z h ≡ 0
  unfolding numbered
  numbered_off h e = rw e

  -- 0 is no connection's number
  pub numbered_some : (h : Header) → numbered kind z h ≢ 0
      → (kind_in_range kind ≡ true) × (names_connection z h ≡ true) × (numbered kind z h ≡ connection z h)
  unfolding numbered
  numbered_some h ne = go (kind_in_range kind) (names_connection z h) refl refl
    where
      go : (a b : Bool) → kind_in_range kind ≡ a → names_connection z h ≡ b
          → (kind_in_range kind ≡ true) × (names_connection z h ≡ true) × (numbered kind z h ≡ connection z h)
      go true true p q = (p, q, rw (p, q))
      go true false p q = absurd (ne (rw (p, q)))
      go false b p q = absurd (ne (rw p))
