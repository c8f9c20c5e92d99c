-- What is promised of the two modes, for every lent cell and for a policer that is raw or not: read this after
-- `Errors.antt`.
use mathlib.Core.Path.{◌≡◌, refl, sym, ap, ◌∙◌}
use mathlib.Core.Bool.{Bool, true, false, cond, ◌&&◌, ◌||◌}
use mathlib.Core.List.{List, []}
use Prim.Native.Nat.{ℕ, ◌≤◌, ◌<◌}
use native.Mathlib.Omega.{arith}
use lib.Dec.{lit<, lit≤, eqb, ltb}
use lib.ListN.{length, drop}
use borrow.Author.Tests.{ltb-true, eq-eqb, ne_eqb, lt-ltb}
use Rattle.base_hec.specs.Check.{syndrome_of}
use Rattle.base_hec.specs.WrongBit.{no_error, several, wrong_bit, flipped}
use Rattle.base_hec.specs.Modes.{Arriving, Octets, correction, detection, passes, drops, checked, arriving}
use Rattle.base_hec.proofs.TableRule.{not_clean}
use Rattle.base_hec.proofs.Flip.{length_flipped, payload_flipped, octets_flipped}
use Rattle.base_hec.proofs.Errors.{Right, clean, single_named, single_mended, double_seen}

-- by what the table says
module _ (mode : ℕ) (l : List ℕ) where
  is_clean : wrong_bit (syndrome_of l) ≡ no_error → checked mode l ≡ passes l correction
  unfolding checked
  is_clean e = rw (eq-eqb (wrong_bit (syndrome_of l)) 40 e) refl

-- A clean header is let through as it came, in both modes, and leads to correction.
pub clean_passes : (mode : ℕ) (l : List ℕ) → Right l → checked mode l ≡ passes l correction
unfolding wrong_bit
clean_passes mode l right = is_clean mode l (ap wrong_bit (clean l right))

-- In correction one wrong bit of forty is mended, and leads to detection.
pub correction_mends : (l : List ℕ) → Right l → (i : ℕ) → i < 40 → checked correction (flipped i l) ≡ passes l detection
unfolding checked
correction_mends l right i h =
    let e = single_named l right i h in
    let back : flipped i (flipped i l) ≡ l = sym (ap (λ (k : ℕ). flipped k (flipped i l)) e) ∙ single_mended l right i h in
    rw (e, ne_eqb i 40 (λ q. omega arith), lt-ltb i 40 h) (ap (λ (x : List ℕ). passes x detection) back)

-- Detection never mends: a header is clean and stays as it is, or the cell is dropped.
pub detection_never_mends : (l : List ℕ)
    → checked detection l ≡ cond (eqb (wrong_bit (syndrome_of l)) no_error) (passes l correction) (drops detection)
unfolding checked
detection_never_mends l = refl

-- More than one wrong bit, by the table's word, drops the cell in both modes: every double error does.
pub several_drops : (mode : ℕ) (l : List ℕ) → wrong_bit (syndrome_of l) ≡ several → checked mode l ≡ drops detection
unfolding checked
several_drops mode l e = rw e (go (eqb mode 0))
  where
    go : (b : Bool) → cond (b && false) (passes (flipped several l) detection) (drops detection) ≡ drops detection
    go true = refl
    go false = refl

pub double_drops : (mode : ℕ) (l : List ℕ) → Right l → (i j : ℕ) → i < j → j < 40
    → checked mode (flipped j (flipped i l)) ≡ drops detection
double_drops mode l right i j h k = several_drops mode (flipped j (flipped i l)) (double_seen l right i j h k)

-- Any error leads to detection, whether it is mended or dropped.
pub errors_detect : (mode : ℕ) (l : List ℕ) → (syndrome_of l ≡ 0 → ⊥) → (checked mode l).mode ≡ detection
unfolding checked
errors_detect mode l n = rw (not_clean (syndrome_of l) n) (go (eqb mode 0 && ltb (wrong_bit (syndrome_of l)) 40))
  where
    go : (b : Bool) → (cond b (passes (flipped (wrong_bit (syndrome_of l)) l) detection) (drops detection)).mode ≡ detection
    go true = refl
    go false = refl

-- The three ends of the check: what holds of each holds of it.
pub three_ends : (P : Arriving → Type 0) (mode : ℕ) (l : List ℕ) → P (passes l correction)
    → ((i : ℕ) → i < 40 → P (passes (flipped i l) detection)) → P (drops detection) → P (checked mode l)
unfolding checked
three_ends P mode l clean mended dropped = go (eqb i 40) (eqb mode 0) (ltb i 40) refl
  where
    i : ℕ
    i = wrong_bit (syndrome_of l)

    go : (a b c : Bool) → ltb (wrong_bit (syndrome_of l)) 40 ≡ c
        → P (cond a (passes l correction) (cond (b && c) (passes (flipped (wrong_bit (syndrome_of l)) l) detection) (drops detection)))
    go true b c e = clean
    go false true true e = mended (wrong_bit (syndrome_of l)) (ltb-true (wrong_bit (syndrome_of l)) 40 e)
    go false true false e = dropped
    go false false c e = dropped

-- What is let through has as many octets as was lent, the payload is the lent one, each octet is one; what is dropped is
-- nothing.
pub record Kept (l : List ℕ) (a : Arriving) : Type 0 where
  pub empty : a.dropped ≡ true → a.cell ≡ []
  pub long : a.dropped ≡ false → length a.cell ≡ length l
  pub payload : a.dropped ≡ false → drop 5 a.cell ≡ drop 5 l
  pub octets : Octets l → 5 ≤ length l → Octets a.cell
  pub in_range : a.mode ≤ 1

pub kept : (mode : ℕ) (l : List ℕ) → Kept l (checked mode l)
kept mode l =
    three_ends (Kept l) mode l
    (record { empty = λ e. absurd (apart e); long = λ e. refl; payload = λ e. refl; octets = λ o h. o; in_range = lit≤ tt })
    (λ i below.
    record {
      empty = λ e. absurd (apart e);
      long = λ e. length_flipped i l;
      payload = λ e. payload_flipped i l below;
      octets = λ o h. octets_flipped i l below h o;
      in_range = lit≤ tt;
    })
    (record {
      empty = λ e. refl;
      long = λ e. absurd (apart (sym e));
      payload = λ e. absurd (apart (sym e));
      octets = λ o h k. lit< tt;
      in_range = lit≤ tt;
    })
  where
    apart : false ≡ true → ⊥
    apart e = let z : ◌≡◌ {A = ℕ} 0 1 = cc in omega arith

-- A policer that is not raw: the cell, octet for octet, and the mode as it was.
pub not_raw : (mode : ℕ) (cell : List ℕ) → arriving 0 mode cell ≡ passes cell mode
unfolding arriving
not_raw mode cell = go (eqb (length cell) 0)
  where
    go : (b : Bool) → cond (b || true) (passes cell mode) (checked mode cell) ≡ passes cell mode
    go true = refl
    go false = refl

-- A slot lent no cell keeps the mode.
pub no_cell : (raw mode : ℕ) → arriving raw mode [] ≡ passes [] mode
unfolding arriving
no_cell raw mode = refl

-- A lent cell of a raw policer is checked.
pub raw_checked : (mode : ℕ) (cell : List ℕ) → 0 < length cell → arriving 1 mode cell ≡ checked mode cell
unfolding arriving
raw_checked mode cell h = rw (ne_eqb (length cell) 0 (λ e. omega arith)) refl
