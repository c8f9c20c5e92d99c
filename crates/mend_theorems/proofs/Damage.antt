-- Document 02's own sentence: damage within one record after the GM costs that record and no other. The trace without the
-- record is readable too, so the damage theorem applies. And S1 in octets.
use Prim.Native.Nat.{ℕ, ◌+◌, ◌-◌}
use mathlib.Core.Path.{◌≡◌, sym, ap, subst, ◌∙◌}
use mathlib.Core.List.{List, [], ◌∷◌, ◌++◌}
use lib.ListN.{length, get_or, take, drop, length-append, get_or-append, take-append-drop}
use lib.Seq.{get_or-append-add, drop-length, drop-drop}
use native.Mathlib.Omega.{arith}
use Rattle.mend_step.specs.Salvage.{Piece, skips, walk, mended, salvage, written_of}
use Rattle.mend_theorems.specs.Promises.{long_of, Cut, octets_of, Records, packed, Damaged, DamagedIn}
use Rattle.mend_theorems.proofs.Moved.{records_moved, packed_same, packed_packed}
use Rattle.mend_theorems.proofs.Theorems.{walk_cuts, damage}
use Rattle.mend_theorems.proofs.Mended.{damage_written}

-- ---- S1 in octets: the pieces, put together, are the input

cut_octets : (s : List ℕ) (p : ℕ) (ps : List Piece) → Cut p ps (length s) → octets_of s ps ≡ drop p s
cut_octets s p [] h = sym (ap (λ (n : ℕ). drop n s) h ∙ drop-length s)
cut_octets s p (x ∷ xs) h =
    ap (λ (n : ℕ). take (long_of x) (drop n s) ++ octets_of s xs) h.0
    ∙ ap (λ (y : List ℕ). take (long_of x) (drop p s) ++ y) (cut_octets s (p + long_of x) xs h.2 ∙ sym (drop-drop (long_of x) p s))
    ∙ take-append-drop (long_of x) (drop p s)

pub walk_octets : (trace : List ℕ) → octets_of trace (walk trace (length trace)) ≡ trace
walk_octets trace = cut_octets trace 0 (walk trace (length trace)) (walk_cuts trace (length trace) (omega arith))

-- ---- the trace without the record

module _ (a r d b : List ℕ) (ps qs : List Piece) (h : DamagedIn a r d b ps qs) where
  long : length (a ++ r ++ b) ≡ length a + length r + length b
  long = omega (arith, length-append a r, length-append (a ++ r) b)

  front : Records (a ++ b) 0 ps (length a)
  front =
      let z : 0 + (length a - 0) ≡ length a = omega arith in
      subst (λ (x : List Piece). Records (a ++ b) 0 x (length a)) (packed_same (a ++ r ++ b) 0 (length a) ps h.before)
      (subst (Records (a ++ b) 0 (packed 0 ps)) z
      (records_moved (a ++ r ++ b) (a ++ b) (length a) 0 0 ps h.before
      (λ i y.
      get_or-append (a ++ r) b 0 (0 + i) (omega (arith, y, length-append a r)) ∙ get_or-append a r 0 (0 + i) y
      ∙ sym (get_or-append a b 0 (0 + i) y))
      (omega (arith, length-append a b)) (λ z. z) (λ z. z)))

  back : Records (a ++ b) (length a) (packed (length a) qs) (length (a ++ b))
  back =
      let z : length a + (length (a ++ r ++ b) - (length a + length r)) ≡ length (a ++ b) = omega (arith, long, length-append a b) in
      subst (Records (a ++ b) (length a) (packed (length a) qs)) z
      (records_moved (a ++ r ++ b) (a ++ b) (length (a ++ r ++ b)) (length a + length r) (length a) qs h.behind
      (λ i y.
      ap (λ (n : ℕ). get_or (a ++ r ++ b) (n + i) 0) (sym (length-append a r))
      ∙ get_or-append-add (a ++ r) b i 0 ∙ sym (get_or-append-add a b i 0))
      (omega (arith, z)) (λ x. absurd (omega (arith, x, h.some))) (λ x. h.some))

  damaged : Damaged a d b ps (packed (length a) qs)
  damaged =
      record {
        some = h.some;
        before = front;
        behind = back;
        hole = h.hole;
      }

-- "all records after it are kept unchanged", and those before it
pub damage_in_a_record : (a r d b : List ℕ) (ps qs : List Piece) → DamagedIn a r d b ps qs
    → salvage (a ++ d ++ b) ≡ mended (ps ++ skips (length a) (length d) ∷ packed (length a + length d) qs)
damage_in_a_record a r d b ps qs h =
    damage a d b ps (packed (length a) qs) (damaged a r d b ps qs h)
    ∙ ap (λ (x : List Piece). mended (ps ++ skips (length a) (length d) ∷ x)) (packed_packed (length a) (length a + length d) qs)

pub damage_in_a_record_written : (a r d b : List ℕ) (ps qs : List Piece) → DamagedIn a r d b ps qs
    → written_of (a ++ d ++ b) (ps ++ skips (length a) (length d) ∷ packed (length a + length d) qs) ≡ a ++ b
damage_in_a_record_written a r d b ps qs h =
    ap (λ (x : List Piece). written_of (a ++ d ++ b) (ps ++ skips (length a) (length d) ∷ x)) (sym (packed_packed (length a) (length a + length d) qs))
    ∙ damage_written a d b ps (packed (length a) qs) (damaged a r d b ps qs h)
