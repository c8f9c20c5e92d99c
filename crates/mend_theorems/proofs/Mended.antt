-- What is written: of records, their octets; the mended trace is readable throughout, its records are the kept ones, and
-- salvaging it again changes nothing.
use Prim.Native.Nat.{ℕ, zero, suc, ◌+◌, ◌-◌, ◌≤◌, ◌<◌}
use mathlib.Core.Path.{◌≡◌, refl, sym, ap, subst, ◌∙◌}
use mathlib.Core.List.{List, [], ◌∷◌, ◌++◌, append_assoc}
use lib.ListN.{length, get_or, take, drop, length-append, length-drop, get_or-append}
use lib.Seq.{get_or-append-add, get_or-take, get_or-drop, take-add, take_all, drop-drop, length-take-le, take_at, drop_at}
use native.Mathlib.Omega.{arith}
use Rattle.mend_step.specs.Salvage.{Reading, none, up_to, reads_to, step_of, step_at, next_of, Piece, keeps, skips, piece_of, walk}
use Rattle.mend_step.specs.Salvage.{mended, salvage_of, salvage_front, salvage, written_of}
use Rattle.mend_theorems.specs.Promises.{Records, Readable, packed, Damaged}
use Rattle.mend_step.proofs.Shape.{reads_shape, shape_reads, shape_moved, kind_long}
use Rattle.mend_step.proofs.Pieces.{written_append}
use Rattle.mend_step.proofs.Walk.{Walks, step_on}
use Rattle.mend_theorems.proofs.Theorems.{walk_walks, readable_whole, first_kept, rest_kept}

-- ---- records in order are written as they stand

pub records_written : (s : List ℕ) (p e : ℕ) (ps : List Piece) → Records s p ps e → (p ≤ e) × (written_of s ps ≡ take (e - p) (drop p s))
records_written s p e [] h =
    let z : 0 ≡ e - p = omega (arith, h) in
    (omega (arith, h), ap (λ (n : ℕ). take n (drop p s)) z)
records_written s p e (keeps q l ∷ ps) h =
    let i = records_written s (p + l) e ps h.2 in
    let z : l + (e - (p + l)) ≡ e - p = omega (arith, i.0) in (
      omega (arith, i.0),
      ap (λ (n : ℕ). take l (drop n s) ++ written_of s ps) h.0
          ∙ ap (λ (x : List ℕ). take l (drop p s) ++ x) (i.1 ∙ ap (take (e - (p + l))) (sym (drop-drop l p s)))
          ∙ sym (take-add l (e - (p + l)) (drop p s))
          ∙ ap (λ (n : ℕ). take n (drop p s)) z,
    )
records_written s p e (skips q l ∷ ps) h = absurd h

pub readable_written : (s : List ℕ) (ps : List Piece) → Records s 0 ps (length s) → written_of s ps ≡ s
readable_written s ps h = (records_written s 0 (length s) ps h).1 ∙ take_all (length s - 0) s (omega arith)

-- ---- S4 in octets: of the damaged trace exactly a and b are written

pub damage_written : (a d b : List ℕ) (ps qs : List Piece) → Damaged a d b ps qs
    → written_of (a ++ d ++ b) (ps ++ skips (length a) (length d) ∷ packed (length a + length d) qs) ≡ a ++ b
damage_written a d b ps qs h =
    let n = length-append a d in
    let m = length-append (a ++ d) b in
    let one = (records_written (a ++ d ++ b) 0 (length a) ps (first_kept a d b ps qs h)).1 in
    let two = (records_written (a ++ d ++ b) (length a + length d) (length (a ++ d ++ b)) (packed (length a + length d) qs) (rest_kept a d b ps qs h)).1 in
    let z : length a - 0 ≡ length a = omega arith in
    let first : written_of (a ++ d ++ b) ps ≡ a =
    one ∙ ap (λ (k : ℕ). take k (a ++ d ++ b)) z ∙ ap (take (length a)) (append_assoc a d b) ∙ take_at a (d ++ b) (length a) refl in
    let rest : written_of (a ++ d ++ b) (packed (length a + length d) qs) ≡ b =
    two ∙ ap (take (length (a ++ d ++ b) - (length a + length d))) (drop_at (a ++ d) b (length a + length d) n)
    ∙ take_all (length (a ++ d ++ b) - (length a + length d)) b (omega (arith, n, m)) in
    written_append (a ++ d ++ b) ps (skips (length a) (length d) ∷ packed (length a + length d) qs)
    ∙ ap (λ (x : List ℕ). x ++ written_of (a ++ d ++ b) (packed (length a + length d) qs)) first ∙ ap (λ (x : List ℕ). a ++ x) rest

-- ---- S2: the kept records, one directly after the other

module _ (s : List ℕ) (n p : ℕ) where
  pub record Kept (q l : ℕ) : Type 0 where
    pub place : q ≡ p
    pub reads : reads_to s p ≡ up_to (p + l)
    pub next : next_of (step_at s n p) ≡ p + l

  piece_kept : (q l : ℕ) → keeps q l ≡ piece_of p (step_at s n p) → Kept q l
  unfolding step_at
  piece_kept q l h = go (reads_to s p) refl h
    where
      go : (r : Reading) → reads_to s p ≡ r → keeps q l ≡ piece_of p (step_of s n p r) → Kept q l
      go none e h = let z : ◌≡◌ {A = ℕ} 0 1 = cc in absurd (omega arith)
      go (up_to u) e h =
          let j = kind_long (reads_shape s p u e).kind in
          let place : q ≡ p = cc in
          let m : l ≡ u - p = cc in
          let x : u ≡ p + l = omega (arith, j, m) in
          record { place = place; reads = e ∙ ap up_to x; next = ap (λ (r : Reading). next_of (step_of s n p r)) e ∙ x }

  piece_skipped : (q l : ℕ) → skips q l ≡ piece_of p (step_at s n p) → reads_to s p ≡ none
  unfolding step_at
  piece_skipped q l h = go (reads_to s p) refl h
    where
      go : (r : Reading) → reads_to s p ≡ r → skips q l ≡ piece_of p (step_of s n p r) → reads_to s p ≡ none
      go none e h = e
      go (up_to n) e h = let z : ◌≡◌ {A = ℕ} 0 1 = cc in absurd (omega arith)

module _ (s : List ℕ) (n : ℕ) (begun : reads_to s 0 ≡ none → ⊥) where
  later_place : (p : ℕ) → reads_to s p ≡ none → 0 < p
  later_place zero h = absurd (begun h)
  later_place (suc p) h = omega arith

  moved : (w : List ℕ) (p q l : ℕ) (rest : List ℕ) → q ≡ p → (i : ℕ) → i < l
      → p + l ≤ length s → get_or s (p + i) 0 ≡ get_or (w ++ (take l (drop q s) ++ rest)) (length w + i) 0
  moved w p q l rest e i h u =
      sym
      (get_or-append-add w (take l (drop q s) ++ rest) i 0
      ∙ get_or-append (take l (drop q s)) rest 0 i (omega (arith, h, length-take-le l (drop q s) (omega (arith, length-drop q s, e, u))))
      ∙ get_or-take l (drop q s) i 0 h ∙ get_or-drop q s i 0 ∙ ap (λ (n : ℕ). get_or s (n + i) 0) e)

  mends : (p : ℕ) (xs : List Piece) (w : List ℕ) → Walks s n p xs → (p ≡ 0 → length w ≡ 0) → (0 < p → 0 < length w)
      → Records (w ++ written_of s xs) (length w) (packed (length w) xs) (length (w ++ written_of s xs))
  mends p [] w h f g = omega (arith, length-append w (written_of s []))
  mends p (keeps q l ∷ xs) w h f g =
      let k = piece_kept s n p q l h.1 in
      let t = reads_shape s p (p + l) k.reads in
      let j = kind_long t.kind in
      let o : length (take l (drop q s)) ≡ l = length-take-le l (drop q s) (omega (arith, length-drop q s, k.place, t.within)) in
      let a = length-append w (take l (drop q s) ++ written_of s xs) in
      let b = length-append (take l (drop q s)) (written_of s xs) in
      let c : length (w ++ take l (drop q s)) ≡ length w + l = length-append w (take l (drop q s)) ∙ ap (λ (n : ℕ). length w + n) o in
      let u = shape_moved s p (w ++ (take l (drop q s) ++ written_of s xs)) (length w) l
      (λ i x. moved w p q l (written_of s xs) k.place i x t.within) (omega (arith, a, b, o)) f g t in
      let r = mends (p + l) xs (w ++ take l (drop q s)) (subst (λ (m : ℕ). Walks s n m xs) k.next h.2)
      (λ z. absurd (omega (arith, j, z))) (λ z. omega (arith, j, c)) in (
        refl,
        shape_reads (w ++ (take l (drop q s) ++ written_of s xs)) (length w) (length w + l) u,
        subst (λ (n : ℕ). Records (w ++ (take l (drop q s) ++ written_of s xs)) n (packed n xs) (length (w ++ (take l (drop q s) ++ written_of s xs)))) c
            (subst (λ (y : List ℕ). Records y (length (w ++ take l (drop q s))) (packed (length (w ++ take l (drop q s))) xs) (length y))
            (append_assoc w (take l (drop q s)) (written_of s xs)) r),
      )
  mends p (skips q l ∷ xs) w h f g =
      let z = later_place p (piece_skipped s n p q l h.1) in
      let i = step_on s n p h.0 in
      mends (next_of (step_at s n p)) xs w h.2 (λ x. absurd (omega (arith, x, i))) (λ x. g z)

  some_written : (xs : List Piece) → Walks s n 0 xs → 0 < n → 0 < length (written_of s xs)
  some_written [] h l = absurd (omega (arith, h, l))
  some_written (keeps q l ∷ xs) h m =
      let k = piece_kept s n 0 q l h.1 in
      let t = reads_shape s 0 (0 + l) k.reads in
      let o : length (take l (drop q s)) ≡ l = length-take-le l (drop q s) (omega (arith, length-drop q s, k.place, t.within)) in
      omega (arith, kind_long t.kind, o, length-append (take l (drop q s)) (written_of s xs))
  some_written (skips q l ∷ xs) h m = absurd (begun (piece_skipped s n 0 q l h.1))

-- a trace that isn't refused begins with a record, and its pieces are those of the walk
pub salvage_walk : (s : List ℕ) (n : ℕ) (ps : List Piece) → salvage_front s n ≡ mended ps
    → (reads_to s 0 ≡ none → ⊥) × (walk s n ≡ ps) × (0 < length s)
unfolding salvage_front
salvage_walk s n ps h = go (reads_to s 0) refl h
  where
    go : (r : Reading) → reads_to s 0 ≡ r → salvage_of s n r ≡ mended ps → (reads_to s 0 ≡ none → ⊥) × (walk s n ≡ ps) × (0 < length s)
    go none e h = let z : ◌≡◌ {A = ℕ} 0 1 = cc in absurd (omega arith)
    go (up_to m) e h =
        let t = reads_shape s 0 m e in
        let same : walk s n ≡ ps = cc in
        ((λ x. let y : none ≡ up_to m = sym x ∙ e in let z : ◌≡◌ {A = ℕ} 0 1 = cc in omega arith), same, omega (arith, kind_long t.kind, t.within))

pub mended_readable : (s : List ℕ) (n : ℕ) (ps : List Piece) → length s ≤ n → salvage_front s n ≡ mended ps
    → Readable (written_of s ps) (packed 0 ps)
mended_readable s n ps l h =
    let k = salvage_walk s n ps h in
    let w : Walks s n 0 ps = subst (Walks s n 0) k.1 (walk_walks s n l) in
    (some_written s n k.0 ps w (omega (arith, k.2, l)), mends s n k.0 0 ps [] w (λ z. refl) (λ z. absurd (omega (arith, z))))

-- salvaging it again keeps every record, skips nothing and writes the same octets
pub mended_again : (s : List ℕ) (n : ℕ) (ps : List Piece) → length s ≤ n → salvage_front s n ≡ mended ps
    → (salvage (written_of s ps) ≡ mended (packed 0 ps)) × (written_of (written_of s ps) (packed 0 ps) ≡ written_of s ps)
mended_again s n ps l h =
    let r = mended_readable s n ps l h in
    (readable_whole (written_of s ps) (packed 0 ps) r, readable_written (written_of s ps) (packed 0 ps) r.1)
