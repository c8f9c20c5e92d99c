-- S1, S3 and S4: the pieces cut the input; a readable trace is kept whole; damage between two records costs one stretch and
-- no record.
use Prim.Native.Nat.{ℕ, zero, suc, ◌+◌, ◌-◌, ◌≤◌, ◌<◌}
use mathlib.Core.Path.{◌≡◌, refl, sym, ap, subst, ◌∙◌}
use mathlib.Core.Bool.{Bool, true, false, ◌||◌}
use mathlib.Core.List.{List, [], ◌∷◌, ◌++◌, append-nil}
use lib.ListN.{length, get_or, length-append, get_or-append}
use lib.Seq.{get_or-append-add}
use borrow.Author.Tests.{eq-eqb}
use native.Mathlib.Omega.{arith}
use Rattle.meaning.specs.Plain.{◌=?◌}
use Rattle.mend_step.specs.declared.Stride.{Stride}
use Rattle.mend_step.specs.declared.Stride.TheVariants.{Kept, Skipped}
use Rattle.mend_step.specs.Salvage.{none, up_to, reads_to, known_mark, followed, meets_rule, resume, step_of, step_at, next_of}
use Rattle.mend_step.specs.Salvage.{Piece, keeps, skips, piece_of, walk, mended, salvage_of, salvage_front, salvage}
use Rattle.mend_theorems.specs.Promises.{first_octet, long_of, Cut, Records, Readable, packed, Damaged}
use Rattle.mend_step.proofs.Shape.{reads_shape, shape_mark, kind_long}
use Rattle.mend_step.proofs.Walk.{Walks, first_least, step_on, walk_is, walks}
use Rattle.mend_theorems.proofs.Moved.{records_le, records_moved, packed_same}

-- ---- S1: each piece begins where the one before ended, none is empty, the last ends where the input does

piece_first : (p : ℕ) (st : Stride) → first_octet (piece_of p st) ≡ p
piece_first p (Kept q) = refl
piece_first p (Skipped q) = refl

piece_long : (p : ℕ) (st : Stride) → long_of (piece_of p st) ≡ next_of st - p
piece_long p (Kept q) = refl
piece_long p (Skipped q) = refl

walks_cut : (s : List ℕ) (n p : ℕ) (xs : List Piece) → Walks s n p xs → Cut p xs n
walks_cut s n p [] w = w
walks_cut s n p (x ∷ xs) w =
    let i = step_on s n p w.0 in
    let f : first_octet x ≡ p = ap first_octet w.1 ∙ piece_first p (step_at s n p) in
    let g : long_of x ≡ next_of (step_at s n p) - p = ap long_of w.1 ∙ piece_long p (step_at s n p) in
    let m : next_of (step_at s n p) ≡ p + long_of x = omega (arith, g, i) in
    (f, omega (arith, g, i), subst (λ (k : ℕ). Cut k xs n) m (walks_cut s n (next_of (step_at s n p)) xs w.2))

pub walk_walks : (s : List ℕ) (n : ℕ) → length s ≤ n → Walks s n 0 (walk s n)
unfolding walk
walk_walks s n h = walks s n n 0 h (omega arith) (omega arith)

pub walk_cuts : (s : List ℕ) (n : ℕ) → length s ≤ n → Cut 0 (walk s n) n
walk_cuts s n h = walks_cut s n 0 (walk s n) (walk_walks s n h)

-- ---- records read one after the other are steps of the walk

records_walk : (s : List ℕ) (n p e : ℕ) (ps qs : List Piece) → length s ≤ n → Records s p ps e → Walks s n e qs → Walks s n p (ps ++ qs)
unfolding step_at
records_walk s n p e [] qs f h w = subst (λ (m : ℕ). Walks s n m qs) (sym h) w
records_walk s n p e (keeps q l ∷ xs) qs f h w =
    let t = reads_shape s p (p + l) h.1 in
    let st : step_at s n p ≡ Kept (p + l) = ap (step_of s n p) h.1 in
    let m : l ≡ p + l - p = omega arith in (
      omega (arith, kind_long t.kind, t.within, f),
      ap (λ (k : ℕ). keeps k l) h.0 ∙ ap (keeps p) m ∙ ap (piece_of p) (sym st),
      subst (λ (k : ℕ). Walks s n k (xs ++ qs)) (ap next_of (sym st)) (records_walk s n (p + l) e xs qs f h.2 w),
    )
records_walk s n p e (skips q l ∷ xs) qs f h w = absurd h

whole_walk : (s : List ℕ) (xs : List Piece) → Walks s (length s) 0 xs → walk s (length s) ≡ xs
unfolding walk
whole_walk s xs w = walk_is s (length s) 0 xs w (length s) (omega arith)

-- ---- S3: a trace readable throughout is kept whole, with no stretch

records_kept : (s : List ℕ) (ps : List Piece) → Records s 0 ps (length s) → walk s (length s) ≡ ps
records_kept s ps h = whole_walk s ps (subst (Walks s (length s) 0) (append-nil ps) (records_walk s (length s) 0 (length s) ps [] (omega arith) h refl))

salvaged : (s : List ℕ) (ps xs : List Piece) (e : ℕ) → 0 < e → Records s 0 ps e → walk s (length s) ≡ xs → salvage s ≡ mended xs
unfolding salvage_front
salvaged s [] xs e h r w = absurd (omega (arith, r))
salvaged s (keeps q l ∷ ps) xs e h r w = ap (salvage_of s (length s)) r.1 ∙ ap mended w
salvaged s (skips q l ∷ ps) xs e h r w = absurd r

pub readable_whole : (trace : List ℕ) (ps : List Piece) → Readable trace ps → salvage trace ≡ mended ps
readable_whole trace ps h = salvaged trace ps ps (length trace) h.0 h.1 (records_kept trace ps h.1)

-- ---- a record that others, or the end, follow

records_first : (s : List ℕ) (p e : ℕ) (ps : List Piece) → Records s p ps e → p < e → reads_to s p ≡ none → ⊥
records_first s p e [] h l n = omega (arith, h)
records_first s p e (keeps q m ∷ ps) h l n =
    let r : none ≡ up_to (p + m) = sym n ∙ h.1 in
    let z : ◌≡◌ {A = ℕ} 0 1 = cc in
    omega arith
records_first s p e (skips q m ∷ ps) h l n = h

or_true : (b : Bool) {c : Bool} → c ≡ true → b || c ≡ true
or_true true h = refl
or_true false h = h

or_first : {b : Bool} (c : Bool) → b ≡ true → b || c ≡ true
or_first c h = ap (λ (x : Bool). x || c) h

follow : (s : List ℕ) (e : ℕ) (ps : List Piece) → Records s e ps (length s) → (e =? length s) || known_mark s e ≡ true
follow s e [] h = or_first (known_mark s e) (eq-eqb e (length s) h)
follow s e (keeps q l ∷ ps) h = or_true (e =? length s) (shape_mark s e (e + l) (reads_shape s e (e + l) h.1))
follow s e (skips q l ∷ ps) h = absurd h

records_rule : (s : List ℕ) (p : ℕ) (ps : List Piece) → Records s p ps (length s) → p < length s → meets_rule s (length s) p ≡ true
unfolding meets_rule
records_rule s p [] h l = absurd (omega (arith, h))
records_rule s p (keeps q m ∷ ps) h l = ap (followed s (length s)) h.1 ∙ follow s (p + m) ps h.2
records_rule s p (skips q m ∷ ps) h l = absurd h

-- ---- S4: damage

module _ (a d b : List ℕ) (ps qs : List Piece) (h : Damaged a d b ps qs) where
  pub first_kept : Records (a ++ d ++ b) 0 ps (length a)
  first_kept =
      let z : 0 + (length a - 0) ≡ length a = omega arith in
      subst (λ (x : List Piece). Records (a ++ d ++ b) 0 x (length a)) (packed_same (a ++ b) 0 (length a) ps h.before)
      (subst (Records (a ++ d ++ b) 0 (packed 0 ps)) z
      (records_moved (a ++ b) (a ++ d ++ b) (length a) 0 0 ps h.before
      (λ i u.
      get_or-append a b 0 (0 + i) u
      ∙ sym (get_or-append (a ++ d) b 0 (0 + i) (omega (arith, u, length-append a d)) ∙ get_or-append a d 0 (0 + i) u))
      (omega (arith, h.hole.inside)) (λ x. x) (λ x. x)))

  pub rest_kept : Records (a ++ d ++ b) (length a + length d) (packed (length a + length d) qs) (length (a ++ d ++ b))
  rest_kept =
      let z : length a + length d + (length (a ++ b) - length a) ≡ length (a ++ d ++ b) =
      omega (arith, length-append a b, length-append a d, length-append (a ++ d) b) in
      subst (Records (a ++ d ++ b) (length a + length d) (packed (length a + length d) qs)) z
      (records_moved (a ++ b) (a ++ d ++ b) (length (a ++ b)) (length a) (length a + length d) qs h.behind
      (λ i u.
      get_or-append-add a b i 0 ∙ sym (get_or-append-add (a ++ d) b i 0)
      ∙ ap (λ (n : ℕ). get_or (a ++ d ++ b) (n + i) 0) (length-append a d))
      (omega (arith, z)) (λ x. absurd (omega (arith, x, h.some))) (λ x. omega (arith, x)))

  -- at the end of a nothing is read, so d isn't empty
  not_empty : (n : ℕ) → length d ≡ n → 0 < length d
  not_empty zero e =
      let z : length a ≡ length a + length d = omega (arith, e) in
      absurd
      (records_first (a ++ d ++ b) (length a + length d) (length (a ++ d ++ b)) (packed (length a + length d) qs) rest_kept
      (omega (arith, h.hole.inside, e)) (subst (λ (x : ℕ). reads_to (a ++ d ++ b) x ≡ none) z h.hole.unread))
  not_empty (suc n) e = omega (arith, e)

  resumed : resume (a ++ d ++ b) (length (a ++ d ++ b)) (length a) ≡ length a + length d
  unfolding resume
  resumed =
      first_least (a ++ d ++ b) (length (a ++ d ++ b)) (length (a ++ d ++ b) - suc (length a)) (suc (length a)) (length a + length d)
      (omega (arith, h.hole.inside)) (omega (arith, not_empty (length d) refl)) (records_le (a ++ d ++ b) (length a + length d) (length (a ++ d ++ b)) (packed (length a + length d) qs) rest_kept)
      (λ j x y. h.hole.between j x y)
      (λ l. records_rule (a ++ d ++ b) (length a + length d) (packed (length a + length d) qs) rest_kept l)

  skipped : step_at (a ++ d ++ b) (length (a ++ d ++ b)) (length a) ≡ Skipped (length a + length d)
  unfolding step_at
  skipped =
      ap (step_of (a ++ d ++ b) (length (a ++ d ++ b)) (length a)) h.hole.unread
      ∙ ap (λ (m : ℕ). Skipped m) resumed

  damage_walks : Walks (a ++ d ++ b) (length (a ++ d ++ b)) 0 (ps ++ skips (length a) (length d) ∷ packed (length a + length d) qs)
  damage_walks =
      let m : length d ≡ length a + length d - length a = omega arith in
      let end : Walks (a ++ d ++ b) (length (a ++ d ++ b)) (length a + length d) (packed (length a + length d) qs) =
      subst (Walks (a ++ d ++ b) (length (a ++ d ++ b)) (length a + length d)) (append-nil (packed (length a + length d) qs))
      (records_walk (a ++ d ++ b) (length (a ++ d ++ b)) (length a + length d) (length (a ++ d ++ b)) (packed (length a + length d) qs) [] (omega arith) rest_kept refl) in
      records_walk (a ++ d ++ b) (length (a ++ d ++ b)) 0 (length a) ps (skips (length a) (length d) ∷ packed (length a + length d) qs) (omega arith) first_kept (
        h.hole.inside,
        ap (skips (length a)) m ∙ ap (piece_of (length a)) (sym skipped),
        subst (λ (n : ℕ). Walks (a ++ d ++ b) (length (a ++ d ++ b)) n (packed (length a + length d) qs)) (ap next_of (sym skipped)) end,
      )

-- "all records after it are kept unchanged": the records of a, one stretch, the records of b
pub damage : (a d b : List ℕ) (ps qs : List Piece) → Damaged a d b ps qs
    → salvage (a ++ d ++ b) ≡ mended (ps ++ skips (length a) (length d) ∷ packed (length a + length d) qs)
damage a d b ps qs h =
    salvaged (a ++ d ++ b) ps (ps ++ skips (length a) (length d) ∷ packed (length a + length d) qs) (length a) h.some
    (first_kept a d b ps qs h)
    (whole_walk (a ++ d ++ b) (ps ++ skips (length a) (length d) ∷ packed (length a + length d) qs) (damage_walks a d b ps qs h))
