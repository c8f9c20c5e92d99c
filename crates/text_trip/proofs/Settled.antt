-- The round trip on events: merging the pauses that were read changes no octet exactly when each SL directly followed by an
-- SL is full. Where one isn't, the record written there holds more slots than the one that was read.
use Prim.Native.Nat.{ℕ, zero, suc, ◌+◌, ◌-◌, ◌*◌, ◌/◌, ◌%◌, ◌≤◌, ◌<◌, min}
use mathlib.Core.Path.{◌≡◌, refl, sym, ap, ◌∙◌}
use mathlib.Core.List.{List, [], ◌∷◌, ◌++◌, append_assoc, append-nil}
use native.Mathlib.Decide.{dec_lt}
use native.Mathlib.Omega.{arith}
use borrow.Author.Tests.{ne_eqb}
use lib.ListN.{length, drop, get_or}
use lib.Seq.{drop-append_seam}
use Rattle.trace_record.specs.Trace.{be16}
use Rattle.text_meaning.specs.Events.{Event, told, pause, full, sl_of, fulls, rest_of, octets_of, octets_all, join, merge}
use Rattle.text_trip.specs.Settled.{Single, Settled}
use Rattle.text_trip.proofs.Merge.{join_none, join_full, pause_full, pause_rest}

-- a full pause before events
full_first : (n : ℕ) (es : List Event) → n ≡ full → octets_all (join n es) ≡ fulls 1 ++ octets_all es
full_first n es h =
    let e : n ≡ 1 * full + 0 = omega arith in
    ap (λ (k : ℕ). octets_all (join k es)) e ∙ join_full 1 0 es ∙ ap (λ (x : List ℕ). fulls 1 ++ x) (join_none es)

full_octets : (n : ℕ) → n ≡ full → octets_of (pause n) ≡ fulls 1
unfolding octets_of rest_of fulls
full_octets n h = ap (λ (k : ℕ). octets_of (pause k)) h

-- a pause that one record holds is written as that record
pub single_octets : (n : ℕ) → 0 < n → n ≤ full → octets_of (pause n) ≡ sl_of n
unfolding rest_of fulls
single_octets n h l = go (dec_lt n full)
  where
    go : Dec (n < full) → octets_of (pause n) ≡ sl_of n
    go (yes m) = let r : rest_of n ≡ sl_of n = simp (ne_eqb n 0 (λ z. omega arith)) in pause_rest n m ∙ r
    go (no m) = let e : n ≡ full = omega arith in full_octets n e ∙ ap sl_of (sym e)

pub settled_same : (es : List Event) → Settled es → octets_all (merge es) ≡ octets_all es
unfolding octets_all merge join
settled_same [] s = refl
settled_same (told o ∷ es) s = ap (λ (x : List ℕ). octets_of (told o) ++ x) (settled_same es s)
settled_same (pause n ∷ []) s = refl
settled_same (pause n ∷ told o ∷ es) s = ap (λ (x : List ℕ). octets_of (pause n) ++ (octets_of (told o) ++ x)) (settled_same es s)
settled_same (pause n ∷ pause m ∷ es) s =
    full_first n (merge (pause m ∷ es)) s.0
    ∙ ap (λ (x : List ℕ). fulls 1 ++ x) (settled_same (pause m ∷ es) s.1)
    ∙ ap (λ (x : List ℕ). x ++ octets_all (pause m ∷ es)) (sym (full_octets n s.0))

-- the count of the first record of a pause
first_count : (n : ℕ) (ys : List ℕ) → 0 < n → be16 (octets_of (pause n) ++ ys) 2 ≡ min n full
unfolding be16 fulls rest_of
first_count n ys h = go (dec_lt n full)
  where
    go : Dec (n < full) → be16 (octets_of (pause n) ++ ys) 2 ≡ min n full
    go (yes l) =
        let r : rest_of n ≡ sl_of n = simp (ne_eqb n 0 (λ z. omega arith)) in
        ap (λ (x : List ℕ). be16 (x ++ ys) 2) (pause_rest n l ∙ r) ∙ omega arith
    go (no l) =
        let e : n ≡ 1 * full + (n - full) = omega arith in
        ap (λ (k : ℕ). be16 (octets_of (pause k) ++ ys) 2) e
        ∙ ap (λ (x : List ℕ). be16 (x ++ ys) 2) (pause_full 1 (n - full))
        ∙ omega arith

cancel : (o xs ys : List ℕ) → o ++ xs ≡ o ++ ys → xs ≡ ys
cancel o xs ys e = sym (drop-append_seam o xs) ∙ ap (drop (length o)) e ∙ drop-append_seam o ys

-- a pause and whatever pause follows are more than the pause
record Grown (n : ℕ) (es : List Event) : Type 0 where
  pub more : ℕ
  pub after : List Event
  pub some : 0 < more
  pub is : join n es ≡ pause (n + more) ∷ after

grown : (n m : ℕ) (es : List Event) → 0 < m → Grown n (join m es)
unfolding join
grown n m [] h = record { more = m; after = []; some = h; is = refl }
grown n m (told o ∷ es) h = record { more = m; after = told o ∷ es; some = h; is = refl }
grown n m (pause k ∷ es) h = record { more = m + k; after = es; some = omega arith; is = refl }

pub same_settled : (es : List Event) → Single es → octets_all (merge es) ≡ octets_all es → Settled es
unfolding octets_all merge join
same_settled [] g e = omega arith
same_settled (told o ∷ es) g e = same_settled es g (cancel (octets_of (told o)) (octets_all (merge es)) (octets_all es) e)
same_settled (pause n ∷ []) g e = omega arith
same_settled (pause n ∷ told o ∷ es) g e =
    same_settled es g.2
    (cancel (octets_of (told o)) (octets_all (merge es)) (octets_all es)
    (cancel (octets_of (pause n)) (octets_of (told o) ++ octets_all (merge es)) (octets_of (told o) ++ octets_all es) e))
same_settled (pause n ∷ pause m ∷ es) g e =
    let w = grown n m (merge es) g.2.0 in
    let a : be16 (octets_of (pause (n + w.more)) ++ octets_all w.after) 2 ≡ min (n + w.more) full = first_count (n + w.more) (octets_all w.after) (omega (arith, w.some)) in
    let b : be16 (octets_of (pause n) ++ octets_all (pause m ∷ es)) 2 ≡ min n full = first_count n (octets_all (pause m ∷ es)) g.0 in
    let d : be16 (octets_of (pause (n + w.more)) ++ octets_all w.after) 2 ≡ be16 (octets_of (pause n) ++ octets_all (pause m ∷ es)) 2 =
    ap (λ (x : List ℕ). be16 x 2) (sym (ap octets_all w.is) ∙ e) in
    let f : n ≡ full = omega (arith, a, b, d, w.some, g.1) in
    (f, same_settled (pause m ∷ es) g.2 (cancel (fulls 1) (octets_all (merge (pause m ∷ es))) (octets_all (pause m ∷ es)) (sym (full_first n (merge (pause m ∷ es)) f) ∙ e ∙ ap (λ (x : List ℕ). x ++ octets_all (pause m ∷ es)) (full_octets n f))))
