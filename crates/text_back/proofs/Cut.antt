-- A pause cut into the records that hold it: they come to the same octets, and merging them gives the pause again.
use Prim.Native.Nat.{ℕ, zero, suc, ◌+◌, ◌*◌, ◌/◌, ◌%◌, ◌≤◌, ◌<◌}
use mathlib.Core.Path.{◌≡◌, refl, sym, ap, ◌∙◌}
use mathlib.Core.Bool.{Bool, true, false}
use mathlib.Core.List.{List, [], ◌∷◌, ◌++◌, append_assoc, append-nil}
use native.Mathlib.Decide.{dec_lt}
use native.Mathlib.Omega.{arith}
use borrow.Author.Tests.{eqb-true, eqb-false}
use Rattle.meaning.specs.Plain.{when◌then◌else◌, ◌=?◌}
use Rattle.text_meaning.specs.Events.{Event, told, pause, full, sl_of, fulls, rest_of, octets_of, octets_all, join, merge}
use Rattle.text_trip.proofs.Merge.{join_join}
use Rattle.text_trip.proofs.Settled.{single_octets}

-- k full pauses, and the rest unless it is none
unfoldable pub pauses : ℕ → ℕ → List Event
pauses zero r = when r =? 0 then [] else (pause r ∷ [])
pauses (suc k) r = pause full ∷ pauses k r

unfoldable pub cut : List Event → List Event
cut [] = []
cut (told o ∷ es) = told o ∷ cut es
cut (pause n ∷ es) = pauses (n / full) (n % full) ++ cut es

-- ---- the same octets

all_append : (xs ys : List Event) → octets_all (xs ++ ys) ≡ octets_all xs ++ octets_all ys
unfolding octets_all
all_append [] ys = refl
all_append (x ∷ xs) ys = ap (λ (z : List ℕ). octets_of x ++ z) (all_append xs ys) ∙ sym (append_assoc (octets_of x) (octets_all xs) (octets_all ys))

rest_octets : (r : ℕ) → r < full → (b : Bool) → (r =? 0) ≡ b
    → octets_all (when b then [] else (pause r ∷ [])) ≡ (when b then [] else sl_of r)
unfolding octets_all
rest_octets r h true e = refl
rest_octets r h false e =
    let z = eqb-false r 0 e in append-nil (octets_of (pause r)) ∙ single_octets r (omega arith) (omega arith)

pauses_octets : (k r : ℕ) → r < full → octets_all (pauses k r) ≡ fulls k ++ rest_of r
unfolding pauses octets_all fulls rest_of
pauses_octets zero r h = rest_octets r h (r =? 0) refl
pauses_octets (suc k) r h =
    ap (λ (x : List ℕ). x ++ octets_all (pauses k r)) (single_octets full (omega arith) (omega arith))
    ∙ ap (λ (x : List ℕ). sl_of full ++ x) (pauses_octets k r h)
    ∙ sym (append_assoc (sl_of full) (fulls k) (rest_of r))

pub cut_octets : (es : List Event) → octets_all (cut es) ≡ octets_all es
unfolding cut octets_all octets_of
cut_octets [] = refl
cut_octets (told o ∷ es) = ap (λ (x : List ℕ). o ++ x) (cut_octets es)
cut_octets (pause n ∷ es) =
    all_append (pauses (n / full) (n % full)) (cut es)
    ∙ ap (λ (x : List ℕ). x ++ octets_all (cut es)) (pauses_octets (n / full) (n % full) (omega arith))
    ∙ ap (λ (x : List ℕ). octets_of (pause n) ++ x) (cut_octets es)

-- ---- the same pauses, once merged

merge_rest : (r : ℕ) (es : List Event) (b : Bool) → (r =? 0) ≡ b → 0 < r → merge ((when b then [] else (pause r ∷ [])) ++ es) ≡ join r (merge es)
unfolding merge
merge_rest r es true e h = let z = eqb-true r 0 e in absurd (omega arith)
merge_rest r es false e h = refl

merge_pauses : (k r : ℕ) (es : List Event) → 0 < k * full + r → merge (pauses k r ++ es) ≡ join (k * full + r) (merge es)
unfolding pauses merge
merge_pauses zero r es h =
    let e : r ≡ 0 * full + r = omega arith in
    merge_rest r es (r =? 0) refl (omega arith) ∙ ap (λ (n : ℕ). join n (merge es)) e
merge_pauses (suc k) r es h = go (dec_lt 0 (k * full + r)) (λ m. merge_pauses k r es m)
  where
    go : Dec (0 < k * full + r) → (0 < k * full + r → merge (pauses k r ++ es) ≡ join (k * full + r) (merge es))
        → join full (merge (pauses k r ++ es)) ≡ join (suc k * full + r) (merge es)
    go (yes m) on =
        let e : full + (k * full + r) ≡ suc k * full + r = omega arith in
        ap (join full) (on m) ∙ join_join full (k * full + r) (merge es) ∙ ap (λ (n : ℕ). join n (merge es)) e
    go (no m) on =
        let a : k ≡ 0 = omega arith in
        let b : r ≡ 0 = omega arith in
        let e : full ≡ suc k * full + r = omega arith in
        ap (λ (j : ℕ). join full (merge (pauses j r ++ es))) a
        ∙ ap (λ (j : ℕ). join full (merge (pauses 0 j ++ es))) b
        ∙ ap (λ (n : ℕ). join n (merge es)) e

-- no pause of none
abbrev pub Some : List Event → Type 0
Some [] = 0 ≤ 0
Some (told o ∷ es) = Some es
Some (pause n ∷ es) = (0 < n) × Some es

pub cut_merge : (es : List Event) → Some es → merge (cut es) ≡ merge es
unfolding cut merge
cut_merge [] h = refl
cut_merge (told o ∷ es) h = ap (λ (x : List Event). told o ∷ x) (cut_merge es h)
cut_merge (pause n ∷ es) h =
    let l : 0 < n = h.0 in
    let e : n / full * full + n % full ≡ n = omega arith in
    merge_pauses (n / full) (n % full) (cut es) (omega arith)
    ∙ ap (λ (k : ℕ). join k (merge (cut es))) e
    ∙ ap (join n) (cut_merge es h.1)

-- ---- merging twice is merging

merge_join : (n : ℕ) (es : List Event) → merge (join n es) ≡ join n (merge es)
unfolding merge join
merge_join n [] = refl
merge_join n (told o ∷ es) = refl
merge_join n (pause m ∷ es) = sym (join_join n m (merge es))

pub merge_twice : (es : List Event) → merge (merge es) ≡ merge es
unfolding merge
merge_twice [] = refl
merge_twice (told o ∷ es) = ap (λ (x : List Event). told o ∷ x) (merge_twice es)
merge_twice (pause n ∷ es) = merge_join n (merge es) ∙ ap (join n) (merge_twice es)
