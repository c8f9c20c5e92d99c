-- Merging a pause into events, and the octets that come of it: full records may be written as soon as they are full, and
-- only the rest, below 65,535, is kept for what follows.
use Prim.Native.Nat.{ℕ, zero, suc, ◌+◌, ◌*◌, ◌/◌, ◌%◌, ◌≤◌, ◌<◌}
use mathlib.Core.Path.{◌≡◌, refl, sym, ap, ◌∙◌}
use mathlib.Core.List.{List, [], ◌∷◌, ◌++◌, append_assoc, append-nil}
use native.Mathlib.Omega.{arith}
use Rattle.text_meaning.specs.Events.{Event, told, pause, full, sl_of, fulls, rest_of, octets_of, octets_all, join, merge}

-- a pause of none is no pause
pub join_none : (es : List Event) → octets_all (join 0 es) ≡ octets_all es
unfolding octets_all octets_of join fulls rest_of
join_none [] = refl
join_none (told o ∷ es) = refl
join_none (pause n ∷ es) = let e : 0 + n ≡ n = omega arith in ap (λ (k : ℕ). octets_of (pause k) ++ octets_all es) e

-- two pauses before events are one
pub join_join : (r n : ℕ) (es : List Event) → join r (join n es) ≡ join (r + n) es
unfolding join
join_join r n [] = refl
join_join r n (told o ∷ es) = refl
join_join r n (pause k ∷ es) = let e : r + (n + k) ≡ r + n + k = omega arith in ap (λ (j : ℕ). pause j ∷ es) e

fulls_add : (q k : ℕ) → fulls (q + k) ≡ fulls q ++ fulls k
unfolding fulls
fulls_add zero k = let e : 0 + k ≡ k = omega arith in ap fulls e
fulls_add (suc q) k =
    let e : suc q + k ≡ suc (q + k) = omega arith in
    ap fulls e ∙ ap (λ (x : List ℕ). sl_of full ++ x) (fulls_add q k) ∙ sym (append_assoc (sl_of full) (fulls q) (fulls k))

-- q full records and t slots more
pub pause_full : (q t : ℕ) → octets_of (pause (q * full + t)) ≡ fulls q ++ octets_of (pause t)
unfolding octets_of
pause_full q t =
    let d : (q * full + t) / full ≡ q + t / full = omega arith in
    let m : (q * full + t) % full ≡ t % full = omega arith in
    ap (λ (k : ℕ). fulls k ++ rest_of ((q * full + t) % full)) d
    ∙ ap (λ (k : ℕ). fulls (q + t / full) ++ rest_of k) m
    ∙ ap (λ (x : List ℕ). x ++ rest_of (t % full)) (fulls_add q (t / full))
    ∙ append_assoc (fulls q) (fulls (t / full)) (rest_of (t % full))

pub join_full : (q t : ℕ) (es : List Event) → octets_all (join (q * full + t) es) ≡ fulls q ++ octets_all (join t es)
unfolding octets_all join
join_full q t [] = ap (λ (x : List ℕ). x ++ []) (pause_full q t) ∙ append_assoc (fulls q) (octets_of (pause t)) []
join_full q t (told o ∷ es) =
    ap (λ (x : List ℕ). x ++ octets_all (told o ∷ es)) (pause_full q t) ∙ append_assoc (fulls q) (octets_of (pause t)) (octets_all (told o ∷ es))
join_full q t (pause k ∷ es) =
    let e : q * full + t + k ≡ q * full + (t + k) = omega arith in
    ap (λ (j : ℕ). octets_of (pause j) ++ octets_all es) e
    ∙ ap (λ (x : List ℕ). x ++ octets_all es) (pause_full q (t + k))
    ∙ append_assoc (fulls q) (octets_of (pause (t + k))) (octets_all es)

-- a rest below 65,535 is one record, or none
pub pause_rest : (r : ℕ) → r < full → octets_of (pause r) ≡ rest_of r
unfolding octets_of fulls
pause_rest r h =
    let d : r / full ≡ 0 = omega arith in
    let m : r % full ≡ r = omega arith in
    ap (λ (k : ℕ). fulls k ++ rest_of (r % full)) d ∙ ap rest_of m
