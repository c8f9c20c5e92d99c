-- Text after text in a buffer is one text, and a promise `Put` fixes the buffer and the place behind.
use mathlib.Core.Path.{◌≡◌, refl, sym, ap, ◌∙◌}
use mathlib.Core.List.{List, [], ◌∷◌, ◌++◌, append_assoc}
use Prim.Native.Nat.{ℕ, suc, ◌+◌, ◌-◌, ◌≤◌}
use native.Mathlib.Numerals.{add-one}
use native.Mathlib.Omega.{arith}
use borrow.Rule.Slice.PartMut.{put_mid, Post-is}
use lib.ListN.{length, set, take, drop, length-append}
use lib.Seq.{sets, sets-eq, take_at, length-take-le}
use Rattle.list_lines.specs.Put.{puts, Put}

pub puts_append : (l : List ℕ) (i : ℕ) (xs ys : List ℕ) → puts (puts l i xs) (i + length xs) ys ≡ puts l i (xs ++ ys)
puts_append l i [] ys = ap (λ (k : ℕ). puts l k ys) (omega arith)
puts_append l i (x ∷ xs) ys = ap (λ (k : ℕ). puts (puts (set l i x) (i + 1) xs) k ys) (omega arith) ∙ puts_append (set l i x) (i + 1) xs ys

pub put_is : {l : List ℕ} {i : ℕ} {xs ys l' : List ℕ} {r : ℕ} → ys ≡ xs → Put l i xs l' r → Put l i ys l' r
put_is e p = rw e p

-- nothing was written
pub put_none : (l : List ℕ) (i : ℕ) → Put l i [] l i
put_none l i = record { list = refl; next = omega arith }

-- one text and then another
pub put_then : {l : List ℕ} {i : ℕ} {xs ys l' l'' : List ℕ} {j r : ℕ} → Put l i xs l' j → Put l' j ys l'' r → Put l i (xs ++ ys) l'' r
put_then {l} {i} {xs} {ys} {l'} {l''} {j} {r} p q =
    record {
      list = q.list ∙ ap (λ (k : ℕ). puts l' k ys) p.next ∙ ap (λ (m : List ℕ). puts m (i + length xs) ys) p.list ∙ puts_append l i xs ys;
      next = omega (arith, p.next, q.next, length-append xs ys);
    }

-- one octet
pub put_one : (l : List ℕ) (i x : ℕ) → Put l i (x ∷ []) (set l i x) (i + 1)
put_one l i x = record { list = refl; next = refl }

puts_sets : (l : List ℕ) (i : ℕ) (xs : List ℕ) → puts l i xs ≡ sets l i xs
puts_sets l i [] = refl
puts_sets l i (x ∷ xs) = ap (λ (k : ℕ). puts (set l i x) k xs) (add-one i) ∙ puts_sets (set l i x) (suc i) xs

-- what stood before place i, the text, and what stood from place r on
pub put_between : {l xs l' : List ℕ} {i r : ℕ} → r ≡ i + length xs → r ≤ length l → l' ≡ take i l ++ (xs ++ drop r l) → Put l i xs l' r
put_between {l} {xs} {l'} {i} {r} e h q =
    let m : i + length xs ≤ length l = omega arith in
    record { list = q ∙ rw e (sym (puts_sets l i xs ∙ sets-eq xs l i m ∙ append_assoc (take i l) xs (drop (i + length xs) l))); next = e }

-- a part that was written over, from place i to place r
pub put_part : (l : List ℕ) {xs ys : List ℕ} (i r : ℕ) → r ≡ i + length xs → r ≤ length l → ys ≡ xs → Put l i xs (put_mid i (r - i) l ys) r
put_part l i r e h q = put_between e h (rw (q, Post-is i r l (omega arith)))

-- where there is room: what stood before the place, the text, and what stood behind the text's end
pub put_whole : {l : List ℕ} {i : ℕ} {xs l' : List ℕ} {r : ℕ} → Put l i xs l' r → r ≤ length l → l' ≡ take i l ++ (xs ++ drop r l)
put_whole {l} {i} {xs} {l'} {r} p h =
    let n : r ≡ i + length xs = p.next in
    let m : i + length xs ≤ length l = omega arith in
    p.list ∙ puts_sets l i xs ∙ sets-eq xs l i m ∙ rw (n, append_assoc)

pub put_front : {l : List ℕ} {i : ℕ} {xs l' : List ℕ} {r : ℕ} → Put l i xs l' r → r ≤ length l → take r l' ≡ take i l ++ xs
put_front {l} {i} {xs} {l'} {r} p h =
    let n : r ≡ i + length xs = p.next in
    let b : i ≤ length l = omega arith in
    let e : length (take i l ++ xs) ≡ r = length-append (take i l) xs ∙ ap (λ (k : ℕ). k + length xs) (length-take-le i l b) ∙ sym n in
    ap (take r) (put_whole p h ∙ sym (append_assoc (take i l) xs (drop r l))) ∙ take_at (take i l ++ xs) (drop r l) r e

-- two results of one promise coincide: the buffer, and the place behind the text
pub put_once : {l : List ℕ} {i : ℕ} {text a b : List ℕ} {r s : ℕ} → Put l i text a r → Put l i text b s → (a ≡ b) × (r ≡ s)
put_once p q = (p.list ∙ sym q.list, p.next ∙ sym q.next)
