-- A slot's own part of a burst's buffers: what is written into the part, written back, is what the burst writes into the whole.
use Prim.Native.Nat.{ℕ, zero, suc, ◌+◌, ◌*◌, ◌≤◌, ◌<◌}
use mathlib.Core.Path.{◌≡◌, sym, ◌∙◌, ap}
use mathlib.Core.List.{List, [], ◌∷◌, ◌++◌, append-nil}
use native.Mathlib.Omega.{arith}
use lib.ListN.{length, get_or, set, take, drop, length-set, length-drop, take-append-drop, drop_of_length-le}
use lib.Seq.{length-take-le, take_all, take-take, drop-drop, set-append_left, get_or-set_same, get_or-set_other}
use Rattle.meaning.specs.declared.Answer.{Answer}
use Rattle.meaning.specs.State.{write_cell}
use Rattle.meaning.specs.Line.{line_cell}
use Rattle.burst_out.specs.Handout.{own_octets, shown_into, write_answer}
use Rattle.call_burst.specs.Burst.{cell_lent}

-- the list l with p in place of the w elements from a on
abbrev pub put : List ℕ → ℕ → ℕ → List ℕ → List ℕ
put l a w p = take a l ++ (p ++ drop (a + w) l)

-- the part itself
abbrev pub part : List ℕ → ℕ → ℕ → List ℕ
part l a w = take w (drop a l)

pub part_long : (l : List ℕ) (a w : ℕ) → a + w ≤ length l → length (part l a w) ≡ w
part_long l a w h = length-take-le w (drop a l) (omega (arith, length-drop a l))

-- put back as it came
pub put_same : (l : List ℕ) (a w : ℕ) → put l a w (part l a w) ≡ l
put_same l a w =
    ap (λ (k : List ℕ). take a l ++ (take w (drop a l) ++ k)) (sym (drop-drop w a l))
    ∙ ap (λ (k : List ℕ). take a l ++ k) (take-append-drop w (drop a l))
    ∙ take-append-drop a l

set_append_add : (xs ys : List ℕ) (n k v : ℕ) → n ≡ length xs + k → set (xs ++ ys) n v ≡ xs ++ set ys k v
set_append_add [] ys n k v e = let h : n ≡ k = omega (arith, e) in ap (λ (m : ℕ). set ys m v) h
set_append_add (x ∷ xs) ys zero k v e = absurd (omega (arith, e))
set_append_add (x ∷ xs) ys (suc n) k v e = ap (λ (l : List ℕ). x ∷ l) (set_append_add xs ys n k v (omega (arith, e)))

module _ (l : List ℕ) (a w : ℕ) (room : a + w ≤ length l) where
  -- a number written into the part
  put_set : (p : List ℕ) (k v : ℕ) → k < length p → put l a w (set p k v) ≡ set (put l a w p) (a + k) v
  put_set p k v h =
      let e : length (take a l) ≡ a = length-take-le a l (omega arith) in
      ap (λ (q : List ℕ). take a l ++ q) (sym (set-append_left p (drop (a + w) l) k v h))
      ∙ sym (set_append_add (take a l) (p ++ drop (a + w) l) (a + k) k v (omega (arith, e)))

-- ---- the answer's six numbers
pub answer_put : (l : List ℕ) (i : ℕ) (x : Answer) → 6 * i + 6 ≤ length l → put l (6 * i) 6 (write_answer (part l (6 * i) 6) 0 x) ≡ write_answer l i x
unfolding write_answer
answer_put l i x h =
    let a = 6 * i in
    let p0 = part l a 6 in
    let n0 = part_long l a 6 h in
    let p1 = set p0 0 x.number in
    let n1 = length-set p0 0 x.number in
    let p2 = set p1 1 x.verdict in
    let n2 = length-set p1 1 x.verdict in
    let p3 = set p2 2 x.vci in
    let n3 = length-set p2 2 x.vci in
    let p4 = set p3 3 x.d in
    let n4 = length-set p3 3 x.d in
    let p5 = set p4 4 x.space in
    let n5 = length-set p4 4 x.space in
    let r1 : put l a 6 p1 ≡ set l (a + 0) x.number = put_set l a 6 h p0 0 x.number (omega (arith, n0)) ∙ ap (λ (q : List ℕ). set q (a + 0) x.number) (put_same l a 6) in
    let r2 : put l a 6 p2 ≡ set (set l (a + 0) x.number) (a + 1) x.verdict = put_set l a 6 h p1 1 x.verdict (omega (arith, n0, n1)) ∙ ap (λ (q : List ℕ). set q (a + 1) x.verdict) r1 in
    put_set l a 6 h p5 5 x.departing (omega (arith, n0, n1, n2, n3, n4, n5))
    ∙ ap (λ (q : List ℕ). set q (a + 5) x.departing) (put_set l a 6 h p4 4 x.space (omega (arith, n0, n1, n2, n3, n4))
    ∙ ap (λ (q : List ℕ). set q (a + 4) x.space) (put_set l a 6 h p3 3 x.d (omega (arith, n0, n1, n2, n3))
    ∙ ap (λ (q : List ℕ). set q (a + 3) x.d) (put_set l a 6 h p2 2 x.vci (omega (arith, n0, n1, n2))
    ∙ ap (λ (q : List ℕ). set q (a + 2) x.vci) r2)))
    ∙ ap (λ (n : ℕ). set (set (set (set (set (set l n x.number) (a + 1) x.verdict) (a + 2) x.vci) (a + 3) x.d) (a + 4) x.space) (a + 5) x.departing) (omega arith)

-- and what the whole holds there then
pub answer_space : (l : List ℕ) (i : ℕ) (x : Answer) → 6 * i + 6 ≤ length l → get_or (write_answer l i x) (6 * i + 4) 0 ≡ x.space
unfolding write_answer
answer_space l i x h =
    let l1 = set l (6 * i) x.number in
    let l2 = set l1 (6 * i + 1) x.verdict in
    let l3 = set l2 (6 * i + 2) x.vci in
    let l4 = set l3 (6 * i + 3) x.d in
    get_or-set_other (set l4 (6 * i + 4) x.space) (6 * i + 5) (6 * i + 4) x.departing 0 (λ e. omega (arith, e))
    ∙ get_or-set_same l4 (6 * i + 4) x.space 0
    (omega (arith, h, length-set l (6 * i) x.number, length-set l1 (6 * i + 1) x.verdict, length-set l2 (6 * i + 2) x.vci, length-set l3 (6 * i + 3) x.d))

pub answer_departing : (l : List ℕ) (i : ℕ) (x : Answer) → 6 * i + 6 ≤ length l → get_or (write_answer l i x) (6 * i + 5) 0 ≡ x.departing
unfolding write_answer
answer_departing l i x h =
    let l1 = set l (6 * i) x.number in
    let l2 = set l1 (6 * i + 1) x.verdict in
    let l3 = set l2 (6 * i + 2) x.vci in
    let l4 = set l3 (6 * i + 3) x.d in
    let l5 = set l4 (6 * i + 4) x.space in
    get_or-set_same l5 (6 * i + 5) x.departing 0
    (omega (arith, h, length-set l (6 * i) x.number, length-set l1 (6 * i + 1) x.verdict, length-set l2 (6 * i + 2) x.vci, length-set l3 (6 * i + 3) x.d, length-set l4 (6 * i + 4) x.space))

-- ---- the departing cell's 53 octets
pub shown_put : (l : List ℕ) (i : ℕ) (cells : List ℕ) (space : ℕ) → 53 * i + 53 ≤ length l
    → put l (53 * i) 53 (shown_into (part l (53 * i) 53) 0 cells space) ≡ shown_into l i cells space
unfolding shown_into own_octets write_cell
shown_put l i cells space h =
    let p = part l (53 * i) 53 in
    let n = part_long l (53 * i) 53 h in
    let own : own_octets p 0 ≡ own_octets l i = take_all 53 p (omega (arith, n)) in
    ap (λ (q : List ℕ). put l (53 * i) 53 (line_cell cells (own_octets p 0) space ++ q)) (drop_of_length-le p {i = 53} (omega (arith, n)))
    ∙ ap (λ (q : List ℕ). put l (53 * i) 53 q) (append-nil (line_cell cells (own_octets p 0) space))
    ∙ ap (λ (q : List ℕ). put l (53 * i) 53 (line_cell cells q space)) own

-- ---- the cell that arrives
pub lent_part : (l : List ℕ) (i size : ℕ) → size ≤ 53 → cell_lent (part l (53 * i) 53) 0 size ≡ cell_lent l i size
unfolding cell_lent
lent_part l i size h = take-take size 53 (drop (53 * i) l) h
