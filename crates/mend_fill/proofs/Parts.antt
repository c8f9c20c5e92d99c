-- How long a part of a list is; the digits of a number, from the last to the first.
use Prim.Native.Nat.{ℕ, zero, suc, ◌+◌, ◌-◌, ◌/◌, ◌%◌, ◌^◌, ◌≤◌, ◌<◌}
use mathlib.Core.Path.{◌≡◌, sym, ap, ◌∙◌}
use mathlib.Core.List.{List, [], ◌∷◌, ◌++◌, append_assoc}
use lib.ListN.{length, set, take, drop, length-drop, length-set}
use lib.Seq.{length-take-le, take_all, drop-cons, drop-set-lt, get_or-set_same}
use native.Mathlib.Nat.{pow-suc}
use native.Mathlib.Omega.{arith}
use borrow.Author.Tests.{lt-ltb, le-ltb}
use Rattle.list_lines.specs.Text.{decimal}
use Rattle.mend_fill.specs.Lines.{numeral}

pub part_long : (s : List ℕ) (from to : ℕ) → from ≤ to → to ≤ length s → length (take (to - from) (drop from s)) ≡ to - from
part_long s from to h l = length-take-le (to - from) (drop from s) (omega (arith, length-drop from s))

-- ---- digits

one_more : (i n : ℕ) → 10 ≤ n → decimal (suc i) n ≡ decimal i (n / 10) ++ ((48 + n % 10) ∷ [])
unfolding decimal
one_more i n h = simp (le-ltb n 10 h)

only_one : (i n : ℕ) → n < 10 → decimal (suc i) n ≡ (48 + n) ∷ []
unfolding decimal
only_one i n h = simp (lt-ltb n 10 h)

set_here : (d : List ℕ) (i x : ℕ) → i < length d → drop i (set d i x) ≡ x ∷ drop (suc i) d
set_here d i x h =
    drop-cons (set d i x) i 0 (omega (arith, h, length-set d i x))
    ∙ ap (λ (y : ℕ). y ∷ drop (suc i) (set d i x)) (get_or-set_same d i x 0 h)
    ∙ ap (λ (y : List ℕ). x ∷ y) (drop-set-lt (suc i) d i x (omega arith))

pub digit_step : (n i j rest : ℕ) (d : List ℕ) → i ≡ suc j → i < length d → 10 ≤ rest
    → numeral n ≡ decimal (suc i) rest ++ drop (suc i) d → numeral n ≡ decimal (suc j) (rest / 10) ++ drop (suc j) (set d i (48 + rest % 10))
digit_step n i j rest d e l h f =
    f ∙ ap (λ (x : List ℕ). x ++ drop (suc i) d) (one_more i rest h)
    ∙ append_assoc (decimal i (rest / 10)) ((48 + rest % 10) ∷ []) (drop (suc i) d)
    ∙ ap (λ (x : List ℕ). decimal i (rest / 10) ++ x) (sym (set_here d i (48 + rest % 10) l))
    ∙ ap (λ (k : ℕ). decimal k (rest / 10) ++ drop k (set d i (48 + rest % 10))) e

pub digit_last : (n i rest : ℕ) (d : List ℕ) → i < length d → length d ≡ 20 → rest < 10
    → numeral n ≡ decimal (suc i) rest ++ drop (suc i) d → numeral n ≡ take (20 - i) (drop i (set d i (48 + rest)))
digit_last n i rest d l m h f =
    f ∙ ap (λ (x : List ℕ). x ++ drop (suc i) d) (only_one i rest h)
    ∙ sym (set_here d i (48 + rest) l)
    ∙ sym (take_all (20 - i) (drop i (set d i (48 + rest))) (omega (arith, m, length-drop i (set d i (48 + rest)), length-set d i (48 + rest))))

-- a digit fewer
pub digit_fewer : (i rest : ℕ) → rest < 10 ^ suc i → 10 ≤ rest → (0 < i) × (rest / 10 < 10 ^ i)
digit_fewer zero rest h l = absurd (omega (arith, h, l))
digit_fewer (suc i) rest h l = (omega arith, omega (arith, h, pow-suc 10 (suc i)))
