-- Four words at a time: a four of which the OR is 0 has four words that are.
use Prim.Native.Nat.{ℕ, zero, suc, ◌+◌, ◌-◌, ◌*◌, ◌≤◌, ◌<◌}
use mathlib.Core.Path.{◌≡◌, refl, sym, ◌∙◌, ap}
use mathlib.Core.List.{List, []}
use native.Mathlib.Omega.{arith}
use lib.ListN.{get_or}
use Rattle.std.proofs.Common.{take, drop, bit_or}
use Rattle.std.proofs.lemmas.List.{get_or-take, get_or-drop, drop-drop}
use Rattle.std.proofs.lemmas.Nat.{le_or_l, le_or_r}
use Rattle.std.specs.Simd.{first_chunks}

-- four k of the first n
four_is : (n k : ℕ) (words : List ℕ) → k < n → get_or (first_chunks 4 n words) k [] ≡ take 4 (drop (4 * k) words)
four_is zero k words p = absurd (omega arith)
four_is (suc n) zero words p = refl
four_is (suc n) (suc k) words p =
    let e : 4 + 4 * k ≡ 4 * suc k = omega arith in
    four_is n k (drop 4 words) (omega arith) ∙ ap (take 4) (drop-drop (4 * k) 4 words ∙ ap (λ (i : ℕ). drop i words) e)

-- the OR of the first two and three of a four
abbrev two : List ℕ → ℕ
two four = bit_or (get_or four 0 0) (get_or four 1 0)

abbrev three : List ℕ → ℕ
three four = bit_or (two four) (get_or four 2 0)

each_none : (four : List ℕ) → bit_or (three four) (get_or four 3 0) ≡ 0 → (j : ℕ) → j < 4 → get_or four j 0 ≡ 0
each_none four e zero l =
    omega (arith, e, le_or_l (three four) (get_or four 3 0), le_or_l (two four) (get_or four 2 0), le_or_l (get_or four 0 0) (get_or four 1 0))
each_none four e (suc zero) l =
    omega (arith, e, le_or_l (three four) (get_or four 3 0), le_or_l (two four) (get_or four 2 0), le_or_r (get_or four 0 0) (get_or four 1 0))
each_none four e (suc (suc zero)) l = omega (arith, e, le_or_l (three four) (get_or four 3 0), le_or_r (two four) (get_or four 2 0))
each_none four e (suc (suc (suc zero))) l = omega (arith, e, le_or_r (three four) (get_or four 3 0))
each_none four e (suc (suc (suc (suc j)))) l = absurd (omega arith)

pub four_none : (words : List ℕ) (n k : ℕ) (four : List ℕ) → k < n → get_or (first_chunks 4 n words) k [] ≡ four
    → bit_or (three four) (get_or four 3 0) ≡ 0 → (w : ℕ) → 4 * k ≤ w → w < 4 * k + 4 → get_or words w 0 ≡ 0
four_none words n k four p is e w a b =
    let back : 4 * k + (w - 4 * k) ≡ w = omega arith in
    ap (λ (i : ℕ). get_or words i 0) (sym back) ∙ sym (get_or-drop (4 * k) words (w - 4 * k) 0)
    ∙ sym (get_or-take 4 (drop (4 * k) words) (w - 4 * k) 0 (omega arith))
    ∙ ap (λ (l : List ℕ). get_or l (w - 4 * k) 0) (sym (four_is n k words p) ∙ is) ∙ each_none four e (w - 4 * k) (omega arith)
