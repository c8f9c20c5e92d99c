-- A number's digits as document 01 has them are the text that the library prints.
use mathlib.Core.Path.{◌≡◌, refl, sym, ap, ◌∙◌}
use mathlib.Core.Bool.{Bool, true, false}
use mathlib.Core.List.{List, [], ◌∷◌, ◌++◌, append_assoc}
use mathlib.Core.Logic.{◌⊎◌, inl, inr, ⊎_elim}
use Prim.Native.Nat.{ℕ, zero, suc, ◌+◌, ◌-◌, ◌*◌, ◌/◌, ◌%◌, ◌^◌, ◌≤◌, ◌<◌, max}
use native.Mathlib.Nat.{pow-suc, one-le-pow, eq-zero-or-pos}
use lib.ListN.{length, take, drop, length-append, take-append-drop}
use native.Mathlib.Omega.{arith}
use borrow.Author.Tests.{lt-ltb, le-ltb, ltb-true, ltb-false}
use lib.Dec.{ltb}
use Rattle.std.specs.Fmt.{decimal as printed}
use Rattle.std.proofs.lemmas.Fmt.{decimal_digit, decimal_step, decimal_nonempty, length-decimal-le}
use Rattle.list_lines.specs.Text.{decimal, decimal_of}
use Rattle.list_lines.specs.Put.{Put}
use Rattle.list_lines.proofs.Puts.{put_between}

decimal_one : (k n : ℕ) → n < 10 → decimal (suc k) n ≡ (48 + n) ∷ []
unfolding decimal
decimal_one k n h = simp (lt-ltb n 10 h)

decimal_more : (k n : ℕ) → 10 ≤ n → decimal (suc k) n ≡ decimal k (n / 10) ++ ((48 + n % 10) ∷ [])
unfolding decimal
decimal_more k n h = simp (le-ltb n 10 h)

pub one_digit : (n : ℕ) → n < 10 → decimal_of n ≡ (48 + n) ∷ []
unfolding decimal_of
one_digit n h = decimal_one 9 n h

-- where so many digits are enough
decimal_is : (k n : ℕ) → n < 10 ^ suc k → n < 2 ^ 64 → printed n ≡ decimal (suc k) n
decimal_is zero n h f = decimal_digit n h ∙ sym (decimal_one zero n h)
decimal_is (suc k) n h f =
    elim (eq-zero-or-pos (10 - n)) [
      | inr p ↦ let s : n < 10 = omega arith in decimal_digit n s ∙ sym (decimal_one (suc k) n s)
      | inl z ↦
          let l : 10 ≤ n = omega arith in
          decimal_step n l f
          ∙ ap (λ (d : List ℕ). d ++ ((48 + n % 10) ∷ [])) (decimal_is k (n / 10) (omega (arith, h, pow-suc 10 (suc k))) (omega arith))
          ∙ sym (decimal_more (suc k) n l)
    ]

pub decimal_printed : (n : ℕ) → n < 2 ^ 32 → printed n ≡ decimal_of n
unfolding decimal_of
decimal_printed n h = decimal_is 9 n (omega arith) (omega arith)

-- as many digits as the power of ten says that is no greater than the number; 0 has one digit, as 1 has
digits_above : (k n : ℕ) → 10 ^ k ≤ max n 1 → n < 2 ^ 64 → k < length (printed n)
digits_above zero n h f = decimal_nonempty n f
digits_above (suc k) n h f =
    let p = pow-suc 10 k in
    let q : 1 ≤ 10 ^ k = one-le-pow k 10 (omega arith) in
    let l : 10 ≤ n = omega (arith, h, p, q) in
    let s = digits_above k (n / 10) (omega (arith, h, p, q, l)) (omega arith) in
    omega (arith, s, ap length (decimal_step n l f), length-append (printed (n / 10)) ((48 + n % 10) ∷ []))

pub digits_many : (k n : ℕ) → 10 ^ k ≤ max n 1 → max n 1 < 10 * 10 ^ k → n < 2 ^ 64 → length (printed n) ≡ k + 1
digits_many k n h h2 f =
    omega (arith, digits_above k n h f, length-decimal-le (suc k) n (omega arith) (omega (arith, h2, pow-suc 10 k)) f)

-- the digits that were written so that they end behind k others from place i, where k is the power of ten
pub put_digits : {l l' : List ℕ} {i n w e : ℕ} (k s : ℕ) → w ≡ n → 10 ^ k ≤ max n 1 → max n 1 < 10 * 10 ^ k → n < 2 ^ 32 → e ≡ i + 1 + k → e ≤ length l
    → s + length (printed w) ≡ e → drop s l' ≡ printed w ++ drop e l → take s l' ≡ take s l → Put l i (decimal_of n) l' e
put_digits {l} {l'} {i} {n} {w} {e} k s q low high f is le start written before =
    let d : printed w ≡ decimal_of n = ap printed q ∙ decimal_printed n f in
    let many : length (printed w) ≡ k + 1 = ap (λ (x : ℕ). length (printed x)) q ∙ digits_many k n low high (omega arith) in
    let here : s ≡ i = omega arith in
    put_between (omega (arith, ap length d)) le
    (sym (take-append-drop s l') ∙ rw (before, written, d, here))

-- In groups of four: the digits of n are those of n / 10,000, and four more.
abbrev pub four_of : ℕ → List ℕ
four_of n = (48 + n / 100 / 10) ∷ (48 + n / 100 % 10) ∷ (48 + n % 100 / 10) ∷ (48 + n % 100 % 10) ∷ []

-- a number is below another or not
abbrev sided : (n m : ℕ) (b : Bool) → ltb n m ≡ b → (n < m) ⊎ (m ≤ n)
sided n m true e = inl (ltb-true n m e)
sided n m false e = inr (ltb-false n m e)

-- one place more than is enough changes nothing
decimal_fuel : (k n : ℕ) → n < 10 ^ suc k → decimal (suc k) n ≡ decimal (suc (suc k)) n
decimal_fuel zero n h = decimal_one zero n h ∙ sym (decimal_one 1 n h)
decimal_fuel (suc k) n h =
    ⊎_elim
    (λ (l : n < 10). decimal_one (suc k) n l ∙ sym (decimal_one (suc (suc k)) n l))
    (λ (l : 10 ≤ n). decimal_more (suc k) n l ∙ ap (λ (d : List ℕ). d ++ ((48 + n % 10) ∷ [])) (decimal_fuel k (n / 10) (omega (arith, h, pow-suc 10 (suc k)))) ∙ sym (decimal_more (suc (suc k)) n l))
    (sided n 10 (ltb n 10) refl)

-- a digit more on the right
snoc : {xs ys : List ℕ} {a b : ℕ} → xs ≡ ys → a ≡ b → xs ++ (a ∷ []) ≡ ys ++ (b ∷ [])
snoc e f = rw (e, f)

-- four digits from the right
decimal_snocs : (k n : ℕ) → 10000 ≤ n
    → decimal (suc (suc (suc (suc k)))) n
    ≡ (((decimal k (n / 10000) ++ ((48 + n % 10000 / 100 / 10) ∷ [])) ++ ((48 + n % 10000 / 100 % 10) ∷ [])) ++ ((48 + n % 10000 % 100 / 10) ∷ [])) ++ ((48 + n % 10000 % 100 % 10) ∷ [])
decimal_snocs k n h =
    decimal_more (suc (suc (suc k))) n (omega arith)
    ∙ snoc (decimal_more (suc (suc k)) (n / 10) (omega arith)
    ∙ snoc (decimal_more (suc k) (n / 10 / 10) (omega arith)
    ∙ snoc (decimal_more k (n / 10 / 10 / 10) (omega arith)
    ∙ snoc (ap (λ (m : ℕ). decimal k m) (omega arith)) (omega arith)) (omega arith)) (omega arith)) (omega arith)

decimal_four : (k n : ℕ) → 10000 ≤ n → decimal (suc (suc (suc (suc k)))) n ≡ decimal k (n / 10000) ++ four_of (n % 10000)
decimal_four k n h = decimal_snocs k n h ∙ simp append_assoc

split_digits : (n : ℕ) → 10000 ≤ n → n < 10000000000 → decimal_of n ≡ decimal_of (n / 10000) ++ four_of (n % 10000)
unfolding decimal_of
split_digits n l h =
    decimal_four 6 n l
    ∙ ap (λ (d : List ℕ). d ++ four_of (n % 10000))
    (decimal_fuel 5 (n / 10000) (omega arith) ∙ decimal_fuel 6 (n / 10000) (omega arith) ∙ decimal_fuel 7 (n / 10000) (omega arith) ∙ decimal_fuel 8 (n / 10000) (omega arith))

pub split_twice : (n : ℕ) → 100000000 ≤ n → n < 10000000000 → decimal_of n ≡ (decimal_of (n / 10000 / 10000) ++ four_of (n / 10000 % 10000)) ++ four_of (n % 10000)
split_twice n l h = split_digits n (omega arith) h ∙ ap (λ (d : List ℕ). d ++ four_of (n % 10000)) (split_digits (n / 10000) (omega arith) (omega arith))
