-- A number that was printed is the number that is read, and so are hex digits: digit by digit from the left, each is worth
-- what the parser makes of it.
use Prim.Native.Nat.{ℕ, zero, suc, ◌+◌, ◌*◌, ◌/◌, ◌%◌, ◌^◌, ◌≤◌, ◌<◌}
use mathlib.Core.Path.{◌≡◌, refl, sym, ap, ◌∙◌}
use mathlib.Core.Bool.{Bool, true, false}
use mathlib.Core.Logic.{◌⊎◌, inl, inr, ⊎_elim}
use mathlib.Core.List.{List, [], ◌∷◌, ◌++◌, append_assoc, append-nil}
use native.Mathlib.Nat.{pow-suc}
use native.Mathlib.Omega.{arith}
use lib.Dec.{ltb}
use lib.ListN.{length, get_or}
use borrow.Author.Tests.{lt-ltb, le-ltb, le-leb, eq-eqb, ne_eqb, ltb-true, ltb-false}
use Rattle.meaning.specs.Plain.{next}
use Rattle.list_lines.specs.Text.{decimal, decimal_of}
use Rattle.text_meaning.specs.Grammar.{number_of, part, digit_of, digits, within, number, nibble_of, hexes}
use Rattle.text_print.specs.Print.{hex_digit, hex_pair, hex_of}

sided : (n m : ℕ) (b : Bool) → ltb n m ≡ b → (n < m) ⊎ (m ≤ n)
sided n m true e = inl (ltb-true n m e)
sided n m false e = inr (ltb-false n m e)

-- the digit of a number below ten is worth that number
digit_worth : (n : ℕ) → n < 10 → digit_of (48 + n) ≡ n
unfolding digit_of
digit_worth n h = simp (le-leb 48 (48 + n) (omega arith), lt-ltb (48 + n) 58 (omega arith)) (omega arith)

-- one digit more
digits_more : (v d : ℕ) (s : List ℕ) → d < 10 → digits v ((48 + d) ∷ s) ≡ digits (v * 10 + d) s
unfolding digits
digits_more v d s h = simp (digit_worth d h, ne_eqb d 10 (λ e. omega arith))

-- an octet that is no digit ends a number
digits_end : (v x : ℕ) (s : List ℕ) → digit_of x ≡ 10 → digits v (x ∷ s) ≡ number_of v (x ∷ s)
unfolding digits
digits_end v x s h = simp (eq-eqb (digit_of x) 10 h)

number_one : (most n : ℕ) (s : List ℕ) → 1 ≤ n → n < 10 → number most ((48 + n) ∷ s) ≡ within most (digits n s)
unfolding number
number_one most n s l h = simp (digit_worth n h, ne_eqb n 10 (λ e. omega arith), ne_eqb n 0 (λ e. omega arith))

decimal_one : (k n : ℕ) → n < 10 → decimal (suc k) n ≡ (48 + n) ∷ []
unfolding decimal
decimal_one k n h = simp (lt-ltb n 10 h)

decimal_more : (k n : ℕ) → 10 ≤ n → decimal (suc k) n ≡ decimal k (n / 10) ++ ((48 + n % 10) ∷ [])
unfolding decimal
decimal_more k n h = simp (le-ltb n 10 h)

-- the digits of n, then s: n is read, and the digits of s go on from there
number_decimal : (most k n : ℕ) (s : List ℕ) → 1 ≤ n → n < 10 ^ k → number most (decimal k n ++ s) ≡ within most (digits n s)
number_decimal most zero n s l h = absurd (omega (arith, h))
number_decimal most (suc k) n s l h =
    ⊎_elim
    (λ (b : n < 10). ap (λ (d : List ℕ). number most (d ++ s)) (decimal_one k n b) ∙ number_one most n s l b)
    (λ (b : 10 ≤ n). ap (λ (d : List ℕ). number most (d ++ s)) (decimal_more k n b)
    ∙ ap (number most) (append_assoc (decimal k (n / 10)) ((48 + n % 10) ∷ []) s)
    ∙ number_decimal most k (n / 10) ((48 + n % 10) ∷ s) (omega arith) (omega (arith, h, pow-suc 10 k))
    ∙ ap (within most) (digits_more (n / 10) (n % 10) s (omega arith) ∙ ap (λ (v : ℕ). digits v s) (omega arith)))
    (sided n 10 (ltb n 10) refl)

number_zero : (most x : ℕ) (s : List ℕ) → number most (decimal 10 0 ++ (x ∷ s)) ≡ next (number_of 0 (x ∷ s))
unfolding number decimal digit_of
number_zero most x s = refl

-- a printed number, and the octet behind it, which is no digit
pub number_back : (most n x : ℕ) (s : List ℕ) → n ≤ most → n < 10000000000 → digit_of x ≡ 10
    → number most (decimal_of n ++ (x ∷ s)) ≡ next (number_of n (x ∷ s))
unfolding decimal_of within
number_back most zero x s l h e = number_zero most x s
number_back most (suc n) x s l h e =
    number_decimal most 10 (suc n) (x ∷ s) (omega arith) (omega (arith, h))
    ∙ ap (within most) (digits_end (suc n) x s e)
    ∙ simp (le-leb (suc n) most l)

-- a hex digit is worth the half octet that it shows
nibble_back : (h : ℕ) → h < 16 → nibble_of (hex_digit h) ≡ h
unfolding nibble_of
nibble_back h l =
    ⊎_elim
    (λ (b : h < 10). simp (lt-ltb h 10 b, le-leb 48 (48 + h) (omega arith), lt-ltb (48 + h) 58 (omega arith)) (omega arith))
    (λ (b : 10 ≤ h). simp (le-ltb h 10 b, le-leb 48 (87 + h) (omega arith), le-ltb (87 + h) 58 (omega arith), le-leb 65 (87 + h) (omega arith), le-ltb (87 + h) 71 (omega arith), le-leb 97 (87 + h) (omega arith), lt-ltb (87 + h) 103 (omega arith)) (omega arith))
    (sided h 10 (ltb h 10) refl)

hexes_one : (k : ℕ) (o : List ℕ) (x : ℕ) (s : List ℕ) → x < 256 → hexes (suc k) o (hex_pair x ++ s) ≡ hexes k (o ++ (x ∷ [])) s
unfolding hexes
hexes_one k o x s h =
    simp (nibble_back (x / 16) (omega arith), nibble_back (x % 16) (omega arith), ne_eqb (x / 16) 16 (λ e. omega arith), ne_eqb (x % 16) 16 (λ e. omega arith))
    (ap (λ (v : ℕ). hexes k (o ++ (v ∷ [])) s) (omega arith))

hexes_none : (o s : List ℕ) → hexes 0 o s ≡ next (part (o ++ []) s)
unfolding hexes
hexes_none o s = ap (λ (p : List ℕ). next (part p s)) (sym (append-nil o))

-- printed octets, behind those that were read before
pub hexes_back : (xs : List ℕ) (o s : List ℕ) → ((i : ℕ) → i < length xs → get_or xs i 0 < 256)
    → hexes (length xs) o (hex_of xs ++ s) ≡ next (part (o ++ xs) s)
unfolding hex_of
hexes_back [] o s h = hexes_none o s
hexes_back (x ∷ xs) o s h =
    ap (hexes (suc (length xs)) o) (append_assoc (hex_pair x) (hex_of xs) s)
    ∙ hexes_one (length xs) o x (hex_of xs ++ s) (h 0 (omega arith))
    ∙ hexes_back xs (o ++ (x ∷ [])) s (λ i l. h (suc i) (omega arith))
    ∙ ap (λ (p : List ℕ). next (part p s)) (append_assoc o (x ∷ []) xs)
