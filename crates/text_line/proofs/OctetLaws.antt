-- The grammar's readings by the octet that a text begins with, one octet further; and readings one after the other.
use Rattle.std.proofs.Common.{◌≡◌, ℕ, suc, ◌+◌, ◌-◌, ◌*◌, ◌≤◌, ◌<◌, Bool, true, false, List, [], ◌∷◌, ◌++◌, length, take, drop, slice_index_or, Option, Some, None, refl, sym, ap, ◌∙◌, arith}
use Rattle.std.proofs.Math.Seq.{take-length}
use borrow.Author.Tests.{eq-eqb, ne_eqb, le-leb, lt-leb, lt-ltb, le-ltb, eqb-true, eqb-false}
use lib.Dec.{eqb}
use Rattle.meaning.specs.Plain.{Out, refused, next, when◌then◌else◌}
use Rattle.text_meaning.specs.Grammar.{Number, number_of, Part, part, expect, digit_of, digits, within, number, nibble_of, hexes}
use Rattle.text_line.specs.Found.{Finds, digit_at, nibble_at}

-- the first octet, and the others
abbrev pub first : List ℕ → ℕ
first t = slice_index_or t 0 0

abbrev pub others : List ℕ → List ℕ
others t = take (length t - 1) (drop 1 t)

others_is : (x : ℕ) (t : List ℕ) → t ≡ others (x ∷ t)
others_is x t = let e : length t ≡ length (x ∷ t) - 1 = omega arith in sym (take-length t) ∙ ap (λ (k : ℕ). take k t) e

-- an answer by its case
pub finds_none : {X Y : Type 0} (view : X → Y) (r : Option X) {o : Out Y} → r ≡ None → o ≡ refused → Finds view r o
finds_none view None e f = f
finds_none view (Some x) e f = absurd (cc)

pub finds_same : {X Y : Type 0} (view : X → Y) (r : Option X) {o q : Out Y} → Finds view r o → q ≡ o → Finds view r q
finds_same view None f e = e ∙ f
finds_same view (Some x) f e = e ∙ f

pub expect_is : (x : ℕ) (t : List ℕ) → 1 ≤ length t → first t ≡ x → expect x t ≡ next (others t)
unfolding expect
expect_is x [] h e = absurd (omega arith)
expect_is x (y ∷ t) h e = simp (eq-eqb y x e) (ap (λ (l : List ℕ). next l) (others_is y t))

pub expect_not : (x : ℕ) (t : List ℕ) → (1 ≤ length t → first t ≡ x → ⊥) → expect x t ≡ refused
unfolding expect
expect_not x [] h = refl
expect_not x (y ∷ t) h = simp (ne_eqb y x (h (omega arith)))

-- decimal digits
pub digit_is : (t : List ℕ) → 1 ≤ length t → 48 ≤ first t → first t < 58 → digit_at t ≡ next (number_of (first t - 48) (others t))
unfolding digit_at digit_of
digit_is [] h a b = absurd (omega arith)
digit_is (x ∷ t) h a b =
    simp (le-leb 48 x a, lt-ltb x 58 b, ne_eqb (x - 48) 10 (λ z. omega arith)) (ap (λ (l : List ℕ). next (number_of (x - 48) l)) (others_is x t))

pub digit_low : (x : ℕ) → x < 48 → digit_of x ≡ 10
unfolding digit_of
digit_low x h = simp (lt-leb 48 x h)

pub digit_high : (x : ℕ) → 58 ≤ x → digit_of x ≡ 10
unfolding digit_of
digit_high x h = simp (le-leb 48 x (omega arith), le-ltb x 58 h)

pub digit_not : (t : List ℕ) → (1 ≤ length t → digit_of (first t) ≡ 10) → digit_at t ≡ refused
unfolding digit_at
digit_not [] h = refl
digit_not (x ∷ t) h = simp (eq-eqb (digit_of x) 10 (h (omega arith)))

-- what a digit that is found, or not found, says of the octet
record Begins (value none : ℕ) (t s : List ℕ) (of : ℕ → ℕ) : Type 0 where
  octet : ℕ
  text : t ≡ octet ∷ s
  is : of octet ≡ value
  some : of octet ≡ none → ⊥

begins : (of : ℕ → ℕ) (none x : ℕ) (t : List ℕ) (n : Number) (b : Bool) → eqb (of x) none ≡ b → (when b then refused else next (number_of (of x) t)) ≡ next n
    → Begins n.value none (x ∷ t) n.rest of
begins of none x t n true e h = absurd (cc)
begins of none x t n false e h =
    let m : number_of (of x) t ≡ n = cc in
    record { octet = x; text = ap (λ (k : Number). x ∷ k.rest) m; is = ap (λ (k : Number). k.value) m; some = eqb-false (of x) none e }

digit_begins : (t : List ℕ) (n : Number) → digit_at t ≡ next n → Begins n.value 10 t n.rest digit_of
unfolding digit_at
digit_begins [] n e = absurd (cc)
digit_begins (x ∷ t) n e = begins digit_of 10 x t n (eqb (digit_of x) 10) refl e

nibble_begins : (t : List ℕ) (n : Number) → nibble_at t ≡ next n → Begins n.value 16 t n.rest nibble_of
unfolding nibble_at
nibble_begins [] n e = absurd (cc)
nibble_begins (x ∷ t) n e = begins nibble_of 16 x t n (eqb (nibble_of x) 16) refl e

none_of : (of : ℕ → ℕ) (none x : ℕ) (n : Number) (b : Bool) → eqb (of x) none ≡ b → (when b then refused else next n) ≡ refused → of x ≡ none
none_of of none x n true e h = eqb-true (of x) none e
none_of of none x n false e h = absurd (cc)

-- the digits that follow, once more
pub digits_stop : (v : ℕ) (t : List ℕ) → digit_at t ≡ refused → digits v t ≡ number_of v t
unfolding digits digit_at
digits_stop v [] e = refl
digits_stop v (x ∷ t) e = simp (eq-eqb (digit_of x) 10 (none_of digit_of 10 x (number_of (digit_of x) t) (eqb (digit_of x) 10) refl e))

pub digits_go : (v : ℕ) (t : List ℕ) {n : Number} → digit_at t ≡ next n → digits v t ≡ digits (v * 10 + n.value) n.rest
unfolding digits
digits_go v t {n} e =
    let b = digit_begins t n e in
    ap (digits v) b.text ∙ simp (ne_eqb (digit_of b.octet) 10 b.some) (ap (λ (d : ℕ). digits (v * 10 + d) n.rest) b.is)

grow_one : (v x : ℕ) (t : List ℕ) (b : Bool) → v * 10 + digit_of x ≤ (digits (v * 10 + digit_of x) t).value
    → v ≤ (when b then number_of v (x ∷ t) else digits (v * 10 + digit_of x) t).value
grow_one v x t true h = omega arith
grow_one v x t false h = omega arith

pub digits_grow : (v : ℕ) (t : List ℕ) → v ≤ (digits v t).value
unfolding digits
digits_grow v [] = omega arith
digits_grow v (x ∷ t) = grow_one v x t (eqb (digit_of x) 10) (digits_grow (v * 10 + digit_of x) t)

pub within_is : (most : ℕ) {n : Number} → n.value ≤ most → within most n ≡ next n
unfolding within
within_is most {n} h = simp (le-leb n.value most h)

-- a value above its bound stays above it
pub within_not : (most v : ℕ) (t : List ℕ) → most < v → within most (digits v t) ≡ refused
unfolding within
within_not most v t h = simp (lt-leb (digits v t).value most (omega (arith, digits_grow v t)))

-- a number by its first digit
pub number_no : (most : ℕ) (t : List ℕ) → digit_at t ≡ refused → number most t ≡ refused
unfolding number digit_at
number_no most [] e = refl
number_no most (x ∷ t) e = simp (eq-eqb (digit_of x) 10 (none_of digit_of 10 x (number_of (digit_of x) t) (eqb (digit_of x) 10) refl e))

module _ (most : ℕ) (t : List ℕ) {n : Number} (e : digit_at t ≡ next n) where
  pub number_zero : n.value ≡ 0 → number most t ≡ next (number_of 0 n.rest)
  unfolding number
  number_zero z =
      let b = digit_begins t n e in
      ap (number most) b.text ∙ simp (ne_eqb (digit_of b.octet) 10 b.some, eq-eqb (digit_of b.octet) 0 (b.is ∙ z))

  pub number_digits : (n.value ≡ 0 → ⊥) → number most t ≡ within most (digits n.value n.rest)
  unfolding number
  number_digits z =
      let b = digit_begins t n e in
      ap (number most) b.text
      ∙ simp (ne_eqb (digit_of b.octet) 10 b.some, ne_eqb (digit_of b.octet) 0 (λ q. z (sym b.is ∙ q))) (ap (λ (d : ℕ). within most (digits d n.rest)) b.is)

-- hex digits
module _ (x : ℕ) where
  nibble_digit : 48 ≤ x → x < 58 → nibble_of x ≡ x - 48
  unfolding nibble_of
  nibble_digit l h = simp (le-leb 48 x l, lt-ltb x 58 h)

  nibble_capital : 65 ≤ x → x < 71 → nibble_of x ≡ x - 55
  unfolding nibble_of
  nibble_capital l h = simp (le-leb 48 x (omega arith), le-ltb x 58 (omega arith), le-leb 65 x l, lt-ltb x 71 h)

  nibble_small : 97 ≤ x → x < 103 → nibble_of x ≡ x - 87
  unfolding nibble_of
  nibble_small l h = simp (le-leb 48 x (omega arith), le-ltb x 58 (omega arith), le-leb 65 x (omega arith), le-ltb x 71 (omega arith), le-leb 97 x l, lt-ltb x 103 h)

  pub nibble_low : x < 48 → nibble_of x ≡ 16
  unfolding nibble_of
  nibble_low h = simp (lt-leb 48 x h, lt-leb 65 x (omega arith), lt-leb 97 x (omega arith))

  pub nibble_between : 58 ≤ x → x < 65 → nibble_of x ≡ 16
  unfolding nibble_of
  nibble_between l h = simp (le-leb 48 x (omega arith), le-ltb x 58 l, lt-leb 65 x h, lt-leb 97 x (omega arith))

  pub nibble_above : 71 ≤ x → x < 97 → nibble_of x ≡ 16
  unfolding nibble_of
  nibble_above l h = simp (le-leb 48 x (omega arith), le-ltb x 58 (omega arith), le-leb 65 x (omega arith), le-ltb x 71 l, lt-leb 97 x h)

  pub nibble_high : 103 ≤ x → nibble_of x ≡ 16
  unfolding nibble_of
  nibble_high l = simp (le-leb 48 x (omega arith), le-ltb x 58 (omega arith), le-leb 65 x (omega arith), le-ltb x 71 (omega arith), le-leb 97 x (omega arith), le-ltb x 103 l)

pub nibble_not : (t : List ℕ) → (1 ≤ length t → nibble_of (first t) ≡ 16) → nibble_at t ≡ refused
unfolding nibble_at
nibble_not [] h = refl
nibble_not (x ∷ t) h = simp (eq-eqb (nibble_of x) 16 (h (omega arith)))

nibble_is : (t : List ℕ) (d : ℕ) → 1 ≤ length t → nibble_of (first t) ≡ d → d < 16 → nibble_at t ≡ next (number_of d (others t))
unfolding nibble_at
nibble_is [] d h e l = absurd (omega arith)
nibble_is (x ∷ t) d h e l =
    simp (ne_eqb (nibble_of x) 16 (λ z. omega (arith, e))) (ap (λ (n : ℕ). next (number_of n t)) e ∙ ap (λ (s : List ℕ). next (number_of d s)) (others_is x t))

module _ (t : List ℕ) (h : 1 ≤ length t) where
  pub is_digit : 48 ≤ first t → first t < 58 → nibble_at t ≡ next (number_of (first t - 48) (others t))
  is_digit a b = nibble_is t (first t - 48) h (nibble_digit (first t) a b) (omega arith)

  pub is_capital : 65 ≤ first t → first t < 71 → nibble_at t ≡ next (number_of (first t - 65 + 10) (others t))
  is_capital a b = let e : first t - 55 ≡ first t - 65 + 10 = omega arith in nibble_is t (first t - 65 + 10) h (nibble_capital (first t) a b ∙ e) (omega arith)

  pub is_small : 97 ≤ first t → first t < 103 → nibble_at t ≡ next (number_of (first t - 97 + 10) (others t))
  is_small a b = let e : first t - 87 ≡ first t - 97 + 10 = omega arith in nibble_is t (first t - 97 + 10) h (nibble_small (first t) a b ∙ e) (omega arith)

-- one octet more of a cell
nibble_none : (x : ℕ) (t : List ℕ) → nibble_at (x ∷ t) ≡ refused → nibble_of x ≡ 16
unfolding nibble_at
nibble_none x t e = none_of nibble_of 16 x (number_of (nibble_of x) t) (eqb (nibble_of x) 16) refl e

module _ (k : ℕ) (o t : List ℕ) where
  pub no_high : nibble_at t ≡ refused → hexes (suc k) o t ≡ refused
  unfolding hexes
  no_high e = go t e
    where
      go : (t : List ℕ) → nibble_at t ≡ refused → hexes (suc k) o t ≡ refused
      go [] e = refl
      go (x ∷ []) e = refl
      go (x ∷ y ∷ t) e = simp (eq-eqb (nibble_of x) 16 (nibble_none x (y ∷ t) e))

  module _ {h : Number} (e : nibble_at t ≡ next h) where
    pub no_low : nibble_at h.rest ≡ refused → hexes (suc k) o t ≡ refused
    unfolding hexes
    no_low f = let b = nibble_begins t h e in ap (hexes (suc k) o) b.text ∙ go b.octet b.some h.rest f
      where
        go : (x : ℕ) → (nibble_of x ≡ 16 → ⊥) → (s : List ℕ) → nibble_at s ≡ refused → hexes (suc k) o (x ∷ s) ≡ refused
        go x n [] f = refl
        go x n (y ∷ s) f = simp (ne_eqb (nibble_of x) 16 n, eq-eqb (nibble_of y) 16 (nibble_none y s f))

    pub one_more : {l : Number} → nibble_at h.rest ≡ next l → hexes (suc k) o t ≡ hexes k (o ++ ((h.value * 16 + l.value) ∷ [])) l.rest
    unfolding hexes
    one_more {l} f =
        let b = nibble_begins t h e in
        let d = nibble_begins h.rest l f in
        ap (hexes (suc k) o) (b.text ∙ ap (λ (s : List ℕ). b.octet ∷ s) d.text)
        ∙ simp (ne_eqb (nibble_of b.octet) 16 b.some, ne_eqb (nibble_of d.octet) 16 d.some)
        (ap (λ (x : ℕ). hexes k (o ++ ((x * 16 + nibble_of d.octet) ∷ [])) l.rest) b.is ∙ ap (λ (x : ℕ). hexes k (o ++ ((h.value * 16 + x) ∷ [])) l.rest) d.is)

-- no octet more
pub all_read : (k e : ℕ) (l s : List ℕ) {x : Out Part} → k ≡ e → hexes (e - k) (take k l) s ≡ x → x ≡ next (part (take e l) s)
unfolding hexes
all_read k e l s f h =
    let z : e - k ≡ 0 = omega arith in
    sym h ∙ ap (λ (j : ℕ). hexes j (take k l) s) z ∙ ap (λ (j : ℕ). next (part (take j l) s)) f
