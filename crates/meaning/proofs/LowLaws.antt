-- One word of bits, for BitsLaws: adding a bit that is clear sets it, taking off a bit that is set clears it, the ones grow or fall by 1 and no
-- other bit changes. The trailing zeros of a word that is not 0 stand below its lowest bit.
use Prim.Native.Nat.{ℕ, zero, suc, ◌+◌, ◌-◌, ◌*◌, ◌/◌, ◌%◌, ◌^◌, ◌≤◌, ◌<◌}
use mathlib.Core.Path.{◌≡◌, refl, sym, ◌∙◌, ap, subst}
use mathlib.Core.Logic.{◌≢◌}
use native.Mathlib.Nat.{mod-lt, div-eq_of_lt, add-div_right, add-mul-div_right, div-lt_iff_lt-mul, pow-suc}
use native.Mathlib.Decide.{dec_lt}
use native.Mathlib.Numerals.{add-one, one-add}
use native.Mathlib.Omega.{arith}
use lib.Count.{ones, ones_in, count_trailing_zeros, under, ones_step, ones_cat}
use lib.Pow.{pow_pos, pow_mono, pow-add, shr-shr, shr_lt, split, ones_split, ones_lt, high}

-- ── one bit set ──
shifted : (w k : ℕ) → (w + 2 ^ k) / 2 ^ k ≡ w / 2 ^ k + 1
shifted w k = add-div_right w (pow_pos k)

pub sets_own : (w k : ℕ) → w / 2 ^ k % 2 ≡ 0 → (w + 2 ^ k) / 2 ^ k % 2 ≡ 1
sets_own w k e = rw (shifted w k) (omega arith)

lower_bit : (w j i : ℕ) → (w + 2 ^ (suc i + j)) / 2 ^ j % 2 ≡ w / 2 ^ j % 2
lower_bit w j i =
    let s : (w + 2 ^ (suc i + j)) / 2 ^ j ≡ w / 2 ^ j + 2 ^ suc i =
    ap (λ (x : ℕ). (w + x) / 2 ^ j) (pow-add 2 (suc i) j) ∙ add-mul-div_right w (2 ^ suc i) (pow_pos j) in
    omega (arith, s)

half_kept : (w k : ℕ) → w / 2 ^ k % 2 ≡ 0 → (w + 2 ^ k) / 2 ^ suc k ≡ w / 2 ^ suc k
half_kept w k e =
    let one : (n : ℕ) → n / 2 ^ suc k ≡ n / 2 ^ k / 2 =
    λ n. ap (λ (x : ℕ). n / 2 ^ x) (sym (add-one k)) ∙ sym (shr-shr n k 1) in
    let s : (w / 2 ^ k + 1) / 2 ≡ w / 2 ^ k / 2 = omega arith in
    one (w + 2 ^ k) ∙ ap (λ (x : ℕ). x / 2) (shifted w k) ∙ s ∙ sym (one w)

higher_bit : (w k i : ℕ) → w / 2 ^ k % 2 ≡ 0 → (w + 2 ^ k) / 2 ^ (suc k + i) % 2 ≡ w / 2 ^ (suc k + i) % 2
higher_bit w k i e =
    ap (λ (x : ℕ). x % 2) (sym (shr-shr (w + 2 ^ k) (suc k) i) ∙ ap (λ (x : ℕ). x / 2 ^ i) (half_kept w k e) ∙ shr-shr w (suc k) i)

pub sets_other : (w k j : ℕ) → w / 2 ^ k % 2 ≡ 0 → j ≢ k → (w + 2 ^ k) / 2 ^ j % 2 ≡ w / 2 ^ j % 2
sets_other w k j e d = go (dec_lt j k)
  where
    go : Dec (j < k) → (w + 2 ^ k) / 2 ^ j % 2 ≡ w / 2 ^ j % 2
    go (yes p) =
        let s : suc (k - suc j) + j ≡ k = omega arith in
        subst (λ (x : ℕ). (w + 2 ^ x) / 2 ^ j % 2 ≡ w / 2 ^ j % 2) s (lower_bit w j (k - suc j))
    go (no p) =
        let s : suc k + (j - suc k) ≡ j = omega arith in
        subst (λ (x : ℕ). (w + 2 ^ k) / 2 ^ x % 2 ≡ w / 2 ^ x % 2) s (higher_bit w k (j - suc k) e)

odd_ones : (a : ℕ) → a % 2 ≡ 0 → ones (a + 1) ≡ ones a + 1
odd_ones a e =
    let h : (a + 1) / 2 ≡ a / 2 = omega arith in
    let s : ones (a + 1) ≡ (a + 1) % 2 + ones (a / 2) = ones_step (a + 1) ∙ ap (λ (x : ℕ). (a + 1) % 2 + ones x) h in
    omega (arith, ones_step a, s)

pub sets_ones : (w k : ℕ) → w / 2 ^ k % 2 ≡ 0 → ones (w + 2 ^ k) ≡ ones w + 1
sets_ones w k e =
    let r = mod-lt w (pow_pos k) in
    let a : w + 2 ^ k ≡ (w / 2 ^ k + 1) * 2 ^ k + w % 2 ^ k = omega (arith, split w k) in
    let b : ones (w + 2 ^ k) ≡ ones (w / 2 ^ k + 1) + ones (w % 2 ^ k) = ap ones a ∙ ones_cat k (w / 2 ^ k + 1) (w % 2 ^ k) r in
    let c : ones w ≡ ones (w / 2 ^ k) + ones (w % 2 ^ k) = ap ones (sym (split w k)) ∙ ones_cat k (w / 2 ^ k) (w % 2 ^ k) r in
    omega (arith, b, c, odd_ones (w / 2 ^ k) e)

-- a word below 2 ^ b stays there if the bit is below b
pub sets_low : (w k b : ℕ) → w / 2 ^ k % 2 ≡ 0 → k < b → w < 2 ^ b → w + 2 ^ k < 2 ^ b
sets_low w k b e p l =
    let s : suc (b - suc k) + k ≡ b = omega arith in
    let h : w / 2 ^ k < 2 ^ suc (b - suc k) = shr_lt (suc (b - suc k)) k (subst (λ (x : ℕ). w < 2 ^ x) (sym s) l) in
    let g : (w + 2 ^ k) / 2 ^ k < 2 ^ suc (b - suc k) = rw (shifted w k) (omega (arith, h, e, pow-suc 2 (b - suc k))) in
    let f : w + 2 ^ k < 2 ^ suc (b - suc k) * 2 ^ k = (div-lt_iff_lt-mul (pow_pos k)).0 g in
    subst (λ (x : ℕ). w + 2 ^ k < x) (sym (pow-add 2 (suc (b - suc k)) k) ∙ ap (λ (x : ℕ). 2 ^ x) s) f

-- ── one bit cleared: the same read backwards ──
pub bit_le : (w k : ℕ) → w / 2 ^ k % 2 ≡ 1 → 2 ^ k ≤ w
bit_le w k e = go (dec_lt w (2 ^ k))
  where
    go : Dec (w < 2 ^ k) → 2 ^ k ≤ w
    go (yes p) = absurd (omega (arith, e, div-eq_of_lt p))
    go (no p) = omega arith

back : (w k : ℕ) → w / 2 ^ k % 2 ≡ 1 → w - 2 ^ k + 2 ^ k ≡ w
back w k e = omega (arith, bit_le w k e)

pub clears_own : (w k : ℕ) → w / 2 ^ k % 2 ≡ 1 → (w - 2 ^ k) / 2 ^ k % 2 ≡ 0
clears_own w k e =
    let s : w / 2 ^ k ≡ (w - 2 ^ k) / 2 ^ k + 1 = ap (λ (x : ℕ). x / 2 ^ k) (sym (back w k e)) ∙ shifted (w - 2 ^ k) k in
    omega (arith, s, e)

pub clears_other : (w k j : ℕ) → w / 2 ^ k % 2 ≡ 1 → j ≢ k → (w - 2 ^ k) / 2 ^ j % 2 ≡ w / 2 ^ j % 2
clears_other w k j e d = sym (sets_other (w - 2 ^ k) k j (clears_own w k e) d) ∙ ap (λ (x : ℕ). x / 2 ^ j % 2) (back w k e)

pub clears_ones : (w k : ℕ) → w / 2 ^ k % 2 ≡ 1 → ones (w - 2 ^ k) + 1 ≡ ones w
clears_ones w k e = sym (sets_ones (w - 2 ^ k) k (clears_own w k e)) ∙ ap ones (back w k e)

-- ── a word below 2 ^ b has no bit at b or above ──
pub bit_low : (w k b : ℕ) → w < 2 ^ b → w / 2 ^ k % 2 ≡ 1 → k < b
bit_low w k b l e = go (dec_lt k b)
  where
    go : Dec (k < b) → k < b
    go (yes p) = p
    go (no p) =
        let q : b ≤ k = omega arith in
        absurd (omega (arith, l, bit_le w k e, pow_mono q))

-- all bits below b
pub full_set : (b j : ℕ) → j < b → (2 ^ b - 1) / 2 ^ j % 2 ≡ 1
full_set b j p =
    let s : suc (b - suc j) + j ≡ b = omega arith in
    let d : (2 ^ b - 1) / 2 ^ j ≡ 2 ^ suc (b - suc j) - 1 =
    ap (λ (x : ℕ). (2 ^ x - 1) / 2 ^ j) (sym s) ∙ ap (λ (x : ℕ). x / 2 ^ j) (ones_split (suc (b - suc j)) j)
    ∙ high (2 ^ suc (b - suc j) - 1) j (ones_lt j) in
    omega (arith, d, pow-suc 2 (b - suc j), pow_pos (b - suc j))

-- ── the lowest bit ──
halved : (n t : ℕ) → n / 2 ^ suc t ≡ n / 2 / 2 ^ t
halved n t = ap (λ (x : ℕ). n / 2 ^ x) (sym (one-add t)) ∙ sym (shr-shr n 1 t)

half_low : (k n : ℕ) → n < 2 ^ suc k → n / 2 < 2 ^ k
half_low k n l = omega (arith, l, pow-suc 2 k)

half_not_0 : (n : ℕ) → n ≢ 0 → n % 2 ≡ 0 → n / 2 ≢ 0
half_not_0 n h e z = h (omega arith)

pub lowest_set : (k n : ℕ) → n ≢ 0 → n < 2 ^ k → n / 2 ^ count_trailing_zeros k n % 2 ≡ 1
unfolding count_trailing_zeros
lowest_set zero n h l = absurd (omega arith)
lowest_set (suc k) n h l = go (λ e. lowest_set k (n / 2) (half_not_0 n h e) (half_low k n l)) (n % 2) refl
  where
    go : (n % 2 ≡ 0 → n / 2 / 2 ^ count_trailing_zeros k (n / 2) % 2 ≡ 1) → (d : ℕ) → n % 2 ≡ d → n / 2 ^ under d (count_trailing_zeros k (n / 2)) % 2 ≡ 1
    go rest zero e = ap (λ (x : ℕ). x % 2) (halved n (count_trailing_zeros k (n / 2))) ∙ rest e
    go rest (suc d) e = omega arith

pub lowest_low : (k n : ℕ) → n ≢ 0 → n < 2 ^ k → count_trailing_zeros k n < k
unfolding count_trailing_zeros
lowest_low zero n h l = absurd (omega arith)
lowest_low (suc k) n h l = go (λ e. lowest_low k (n / 2) (half_not_0 n h e) (half_low k n l)) (n % 2) refl
  where
    go : (n % 2 ≡ 0 → count_trailing_zeros k (n / 2) < k) → (d : ℕ) → n % 2 ≡ d → under d (count_trailing_zeros k (n / 2)) < suc k
    go rest zero e = omega (arith, rest e)
    go rest (suc d) e = omega arith

pub none_lower : (k n j : ℕ) → j < count_trailing_zeros k n → n / 2 ^ j % 2 ≡ 0
unfolding count_trailing_zeros
none_lower zero n j p = absurd (omega arith)
none_lower (suc k) n j p = go (none_lower k (n / 2)) (n % 2) refl j p
  where
    go : ((j : ℕ) → j < count_trailing_zeros k (n / 2) → n / 2 / 2 ^ j % 2 ≡ 0)
        → (d : ℕ) → n % 2 ≡ d → (j : ℕ) → j < under d (count_trailing_zeros k (n / 2)) → n / 2 ^ j % 2 ≡ 0
    go rest zero e zero p = omega arith
    go rest zero e (suc j) p = ap (λ (x : ℕ). x % 2) (halved n j) ∙ rest j (omega arith)
    go rest (suc d) e j p = absurd (omega arith)

pub ones_none : ones 0 ≡ 0
unfolding ones ones_in
ones_none = refl
