-- S/L rounded up is S/L plus one where a rest is left, and it is how many slots empty the bucket: after as many S is used
-- up, after fewer something is left of it.
use Rattle.std.proofs.Common.{◌≡◌, ℕ, suc, ◌+◌, ◌-◌, ◌*◌, ◌/◌, ◌<◌, ◌≤◌, sym, mul-le-mul_right, suc-mul, mul-le-mul_left, le-div_iff_mul-le, mul-one, div-mul-le_self, arith}
use native.Mathlib.Nat.{div-eq_of_lt-le, lt-div-mul-add}

-- a rest is left
pub with_rest : (S L : ℕ) → 0 < L → S / L * L < S → S / L + 1 ≡ (S + (L - 1)) / L
with_rest S L p h =
    sym (div-eq_of_lt-le {k = S / L + 1} L
    (omega (arith, suc-mul (S / L) L))
    (omega (arith, suc-mul (S / L) L, suc-mul (S / L + 1) L, lt-div-mul-add {a = S} p)))

-- none is left
pub without_rest : (S L : ℕ) → 0 < L → S ≤ S / L * L → S / L ≡ (S + (L - 1)) / L
without_rest S L p h =
    sym (div-eq_of_lt-le {k = S / L} L
    (omega (arith, div-mul-le_self S L))
    (omega (arith, suc-mul (S / L) L)))

-- S/L is below S where a rest is left, so that one more fits where S does
pub whole_below : (S L : ℕ) → 0 < L → S / L * L < S → S / L < S
whole_below S L p h = omega (arith, mul-le-mul_left (S / L) p, mul-one (S / L))

-- as many slots: their product reaches S
pub emptied : (S L k : ℕ) → 0 < L → (S + (L - 1)) / L ≤ k → S ≤ k * L
emptied S L k p h = omega (arith, lt-div-mul-add {a = S + (L - 1)} p, mul-le-mul_right L h)

-- fewer slots: their product stays below S
pub left_over : (S L k : ℕ) → 0 < L → k < (S + (L - 1)) / L → k * L < S
left_over S L k p h = omega (arith, suc-mul k L, (le-div_iff_mul-le {k = L} {x = suc k} {y = S + (L - 1)} p).0 h)
