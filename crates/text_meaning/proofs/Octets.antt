-- The octets of a number of 32 bits, high octet first, are those that `to_be_bytes` gives.
use Rattle.std.proofs.Common.{◌≡◌, ℕ, ◌/◌, ◌%◌, ◌<◌, [], ◌∷◌, ap, ◌∙◌, arith}
use Rattle.std.specs.Int.{w32, to_be_bytes}
use Rattle.text_meaning.specs.Shapes.{of32}

pub of32_bytes : (n : ℕ) → n < 4294967296 → of32 n ≡ to_be_bytes w32 n
of32_bytes n h =
    let a : n / 65536 / 256 ≡ n / 16777216 % 256 = omega arith in
    let b : n % 65536 / 256 ≡ n / 256 % 256 = omega arith in
    let d : n % 65536 % 256 ≡ n % 256 = omega arith in
    ap (λ (x : ℕ). x ∷ n / 65536 % 256 ∷ n % 65536 / 256 ∷ n % 65536 % 256 ∷ []) a
    ∙ ap (λ (x : ℕ). n / 16777216 % 256 ∷ n / 65536 % 256 ∷ x ∷ n % 65536 % 256 ∷ []) b
    ∙ ap (λ (x : ℕ). n / 16777216 % 256 ∷ n / 65536 % 256 ∷ n / 256 % 256 ∷ x ∷ []) d
