-- `cases::one_case`: the name of a case has three ASCII letters, so it is text.
use Rattle.std.proofs.Common.{rules, arith, refl, ◌≡◌, ℕ, zero, suc, ◌+◌, ◌<◌, List, [], ◌∷◌, Result, Ok, Err}
use Rattle.std.specs.Prelude.{MatchResult}
use Rattle.std.specs.Result.{IsOk}
use Rattle.std.specs.Str.{IsAscii, IsUtf8}
use Rattle.std.proofs.lemmas.Str.{IsUtf8-from_ascii}
use Rattle.cases.proofs.one_case.Goals as goal

ascii : (a b c : ℕ) → a < 128 → b < 128 → c < 128 → IsAscii (a ∷ b ∷ c ∷ [])
ascii a b c p q r zero = p
ascii a b c p q r (suc zero) = q
ascii a b c p q r (suc (suc zero)) = r
ascii a b c p q r (suc (suc (suc n))) = omega arith

text : {T E : Type 0} (r : Result T E) (bs : List ℕ) (P : T → Type 0) (Q : E → Type 0) → IsUtf8 bs → MatchResult r P (λ e. (IsUtf8 bs → ⊥) × Q e) → IsOk r
text (Ok s) bs P Q u m = refl
text (Err e) bs P Q u m = absurd (m.0 u)

pub unwrap-path-requires : goal.unwrap-path-requires
unwrap-path-requires c = text _ _ _ _ (IsUtf8-from_ascii _ (ascii _ _ _ (omega arith) (search rules) (search rules))) c.from_utf8.ensures.cases
