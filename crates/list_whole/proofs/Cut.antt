-- The program's limit: a fill of the input's first 65,536 octets is the fill that is promised.
use Prim.Native.Nat.{ℕ, zero, suc, ◌+◌, ◌≤◌, ◌<◌, min}
use mathlib.Core.Path.{◌≡◌, refl, sym, ap, subst, ◌∙◌}
use mathlib.Core.Logic.{⊎_elim}
use mathlib.Core.List.{List, [], ◌∷◌}
use native.Mathlib.Omega.{arith}
use lib.Dec.{ltb}
use borrow.Author.Tests.{lt-ltb, le-ltb}
use lib.ListN.{length, take, length-take}
use lib.Seq.{take_all}
use Rattle.list_meaning.specs.Trace.{limit, goes_further}
use Rattle.list_whole.specs.Run.{World}
use Rattle.list_whole.specs.Fill.{FillOf, FillPromise}
use Rattle.list_whole.proofs.Ran.{sided}

take_less : (j k : ℕ) (l : List ℕ) → j ≤ k → take j (take k l) ≡ take j l
take_less zero k l h = refl
take_less (suc j) zero l h = absurd (omega arith)
take_less (suc j) (suc k) [] h = refl
take_less (suc j) (suc k) (x ∷ xs) h = ap (λ (y : List ℕ). x ∷ y) (take_less j k xs (omega arith))

pub take_cut : (input : List ℕ) (end : ℕ) → end ≡ min (length input) limit → take end input ≡ take limit input
take_cut input end e =
    ⊎_elim
    (λ (l : length input < limit). take_all end input (omega arith) ∙ sym (take_all limit input (omega arith)))
    (λ (l : limit ≤ length input). let q : end ≡ limit = omega arith in ap (λ (n : ℕ). take n input) q)
    (sided (length input) limit (ltb (length input) limit) refl)

pub fill_cut : (input : List ℕ) (end : ℕ) (w : World) (out : List ℕ) (w' : World) (out' : List ℕ) (used : ℕ)
    → end ≡ min (length input) limit → FillOf (ltb limit (length input)) (take end input) w out w' out' used
    → FillPromise input w out w' out' used
unfolding goes_further
fill_cut input end w out w' out' used e f =
    subst (λ (x : List ℕ). FillOf (ltb limit (length input)) x w out w' out' used) (take_cut input end e) f

-- 65,537 octets show whether the input goes on behind the first 65,536
pub take-take : (input : List ℕ) → take limit (take (limit + 1) input) ≡ take limit input
take-take input =
    ⊎_elim
    (λ (l : length input < limit). ap (take limit) (take_all (limit + 1) input (omega arith)))
    (λ (l : limit ≤ length input). take_less limit (limit + 1) input (omega arith))
    (sided (length input) limit (ltb (length input) limit) refl)

pub goes_on : (input : List ℕ) → ltb limit (length (take (limit + 1) input)) ≡ ltb limit (length input)
goes_on input =
    ⊎_elim
    (λ (l : limit < length input). lt-ltb limit (length (take (limit + 1) input)) (omega (arith, length-take (limit + 1) input)) ∙ sym (lt-ltb limit (length input) l))
    (λ (l : length input ≤ limit). le-ltb limit (length (take (limit + 1) input)) (omega (arith, length-take (limit + 1) input)) ∙ sym (le-ltb limit (length input) l))
    (sided limit (length input) (ltb limit (length input)) refl)
