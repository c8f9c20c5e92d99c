-- `call_slot::put_header` meets its contract: five octets written, the payload kept.
use mathlib.Core.Path.{◌≡◌, ap, ◌∙◌}
use mathlib.Core.List.{List, [], ◌∷◌, ◌++◌}
use Prim.Native.Nat.{ℕ, ◌/◌, ◌%◌, ◌^◌, ◌<◌, ◌≤◌}
use native.Mathlib.Omega.{arith}
use lib.ListN.{length, set, drop}
use Rattle.base_hec.specs.Word.{octets_of}
use Rattle.call_slot.proofs.put_header.Goals as goal

-- of a header's four octets the first is below 256 by itself
header_set : (l h : List ℕ) (head fifth : ℕ) → 5 ≤ length l → head < 2 ^ 32
    → h ≡ head / 2 ^ 24 % 2 ^ 8 ∷ head / 2 ^ 16 % 2 ^ 8 ∷ head / 2 ^ 8 % 2 ^ 8 ∷ head % 2 ^ 8 ∷ []
    → set (h ++ drop 4 l) 4 fifth ≡ octets_of head fifth ++ drop 5 l
unfolding octets_of
header_set [] h head fifth long low e = absurd (omega arith)
header_set (a ∷ []) h head fifth long low e = absurd (omega arith)
header_set (a ∷ b ∷ []) h head fifth long low e = absurd (omega arith)
header_set (a ∷ b ∷ c ∷ []) h head fifth long low e = absurd (omega arith)
header_set (a ∷ b ∷ c ∷ d ∷ []) h head fifth long low e = absurd (omega arith)
header_set (a ∷ b ∷ c ∷ d ∷ o ∷ l) h head fifth long low e =
    ap (λ (x : List ℕ). set (x ++ o ∷ l) 4 fifth) e
    ∙ ap (λ (x : ℕ). x ∷ head / 2 ^ 16 % 2 ^ 8 ∷ head / 2 ^ 8 % 2 ^ 8 ∷ head % 2 ^ 8 ∷ fifth ∷ l) (omega arith)

pub returns : goal.returns
returns c =
    header_set c.args.part.now c.copy_from_slice.new.self c.args.head c.args.fifth (omega (arith, c.requires)) (omega arith)
    (c.copy_from_slice.ensures.after ∙ c.to_be_bytes.ensures)
