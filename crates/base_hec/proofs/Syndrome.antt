-- A changed bit adds its own syndrome to the header's, for every header; a clean header's is 0, and no other's. Assumes
-- nothing.
use mathlib.Core.Path.{◌≡◌, sym, ap, ◌∙◌}
use mathlib.Core.List.{List}
use Prim.Native.Nat.{ℕ, ◌-◌, ◌*◌, ◌^◌, ◌≤◌, ◌<◌}
use lib.ListN.{length, get_or}
use lib.Bits.{bit_xor, xor_self, xor_shifted}
use Rattle.base_hec.specs.Check.{remainder, coset, check_of, head_of, hec_of, syndrome_of}
use Rattle.base_hec.specs.WrongBit.{one_bit, flipped}
use Rattle.base_hec.specs.Modes.{Octets}
use Rattle.base_hec.proofs.Xor.{xor_same, xor_swap}
use Rattle.base_hec.proofs.Remainder.{remainder_linear, remainder_small}
use Rattle.base_hec.proofs.Flip.{number_of, number_flipped, octets_flipped}

-- the syndrome is the remainder of the whole header, and the coset
of_number : (l : List ℕ) → Octets l → syndrome_of l ≡ bit_xor (remainder 32 (number_of l)) coset
unfolding syndrome_of hec_of check_of number_of
of_number l octets =
    let h : ℕ = head_of l * 2 ^ 8 in
    let o : ℕ = get_or l 4 0 in
    xor_swap (remainder 32 h) coset o
    ∙ ap (λ (x : ℕ). bit_xor x coset)
    (ap (bit_xor (remainder 32 h)) (sym (remainder_small 32 o (octets 4)))
    ∙ sym (remainder_linear 32 h o)
    ∙ ap (remainder 32) (xor_shifted (head_of l) 8 o (octets 4)))

pub syndrome_flipped : (i : ℕ) (l : List ℕ) → i < 40 → 5 ≤ length l → Octets l
    → syndrome_of (flipped i l) ≡ bit_xor (syndrome_of l) (one_bit i)
unfolding one_bit
syndrome_flipped i l below long octets =
    of_number (flipped i l) (octets_flipped i l below long octets)
    ∙ ap (λ (x : ℕ). bit_xor (remainder 32 x) coset) (number_flipped i l below long octets)
    ∙ ap (λ (x : ℕ). bit_xor x coset) (remainder_linear 32 (number_of l) (2 ^ (39 - i)))
    ∙ xor_swap (remainder 32 (number_of l)) (remainder 32 (2 ^ (39 - i))) coset
    ∙ ap (λ (x : ℕ). bit_xor x (remainder 32 (2 ^ (39 - i)))) (sym (of_number l octets))

pub clean_zero : (l : List ℕ) → get_or l 4 0 ≡ hec_of l → syndrome_of l ≡ 0
unfolding syndrome_of
clean_zero l e = ap (bit_xor (hec_of l)) e ∙ xor_self (hec_of l)

pub zero_clean : (l : List ℕ) → syndrome_of l ≡ 0 → get_or l 4 0 ≡ hec_of l
unfolding syndrome_of
zero_clean l e = sym (xor_same (hec_of l) (get_or l 4 0) e)
