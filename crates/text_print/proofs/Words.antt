-- Each line part by part, in the order in which the functions put the parts; and hex digits, octet after octet.
use mathlib.Core.Path.{◌≡◌, refl, sym, ap, ◌∙◌}
use mathlib.Core.List.{List, [], ◌∷◌, ◌++◌, append_assoc}
use Prim.Native.Nat.{ℕ, ◌+◌, ◌<◌}
use native.Mathlib.Numerals.{add-one}
use native.Mathlib.Omega.{arith}
use lib.ListN.{length, get_or, take, drop, length-drop}
use lib.Seq.{take-suc, get_or-drop}
use Rattle.list_lines.specs.Put.{Put}
use Rattle.list_lines.proofs.Puts.{put_is}
use Rattle.meaning.specs.Numbers.{octets}
use Rattle.meaning.specs.Words.{Second}
use Rattle.trace_record.specs.declared.Head.{Head}
use Rattle.trace_record.specs.Trace.{GM, CA, SL, VS, head_mark, mark_ca, mark_sl, mark_vs}
use Rattle.list_lines.specs.Text.{decimal_of, line}
use Rattle.text_meaning.specs.Shapes.{of16}
use Rattle.text_print.specs.Print.{hex_pair, hex_of, opening_line, closing_line, line_of}

pub setup_words : (trace : List ℕ) (n v : ℕ) (head : Head) (mark : ℕ) → mark ≡ head_mark head
    → line_of trace (GM n v head) ≡ ((of16 mark ++ (32 ∷ [])) ++ (decimal_of n ++ (32 ∷ []))) ++ (decimal_of v ++ (10 ∷ []))
unfolding line_of line
setup_words trace n v head mark e = rw e (simp append_assoc)

pub open_words : (mark c m F C : ℕ)
    → opening_line mark c m F C ≡ ((((of16 mark ++ (32 ∷ [])) ++ (decimal_of c ++ (32 ∷ []))) ++ (decimal_of m ++ (32 ∷ []))) ++ (decimal_of F ++ (32 ∷ []))) ++ (decimal_of C ++ (10 ∷ []))
unfolding opening_line line
open_words mark c m F C = simp append_assoc

pub sustain_words : (trace : List ℕ) (vci m F C : ℕ) (x : Second)
    → line_of trace (VS vci m F C x) ≡ ((((((((of16 mark_vs ++ (32 ∷ [])) ++ (decimal_of vci ++ (32 ∷ []))) ++ (decimal_of m ++ (32 ∷ []))) ++ (decimal_of F ++ (32 ∷ []))) ++ (decimal_of C ++ (32 ∷ [])))
    ++ (decimal_of x.m ++ (32 ∷ []))) ++ (decimal_of x.F ++ (32 ∷ []))) ++ (decimal_of x.C ++ (32 ∷ []))) ++ (decimal_of x.tag ++ (10 ∷ []))
unfolding line_of line
sustain_words trace vci m F C x = simp append_assoc

pub close_words : (mark c : ℕ) → closing_line mark c ≡ (of16 mark ++ (32 ∷ [])) ++ (decimal_of c ++ (10 ∷ []))
unfolding closing_line line
close_words mark c = refl

pub pause_words : (trace : List ℕ) (count : ℕ) → line_of trace (SL count) ≡ (of16 mark_sl ++ (32 ∷ [])) ++ (decimal_of count ++ (10 ∷ []))
unfolding line_of line
pause_words trace count = refl

pub cell_words : (trace : List ℕ) (start : ℕ)
    → line_of trace (CA start) ≡ ((of16 mark_ca ++ (32 ∷ [])) ++ hex_of (take octets (drop start trace))) ++ (10 ∷ [])
unfolding line_of line
cell_words trace start = simp append_assoc

pub hex_snoc : (xs : List ℕ) (x : ℕ) → hex_of (xs ++ (x ∷ [])) ≡ hex_of xs ++ hex_pair x
unfolding hex_of
hex_snoc [] x = refl
hex_snoc (y ∷ xs) x = ap (λ (t : List ℕ). hex_pair y ++ t) (hex_snoc xs x) ∙ sym (append_assoc (hex_pair y) (hex_of xs) (hex_pair x))

pub hex_none : hex_of [] ≡ []
unfolding hex_of
hex_none = refl

-- one octet more of those that start at a place
pub hex_take : (l : List ℕ) (start i : ℕ) → start + i < length l
    → hex_of (take (i + 1) (drop start l)) ≡ hex_of (take i (drop start l)) ++ hex_pair (get_or l (start + i) 0)
hex_take l start i h =
    let m : i < length (drop start l) = omega (arith, length-drop start l) in
    ap (λ (k : ℕ). hex_of (take k (drop start l))) (add-one i) ∙ ap hex_of (take-suc (drop start l) i 0 m) ∙ hex_snoc (take i (drop start l)) (get_or (drop start l) i 0)
    ∙ ap (λ (x : ℕ). hex_of (take i (drop start l)) ++ hex_pair x) (get_or-drop start l i 0)

-- a number by what it was widened from
pub number_put : {l : List ℕ} {i n m : ℕ} {l' : List ℕ} {r : ℕ} (after : ℕ) → n ≡ m → Put l i (decimal_of n ++ (after ∷ [])) l' r → Put l i (decimal_of m ++ (after ∷ [])) l' r
number_put after e p = put_is (ap (λ (k : ℕ). decimal_of k ++ (after ∷ [])) (sym e)) p
