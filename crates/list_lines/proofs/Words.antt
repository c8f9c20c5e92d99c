-- Each line part by part, in the order in which the functions put the parts.
use mathlib.Core.Path.{◌≡◌, refl}
use mathlib.Core.Bool.{Bool, true, false}
use mathlib.Core.List.{List, [], ◌∷◌, ◌++◌, append_assoc}
use Prim.Native.Nat.{ℕ}
use borrow.Author.Tests.{eq-eqb, ne_eqb}
use Rattle.meaning.specs.declared.Answer.{Answer}
use Rattle.std.specs.Prelude.{Option}
use Rattle.std.specs.Bool.{then_some}
use Rattle.list_lines.specs.Text.{decimal_of, line, shown, word_of}
use Rattle.list_lines.specs.Lines.{setup_line, open_line, close_line, served_line, refused_line, slot_line, stop_line, end_line}

-- the number that a test shows
pub word_shown : {o : Option ℕ} (b : Bool) (n a : ℕ) → o ≡ then_some b n → shown b n ++ (a ∷ []) ≡ word_of o ++ (a ∷ [])
unfolding shown
word_shown true n a e = rw e
word_shown false n a e = rw e

-- a slot's line, word by word
pub slot_words : (a : List ℕ) (x : ℕ) (b c d : List ℕ)
    → line (a ∷ (x ∷ []) ∷ b ∷ c ∷ d ∷ []) ≡ ((((a ++ (32 ∷ [])) ++ (x ∷ 32 ∷ [])) ++ (b ++ (32 ∷ []))) ++ (c ++ (32 ∷ []))) ++ (d ++ (10 ∷ []))
unfolding line
slot_words a x b c d = simp append_assoc

-- the lines that begin with a word, part by part
pub setup_words : (n v k : ℕ) → setup_line n v k ≡ (((115 ∷ 101 ∷ 116 ∷ 117 ∷ 112 ∷ 32 ∷ []) ++ (decimal_of n ++ (32 ∷ []))) ++ (decimal_of v ++ (32 ∷ []))) ++ (decimal_of k ++ (10 ∷ []))
unfolding setup_line line
setup_words n v k = simp append_assoc

pub open_words : (v k : ℕ) → open_line v k ≡ ((111 ∷ 112 ∷ 101 ∷ 110 ∷ 32 ∷ []) ++ (decimal_of v ++ (32 ∷ []))) ++ (decimal_of k ++ (10 ∷ []))
unfolding open_line line
open_words v k = simp append_assoc

pub close_words : (v k : ℕ) → close_line v k ≡ ((99 ∷ 108 ∷ 111 ∷ 115 ∷ 101 ∷ 32 ∷ []) ++ (decimal_of v ++ (32 ∷ []))) ++ (decimal_of k ++ (10 ∷ []))
unfolding close_line line
close_words v k = simp append_assoc

pub stop_words : (p : ℕ) → stop_line p ≡ (115 ∷ 116 ∷ 111 ∷ 112 ∷ 32 ∷ 49 ∷ 48 ∷ 32 ∷ []) ++ (decimal_of p ++ (10 ∷ []))
unfolding stop_line line
stop_words p = refl

pub end_words : (a x u s w : ℕ)
    → end_line a x u s w ≡ (((((101 ∷ 110 ∷ 100 ∷ 32 ∷ []) ++ (decimal_of a ++ (32 ∷ []))) ++ (decimal_of x ++ (32 ∷ []))) ++ (decimal_of u ++ (32 ∷ []))) ++ (decimal_of s ++ (32 ∷ []))) ++ (decimal_of w ++ (10 ∷ []))
unfolding end_line line
end_words a x u s w = simp append_assoc

pub refused_words : (k : ℕ) → refused_line k ≡ (115 ∷ 108 ∷ 111 ∷ 116 ∷ 32 ∷ []) ++ (decimal_of k ++ (10 ∷ []))
unfolding refused_line line
refused_words k = refl

-- a slot's line by its answer's number
pub slot_served : (t : ℕ) (a : Answer) → a.number ≡ 0
    → slot_line t a ≡ served_line t a.verdict a.vci a.d a.space a.departing
unfolding slot_line
slot_served t a e = simp (eq-eqb _ _ e)

pub slot_refused : (t : ℕ) (a : Answer) → (a.number ≡ 0 → ⊥) → slot_line t a ≡ refused_line a.number
unfolding slot_line
slot_refused t a e = simp (ne_eqb _ _ e)
