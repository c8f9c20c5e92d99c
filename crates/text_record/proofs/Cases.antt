-- The promise of a writer by its three ways out: what the reader would refuse, an output too short, the record in its place.
-- Each test of the code is a test of the definition.
use Prim.Native.Nat.{ℕ, ◌+◌, ◌≤◌, ◌<◌}
use mathlib.Core.Path.{◌≡◌, refl, sym, ap, ◌∙◌}
use mathlib.Core.Bool.{Bool, true, false, ◌&&◌}
use mathlib.Core.List.{List, [], ◌∷◌, ◌++◌}
use lib.ListN.{length, take, drop, length-drop}
use lib.Seq.{length-take-le}
use borrow.Author.Tests.{ne_eqb, eq-eqb, le-leb, lt-leb}
use native.Mathlib.Omega.{arith}
use Rattle.std.proofs.Common.{Ok, Err}
use Rattle.std.proofs.Math.Seq.{take-length}
use Rattle.std.proofs.lemmas.Slice.{take-put_mid}
use borrow.Rule.Slice.PartMut.{put_mid, same_len_mid}
use Rattle.meaning.specs.Plain.{◌≤?◌}
use Rattle.meaning.specs.Words.{Second}
use Rattle.trace_record.specs.declared.Head.{Head}
use Rattle.trace_record.specs.Trace.{head_mark, mark_vo, mark_vx, mark_ca, mark_sl, mark_vs, mark_po, mark_px}
use Rattle.text_meaning.specs.Shapes.{of16, of32}
use Rattle.text_meaning.specs.Events.{opening_of, closing_of}
use Rattle.list_lines.specs.Put.{puts, Put}
use Rattle.text_meaning.specs.declared.WriteError.TheVariants.{Unreadable, TooShort}
use Rattle.text_record.specs.Record.{Given, GM, VO, VX, CA, SL, VS, PO, PX, record_octets, allowed_at, Later}
use Rattle.text_record.specs.Promises.{answer_at, output_at, WritePromise}

never : (b : Bool) → (b && false) ≡ false
never true = refl
never false = refl

alone : (b : Bool) → (b && true) ≡ b
alone true = refl
alone false = refl

-- where the reader reads which record
pub setup_first : (at N z : ℕ) (head : Head) → at ≡ 0 → allowed_at at (GM N z head) ≡ true
unfolding allowed_at
setup_first at N z head h = eq-eqb at 0 h

pub setup_later : (at N z : ℕ) (head : Head) → (at ≡ 0 → ⊥) → allowed_at at (GM N z head) ≡ false
unfolding allowed_at
setup_later at N z head h = ne_eqb at 0 h

-- a record that may stand at every place but the first
module _ {os : List ℕ} {r : Given} (l : Later os r) (at : ℕ) where
  pub not_first : at ≡ 0 → allowed_at at r ≡ false
  not_first h = l.anywhere at ∙ lt-leb 1 at (omega arith)

  pub but_first : (at ≡ 0 → ⊥) → allowed_at at r ≡ true
  but_first h = l.anywhere at ∙ le-leb 1 at (omega arith)

-- the same octets, as they are put
pub as_put : {os ps : List ℕ} {r : Given} → ps ≡ os → Later os r → Later ps r
as_put e l = record { octets_are = l.octets_are ∙ sym e; anywhere = l.anywhere }

pub open_later : (vci m F C : ℕ) → Later (opening_of mark_vo vci m F C) (VO vci m F C)
unfolding record_octets allowed_at
open_later vci m F C = record { octets_are = refl; anywhere = λ _. refl }

pub path_later : (vpi m F C : ℕ) → Later (opening_of mark_po vpi m F C) (PO vpi m F C)
unfolding record_octets allowed_at
path_later vpi m F C = record { octets_are = refl; anywhere = λ _. refl }

pub close_later : (vci : ℕ) → Later (closing_of mark_vx vci) (VX vci)
unfolding record_octets allowed_at
close_later vci = record { octets_are = refl; anywhere = λ _. refl }

pub path_close_later : (vpi : ℕ) → Later (closing_of mark_px vpi) (PX vpi)
unfolding record_octets allowed_at
path_close_later vpi = record { octets_are = refl; anywhere = λ _. refl }

pub sustain_later : (vci m F C : ℕ) (x : Second) → Later (opening_of mark_vs vci m F C ++ (x.m ∷ (of32 x.F ++ (of32 x.C ++ (x.tag ∷ []))))) (VS vci m F C x)
unfolding record_octets allowed_at
sustain_later vci m F C x = record { octets_are = refl; anywhere = λ _. refl }

pub cell_other : (at : ℕ) (cell : List ℕ) → (length cell ≡ 53 → ⊥) → allowed_at at (CA cell) ≡ false
unfolding allowed_at
cell_other at cell h = simp (ne_eqb (length cell) 53 h) (never (1 ≤? at))

pub cell_later : (cell : List ℕ) → length cell ≡ 53 → Later (of16 mark_ca ++ cell) (CA cell)
unfolding record_octets allowed_at
cell_later cell l = record { octets_are = refl; anywhere = λ at. simp (eq-eqb (length cell) 53 l) (alone (1 ≤? at)) }

pub pause_none : (at count : ℕ) → count ≡ 0 → allowed_at at (SL count) ≡ false
unfolding allowed_at
pause_none at count h = simp (lt-leb 1 count (omega arith)) (never (1 ≤? at))

pub pause_later : (count : ℕ) → (count ≡ 0 → ⊥) → Later (closing_of mark_sl count) (SL count)
unfolding record_octets allowed_at
pause_later count l = record { octets_are = refl; anywhere = λ at. simp (le-leb 1 count (omega arith)) (alone (1 ≤? at)) }

pub setup_octets : (N z : ℕ) (head : Head) → record_octets (GM N z head) ≡ of16 (head_mark head) ++ (of16 N ++ of16 z)
unfolding record_octets
setup_octets N z head = refl

-- two parts that were copied into octets, one behind the other
long_put : (l a : List ℕ) (n k : ℕ) → length a ≡ k → n + k ≤ length l → length (put_mid n k l a) ≡ length l
long_put l a n k e h = same_len_mid n k l a (e ∙ sym (length-take-le k (drop n l) (omega (arith, length-drop n l))))

pub two_parts : (l a b x y : List ℕ) (n k : ℕ) → x ≡ a → y ≡ b → length a ≡ n → n + k ≡ length l → length b ≡ k → put_mid n k (put_mid 0 n l x) y ≡ a ++ b
two_parts l a b x y n k f g u v z =
    let i : length x ≡ n = ap length f ∙ u in
    let j : length y ≡ k = ap length g ∙ z in
    let m : length (put_mid 0 n l x) ≡ length l = long_put l x 0 n i (omega arith) in
    let w = put_mid n k (put_mid 0 n l x) y in
    let e : length w ≡ n + k = long_put (put_mid 0 n l x) y n k j (omega arith) ∙ m ∙ sym v in
    let q : n + k ≡ n + length y = omega arith in
    sym (take-length w)
    ∙ ap (λ (c : ℕ). take c w) e
    ∙ take-put_mid n k (put_mid 0 n l x) y (n + k) q (omega arith)
    ∙ ap (λ (o : List ℕ). o ++ y) (take-put_mid 0 n l x n (omega (arith, i)) (omega arith) ∙ f)
    ∙ ap (λ (o : List ℕ). a ++ o) g

-- the three ways out
module _ (out : List ℕ) (at : ℕ) (r : Given) where
  pub refused : allowed_at at r ≡ false → WritePromise out at r (Err (Unreadable at)) out
  unfolding answer_at output_at
  refused h = record { answer = simp h; output = simp h }

  module _ {os : List ℕ} (e : record_octets r ≡ os) (h : allowed_at at r ≡ true) where
    pub too_short : length out < at + length os → WritePromise out at r (Err (TooShort at)) out
    unfolding answer_at output_at
    too_short l =
        let s = lt-leb (at + length (record_octets r)) (length out) (omega (arith, ap length e)) in record { answer = simp (h, s); output = simp (h, s) }

    pub written : {q : ℕ} {out' : List ℕ} → at + length os ≤ length out → Put out at os out' q → WritePromise out at r (Ok q) out'
    unfolding answer_at output_at
    written l p =
        let s = le-leb (at + length (record_octets r)) (length out) (omega (arith, ap length e)) in
        record { answer = simp (h, s) (ap Ok (p.next ∙ ap (λ (o : List ℕ). at + length o) (sym e))); output = simp (h, s) (p.list ∙ ap (puts out at) (sym e)) }
