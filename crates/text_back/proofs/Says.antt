-- What a line of a text says is what some record says that the reader reads there, and a line leads on: its octets are gone
-- from what is left. Mark by mark, and field by field behind it.
use Prim.Native.Nat.{ℕ, zero, suc, ◌+◌, ◌*◌, ◌≤◌, ◌<◌}
use mathlib.Core.Path.{◌≡◌, refl, sym, ap, subst, ◌∙◌}
use mathlib.Core.Bool.{Bool, true, false}
use mathlib.Core.List.{List, [], ◌∷◌, ◌++◌, append_assoc, append-nil}
use native.Mathlib.Omega.{arith}
use borrow.Author.Tests.{eqb-true, eqb-false, le-leb, eq-eqb}
use lib.ListN.{length}
use Rattle.meaning.specs.Plain.{Out, refused, next, ◌and_then◌, when◌then◌else◌, ◌≤?◌, ◌=?◌}
use Rattle.meaning.specs.Numbers.{octets}
use Rattle.list_lines.specs.Text.{space, line_feed}
use Rattle.meaning.specs.Words.{second_of}
use Rattle.trace_record.specs.declared.Head.{Head}
use Rattle.trace_record.specs.declared.Head.TheVariants.{Gm, Gr, Gn}
use Rattle.trace_record.specs.Trace.{head_mark, mark_gm, mark_gr, mark_gn, mark_vo, mark_vx, mark_ca, mark_sl, mark_vs, mark_po, mark_px}
use Rattle.text_meaning.specs.Shapes.{Field, n8, n16, n32, cell, top, of16, of_field, Shape, fields, find, rows_of}
use Rattle.text_meaning.specs.Events.{told, pause}
use Rattle.text_meaning.specs.Grammar.{Number, Part, part, Told, tells, expect, digit_of, digits, within, number, nibble_of, hexes}
use Rattle.text_meaning.specs.Grammar.{field_at, fields_at, slots_at, shaped_line, line}
use Rattle.text_record.specs.Record.{GM, VO, VX, CA, SL, VS, PO, PX, record_octets, allowed_at}
use Rattle.text_back.specs.Back.{Sayable}

-- whatever was found is so
abbrev pub Holds : {A : Type 0} → (A → Type 0) → Out A → Type 0
Holds Q refused = 0 ≤ 0
Holds Q (next a) = Q a

holds_then : {A B : Type 0} (P : A → Type 0) (Q : B → Type 0) (x : Out A) (f : A → Out B) → Holds P x → ((a : A) → P a → Holds Q (f a)) → Holds Q (x and_then f)
holds_then P Q refused f h k = omega arith
holds_then P Q (next a) f h k = k a h

choose : {A : Type 0} (P : A → Type 0) (b : Bool) {x y : A} → (b ≡ true → P x) → (b ≡ false → P y) → P (when b then x else y)
choose P true t f = t refl
choose P false t f = f refl

-- ---- what is left is shorter

abbrev Left : List ℕ → List ℕ → Type 0
Left s t = length t ≤ length s

expect_left : (x : ℕ) (s : List ℕ) → Holds (λ t. length t < length s) (expect x s)
unfolding expect
expect_left x [] = omega arith
expect_left x (y ∷ s) = choose (Holds (λ t. length t < length (y ∷ s))) (y =? x) (λ _. omega arith) (λ _. omega arith)

digits_left : (v : ℕ) (s : List ℕ) → Left s (digits v s).rest
unfolding digits
digits_left v [] = omega arith
digits_left v (x ∷ s) =
    let h = digits_left (v * 10 + digit_of x) s in
    choose (λ (n : Number). Left (x ∷ s) n.rest) (digit_of x =? 10) (λ _. omega arith) (λ _. omega (arith, h))

within_left : (most : ℕ) (s : List ℕ) (n : Number) → Left s n.rest → Holds (λ (m : Number). Left s m.rest) (within most n)
unfolding within
within_left most s n h = choose (Holds (λ (m : Number). Left s m.rest)) (n.value ≤? most) (λ _. h) (λ _. omega arith)

number_left : (most : ℕ) (s : List ℕ) → Holds (λ (n : Number). Left s n.rest) (number most s)
unfolding number
number_left most [] = omega arith
number_left most (x ∷ s) =
    let P = Holds (λ (n : Number). Left (x ∷ s) n.rest) in
    let h = digits_left (digit_of x) s in
    choose P (digit_of x =? 10) (λ _. omega arith)
    (λ _. choose P (digit_of x =? 0) (λ _. omega arith) (λ _. within_left most (x ∷ s) (digits (digit_of x) s) (omega (arith, h))))

-- ---- fields, put behind octets o

record Hexed (k : ℕ) (o s : List ℕ) (p : Part) : Type 0 where
  pub octets : List ℕ
  pub long : length octets ≡ k
  pub put : p.done ≡ o ++ octets
  pub left : Left s p.rest

hexed_more : (k : ℕ) (o : List ℕ) (v : ℕ) (s t : List ℕ) (p : Part) → Left t s → Hexed k (o ++ (v ∷ [])) s p → Hexed (suc k) o t p
hexed_more k o v s t p l h =
    record { octets = v ∷ h.octets; long = ap suc h.long; put = h.put ∙ append_assoc o (v ∷ []) h.octets; left = omega (arith, l, h.left) }

holds_by : {A : Type 0} (P Q : A → Type 0) (x : Out A) → ((a : A) → P a → Q a) → Holds P x → Holds Q x
holds_by P Q refused f h = omega arith
holds_by P Q (next a) f h = f a h

hexes_said : (k : ℕ) (o s : List ℕ) → Holds (Hexed k o s) (hexes k o s)
unfolding hexes
hexes_said zero o s = record { octets = []; long = refl; put = sym (append-nil o); left = omega arith }
hexes_said (suc k) o [] = omega arith
hexes_said (suc k) o (x ∷ []) = omega arith
hexes_said (suc k) o (x ∷ y ∷ s) =
    let v = nibble_of x * 16 + nibble_of y in
    let P = Holds (Hexed (suc k) o (x ∷ y ∷ s)) in
    let h = holds_by (Hexed k (o ++ (v ∷ [])) s) (Hexed (suc k) o (x ∷ y ∷ s)) (hexes k (o ++ (v ∷ [])) s) (λ p. hexed_more k o v s (x ∷ y ∷ s) p (omega arith)) (hexes_said k (o ++ (v ∷ [])) s) in
    choose P (nibble_of x =? 16) (λ _. omega arith) (λ _. choose P (nibble_of y =? 16) (λ _. omega arith) (λ _. h))

-- d is o and then the fields fs
data Filled : List Field → List ℕ → List ℕ → Type 0 where
  end : {o : List ℕ} → Filled [] o o
  with8 : {fs : List Field} {o d : List ℕ} (n : ℕ) → Filled fs (o ++ of_field n8 n) d → Filled (n8 ∷ fs) o d
  with16 : {fs : List Field} {o d : List ℕ} (n : ℕ) → Filled fs (o ++ of_field n16 n) d → Filled (n16 ∷ fs) o d
  with32 : {fs : List Field} {o d : List ℕ} (n : ℕ) → Filled fs (o ++ of_field n32 n) d → Filled (n32 ∷ fs) o d
  with_cell : {fs : List Field} {o d : List ℕ} (c : List ℕ) → length c ≡ octets → Filled fs (o ++ c) d → Filled (cell ∷ fs) o d

-- no field is left
ended : {o d : List ℕ} → Filled [] o d → o ≡ d
ended end = refl

record Fields (fs : List Field) (o s : List ℕ) (p : Part) : Type 0 where
  pub filled : Filled fs o p.done
  pub left : Left s p.rest

-- a number's field, then the others
module _ (fs : List Field) (o s : List ℕ) (f : Field) (most : ℕ)
    (add : (n : ℕ) (d : List ℕ) → Filled fs (o ++ of_field f n) d → Filled (f ∷ fs) o d)
    (on : (n : ℕ) (t : List ℕ) → Holds (Fields fs (o ++ of_field f n) t) (fields_at fs (o ++ of_field f n) t)) where
  number_field : Holds (Fields (f ∷ fs) o s)
      (expect space s and_then λ t. (number most t and_then λ n. next (part (o ++ of_field f n.value) n.rest)) and_then λ p. fields_at fs p.done p.rest)
  number_field =
      holds_then (λ t. length t < length s) (Fields (f ∷ fs) o s) (expect space s) _ (expect_left space s)
      (λ t l. go t l (number most t) (number_left most t))
    where
      go : (t : List ℕ) → length t < length s → (x : Out Number) → Holds (λ (n : Number). Left t n.rest) x
          → Holds (Fields (f ∷ fs) o s) ((x and_then λ n. next (part (o ++ of_field f n.value) n.rest)) and_then λ p. fields_at fs p.done p.rest)
      go t l refused h = omega arith
      go t l (next n) h =
          holds_by (Fields fs (o ++ of_field f n.value) n.rest) (Fields (f ∷ fs) o s) (fields_at fs (o ++ of_field f n.value) n.rest)
          (λ p q. record { filled = add n.value p.done q.filled; left = omega (arith, l, h, q.left) })
          (on n.value n.rest)

cell_field : (fs : List Field) (o s : List ℕ) → ((c t : List ℕ) → Holds (Fields fs (o ++ c) t) (fields_at fs (o ++ c) t))
    → Holds (Fields (cell ∷ fs) o s) (expect space s and_then λ t. hexes octets o t and_then λ p. fields_at fs p.done p.rest)
cell_field fs o s on =
    holds_then (λ t. length t < length s) (Fields (cell ∷ fs) o s) (expect space s) _ (expect_left space s)
    (λ t l. holds_then (Hexed octets o t) (Fields (cell ∷ fs) o s) (hexes octets o t) _ (hexes_said octets o t)
    (λ p h. holds_by (Fields fs (o ++ h.octets) p.rest) (Fields (cell ∷ fs) o s) (fields_at fs p.done p.rest)
    (λ q w. record { filled = with_cell h.octets h.long w.filled; left = omega (arith, l, h.left, w.left) })
    (subst (λ (x : List ℕ). Holds (Fields fs (o ++ h.octets) p.rest) (fields_at fs x p.rest)) (sym h.put) (on h.octets p.rest))))

fields_said : (fs : List Field) (o s : List ℕ) → Holds (Fields fs o s) (fields_at fs o s)
unfolding fields_at field_at
fields_said [] o s =
    holds_then (λ t. length t < length s) (Fields [] o s) (expect line_feed s) _ (expect_left line_feed s)
    (λ t l. record { filled = end; left = omega arith })
fields_said (n8 ∷ fs) o s = number_field fs o s n8 (top n8) (λ n d. with8 n) (λ n. fields_said fs (o ++ of_field n8 n))
fields_said (n16 ∷ fs) o s = number_field fs o s n16 (top n16) (λ n d. with16 n) (λ n. fields_said fs (o ++ of_field n16 n))
fields_said (n32 ∷ fs) o s = number_field fs o s n32 (top n32) (λ n d. with32 n) (λ n. fields_said fs (o ++ of_field n32 n))
fields_said (cell ∷ fs) o s = cell_field fs o s (λ c. fields_said fs (o ++ c))

-- ---- lines

abbrev pub place_of : Bool → ℕ
place_of first = when first then 0 else 1

-- what a line says, and that it leads on
record Says (first : Bool) (s : List ℕ) (t : Told) : Type 0 where
  pub sayable : Sayable (place_of first) t.event
  pub left : Left s t.rest

module _ (s : List ℕ) where
  setup_said : (m : ℕ) (head : Head) → head_mark head ≡ m → (d : List ℕ) → Filled (n16 ∷ n16 ∷ []) (of16 m) d → Sayable 0 (told d)
  unfolding allowed_at record_octets
  setup_said m head e d (with16 N (with16 z w)) =
      record { given = GM N z head; says = ap (λ (k : ℕ). told (of16 k ++ (of16 N ++ of16 z))) e ∙ ap told (ended w); allowed = refl }

  open_said : (d : List ℕ) → Filled (n16 ∷ n8 ∷ n32 ∷ n32 ∷ []) (of16 mark_vo) d → Sayable 1 (told d)
  unfolding allowed_at record_octets
  open_said d (with16 v (with8 m (with32 F (with32 C w)))) = record { given = VO v m F C; says = ap told (ended w); allowed = refl }

  path_said : (d : List ℕ) → Filled (n16 ∷ n8 ∷ n32 ∷ n32 ∷ []) (of16 mark_po) d → Sayable 1 (told d)
  unfolding allowed_at record_octets
  path_said d (with16 v (with8 m (with32 F (with32 C w)))) = record { given = PO v m F C; says = ap told (ended w); allowed = refl }

  sustain_said : (d : List ℕ) → Filled (n16 ∷ n8 ∷ n32 ∷ n32 ∷ n8 ∷ n32 ∷ n32 ∷ n8 ∷ []) (of16 mark_vs) d → Sayable 1 (told d)
  unfolding allowed_at record_octets
  sustain_said d (with16 v (with8 m (with32 F (with32 C (with8 m2 (with32 F2 (with32 C2 (with8 tag w)))))))) =
      record { given = VS v m F C (second_of m2 F2 C2 tag); says = ap told (ended w); allowed = refl }

  close_said : (d : List ℕ) → Filled (n16 ∷ []) (of16 mark_vx) d → Sayable 1 (told d)
  unfolding allowed_at record_octets
  close_said d (with16 v w) = record { given = VX v; says = ap told (ended w); allowed = refl }

  path_close_said : (d : List ℕ) → Filled (n16 ∷ []) (of16 mark_px) d → Sayable 1 (told d)
  unfolding allowed_at record_octets
  path_close_said d (with16 v w) = record { given = PX v; says = ap told (ended w); allowed = refl }

  cell_said : (d : List ℕ) → Filled (cell ∷ []) (of16 mark_ca) d → Sayable 1 (told d)
  unfolding allowed_at record_octets
  cell_said d (with_cell c l end) = record { given = CA c; says = refl; allowed = simp (eq-eqb (length c) octets l) }

  -- a count that was read, and its line feed
  count_said : (t : List ℕ) → length t < length s → (n : Number) → Left t n.rest → (b : Bool) → (n.value =? 0) ≡ b
      → Holds (Says false s) ((when b then refused else expect line_feed n.rest) and_then λ u. next (tells (pause n.value) u))
  unfolding allowed_at
  count_said t l n h true z = omega arith
  count_said t l n h false z =
      holds_then (λ u. length u < length n.rest) (Says false s) (expect line_feed n.rest) _ (expect_left line_feed n.rest)
      (λ u k. let v = eqb-false n.value 0 z in
      record { sayable = record { given = SL n.value; says = refl; allowed = simp (le-leb 1 n.value (omega arith)) }; left = omega (arith, l, h, k) })

  slots_said : Holds (Says false s) (slots_at s)
  unfolding slots_at
  slots_said =
      holds_then (λ t. length t < length s) (Says false s) (expect space s) _ (expect_left space s)
      (λ t l. holds_then (λ (n : Number). Left t n.rest) (Says false s) (number (top n32) t) _ (number_left (top n32) t)
      (λ n h. count_said t l n h (n.value =? 0) refl))

  -- fields behind a mark
  shaped_said : (first : Bool) (m : ℕ) (fs : List Field) → ((d : List ℕ) → Filled fs (of16 m) d → Sayable (place_of first) (told d))
      → Holds (Says first s) (shaped_line m (next (fields fs)) s)
  unfolding shaped_line
  shaped_said first m fs f =
      holds_then (Fields fs (of16 m) s) (Says first s) (fields_at fs (of16 m) s) _ (fields_said fs (of16 m) s)
      (λ p h. record { sayable = f p.done h.filled; left = h.left })

  marked_said : (first : Bool) (m : ℕ) → Holds (Says first s) (shaped_line m (find m (rows_of first)) s)
  unfolding find shaped_line
  marked_said true m =
      let P : Out Shape → Type 0 = λ x. Holds (Says true s) (shaped_line m x s) in
      choose P (m =? mark_gm) (λ t. shaped_said true m (n16 ∷ n16 ∷ []) (setup_said m Gm (sym (eqb-true m mark_gm t))))
      (λ _. choose P (m =? mark_gr) (λ t. shaped_said true m (n16 ∷ n16 ∷ []) (setup_said m Gr (sym (eqb-true m mark_gr t))))
      (λ _. choose P (m =? mark_gn) (λ t. shaped_said true m (n16 ∷ n16 ∷ []) (setup_said m Gn (sym (eqb-true m mark_gn t)))) (λ _. omega arith)))
  marked_said false m =
      let P : Out Shape → Type 0 = λ x. Holds (Says false s) (shaped_line m x s) in
      let at : (k : ℕ) (fs : List Field) → m ≡ k → ((d : List ℕ) → Filled fs (of16 k) d → Sayable 1 (told d)) → P (next (fields fs)) =
      λ k fs e f. shaped_said false m fs (λ d. subst (λ (j : ℕ). Filled fs (of16 j) d → Sayable 1 (told d)) (sym e) (f d)) in
      choose P (m =? mark_ca) (λ t. at mark_ca (cell ∷ []) (eqb-true m mark_ca t) cell_said)
      (λ _. choose P (m =? mark_sl) (λ _. slots_said)
      (λ _. choose P (m =? mark_vo) (λ t. at mark_vo (n16 ∷ n8 ∷ n32 ∷ n32 ∷ []) (eqb-true m mark_vo t) open_said)
      (λ _. choose P (m =? mark_vx) (λ t. at mark_vx (n16 ∷ []) (eqb-true m mark_vx t) close_said)
      (λ _. choose P (m =? mark_vs) (λ t. at mark_vs (n16 ∷ n8 ∷ n32 ∷ n32 ∷ n8 ∷ n32 ∷ n32 ∷ n8 ∷ []) (eqb-true m mark_vs t) sustain_said)
      (λ _. choose P (m =? mark_po) (λ t. at mark_po (n16 ∷ n8 ∷ n32 ∷ n32 ∷ []) (eqb-true m mark_po t) path_said)
      (λ _. choose P (m =? mark_px) (λ t. at mark_px (n16 ∷ []) (eqb-true m mark_px t) path_close_said) (λ _. omega arith)))))))

-- of what a line was read from, two octets at least are gone
pub record LineSays (first : Bool) (s : List ℕ) (t : Told) : Type 0 where
  pub sayable : Sayable (place_of first) t.event
  pub left : length t.rest < length s

pub line_said : (first : Bool) (s : List ℕ) → Holds (LineSays first s) (line first s)
unfolding line
line_said first [] = omega arith
line_said first (a ∷ []) = omega arith
line_said first (a ∷ b ∷ s) =
    holds_by (Says first s) (LineSays first (a ∷ b ∷ s)) (shaped_line (a * 256 + b) (find (a * 256 + b) (rows_of first)) s)
    (λ t h. record { sayable = h.sayable; left = omega (arith, h.left) }) (marked_said s first (a * 256 + b))
