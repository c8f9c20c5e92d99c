-- A line by its mark: no shape is no line, a count of slots, or fields behind the mark.
use Rattle.std.proofs.Common.{◌≡◌, ℕ, ◌+◌, ◌-◌, ◌*◌, ◌/◌, ◌%◌, ◌≤◌, ◌<◌, Bool, true, false, Option, Some, None, List, [], ◌∷◌, length, take, drop, get_or, length-drop, refl, sym, ap, ◌∙◌, arith}
use Rattle.std.proofs.Math.Seq.{take-length}
use borrow.Author.Tests.{ne_eqb}
use lib.ListN.{set}
use lib.Seq.{length-take-le}
use Rattle.meaning.specs.Plain.{Out, refused, next, ◌=?◌}
use Rattle.trace_record.specs.declared.mark.Mark.{Mark}
use Rattle.trace_record.specs.declared.mark.Mark.TheVariants.{Gm, Gr, Gn, Vo, Vs, Vx, Po, Px, Ca, Sl}
use Rattle.trace_record.specs.Marks.{letters_of}
use Rattle.text_meaning.specs.Shapes.{Field, Shape, fields, slots, of16, find, shape_of}
use Rattle.text_meaning.specs.Events.{Event, told}
use Rattle.text_meaning.specs.Grammar.{Part, tells, fields_at, slots_at, shaped_line, line}
use Rattle.text_meaning.specs.Writing.{Placed, placed, behind, line_at}
use Rattle.list_lines.specs.Put.{puts, Put}
use Rattle.list_lines.proofs.Puts.{put_front}
use Rattle.text_line.specs.declared.Line.{Line}
use Rattle.text_line.specs.declared.Line.TheVariants.{Record, Pause}
use Rattle.text_line.specs.Found.{event_found, line_found, record_in}
use Rattle.text_line.proofs.FieldLaws.{and_refused, and_next}

pub line_short : (first : Bool) (t : List ℕ) → length t < 2 → line first t ≡ refused
unfolding line
line_short first [] h = refl
line_short first (a ∷ []) h = refl
line_short first (a ∷ b ∷ t) h = absurd (omega arith)

line_is : (first : Bool) (t : List ℕ) (m : ℕ) → 2 ≤ length t → m ≡ get_or t 0 0 * 256 + get_or t 1 0
    → line first t ≡ shaped_line m (shape_of first m) (take (length t - 2) (drop 2 t))
unfolding line
line_is first [] m h e = absurd (omega arith)
line_is first (a ∷ []) m h e = absurd (omega arith)
line_is first (a ∷ b ∷ t) m h e =
    let l : length t ≡ length (a ∷ b ∷ t) - 2 = omega arith in
    ap (λ (n : ℕ). shaped_line n (shape_of first n) t) (sym e) ∙ ap (λ (s : List ℕ). shaped_line m (shape_of first m) s) (sym (take-length t) ∙ ap (λ (k : ℕ). take k t) l)

-- two letters that are no mark
no_shape : (first : Bool) (m : ℕ) → ((k : Mark) → m ≡ letters_of k → ⊥) → shape_of first m ≡ refused
unfolding find
no_shape true m n = simp (ne_eqb m (letters_of Gm) (n Gm), ne_eqb m (letters_of Gr) (n Gr), ne_eqb m (letters_of Gn) (n Gn))
no_shape false m n =
    simp (
      ne_eqb m (letters_of Ca) (n Ca),
      ne_eqb m (letters_of Sl) (n Sl),
      ne_eqb m (letters_of Vo) (n Vo),
      ne_eqb m (letters_of Vx) (n Vx),
      ne_eqb m (letters_of Vs) (n Vs),
      ne_eqb m (letters_of Po) (n Po),
      ne_eqb m (letters_of Px) (n Px),
    )

module _ (first : Bool) (t : List ℕ) (m : ℕ) (h : 2 ≤ length t) (e : m ≡ get_or t 0 0 * 256 + get_or t 1 0) where
  pub line_unmarked : ((k : Mark) → m ≡ letters_of k → ⊥) → line first t ≡ refused
  unfolding shaped_line
  line_unmarked n = line_is first t m h e ∙ ap (λ (x : Out Shape). shaped_line m x (take (length t - 2) (drop 2 t))) (no_shape first m n)

  module _ (k : Mark) (f : m ≡ letters_of k) where
    shaped : {x : Out Shape} → shape_of first (letters_of k) ≡ x → line first t ≡ shaped_line m x (take (length t - 2) (drop 2 t))
    shaped g = line_is first t m h e ∙ ap (λ (x : Out Shape). shaped_line m x (take (length t - 2) (drop 2 t))) (ap (shape_of first) f ∙ g)

    pub line_shapeless : shape_of first (letters_of k) ≡ refused → line first t ≡ refused
    unfolding shaped_line
    line_shapeless g = shaped g

    pub line_slots : shape_of first (letters_of k) ≡ next slots → line first t ≡ slots_at (take (length t - 2) (drop 2 t))
    unfolding shaped_line
    line_slots g = shaped g

    module _ {fs : List Field} (g : shape_of first (letters_of k) ≡ next (fields fs)) where
      pub line_unread : fields_at fs (of16 m) (take (length t - 2) (drop 2 t)) ≡ refused → line first t ≡ refused
      unfolding shaped_line
      line_unread r = shaped g ∙ and_refused _ r

      pub line_fields : {p : Part} → fields_at fs (of16 m) (take (length t - 2) (drop 2 t)) ≡ next p → line first t ≡ next (tells (told p.done) p.rest)
      unfolding shaped_line
      line_fields r = shaped g ∙ and_next _ r

-- the two letters of a mark, put before its fields
pub letters_put : (rec : List ℕ) (m high low : ℕ) → 2 ≤ length rec → m ≡ high * 256 + low → low < 256 → take 2 (set (set rec 0 high) 1 low) ≡ of16 m
letters_put [] m high low h e l = absurd (omega arith)
letters_put (a ∷ []) m high low h e l = absurd (omega arith)
letters_put (a ∷ b ∷ rec) m high low h e l =
    let x : high ≡ m / 256 = omega arith in
    let y : low ≡ m % 256 = omega arith in
    ap (λ (k : ℕ). k ∷ low ∷ []) x ∙ ap (λ (k : ℕ). m / 256 ∷ k ∷ []) y

module _ (s : List ℕ) (p : ℕ) where
  -- what is left from a place on
  pub here_is : (h : List ℕ) → h ≡ take (length s - p) (drop p s) → h ≡ drop p s
  here_is h e = e ∙ ap (λ (k : ℕ). take k (drop p s)) (sym (length-drop p s)) ∙ take-length (drop p s)

  pub beyond : length s < p → line (p =? 0) (drop p s) ≡ refused
  beyond h = line_short (p =? 0) (drop p s) (omega (arith, length-drop p s))

  pub at_none : line (p =? 0) (drop p s) ≡ refused → line_at s p ≡ refused
  unfolding line_at behind
  at_none e = ap (behind (length s)) e

  pub at_some : {e : Event} {r : List ℕ} → line (p =? 0) (drop p s) ≡ next (tells e r) → line_at s p ≡ next (placed e (length s - length r))
  unfolding line_at behind
  at_some e = ap (behind (length s)) e

pub none_puts : (rec : List ℕ) {x : Out Placed} → x ≡ refused → rec ≡ puts rec 0 (record_in x)
unfolding record_in
none_puts rec e = ap (λ (o : Out Placed). puts rec 0 (record_in o)) (sym e)

pub none_found : (rec : List ℕ) (r : Option (Line × ℕ)) {x : Out Placed} → r ≡ None → x ≡ refused → line_found rec r ≡ x
none_found rec None e f = sym f
none_found rec (Some l) e f = absurd (cc)

-- a record is copied from octets of the function's own; a pause is none
module _ (own : List ℕ) (q : ℕ) {x : Out Placed} where
  pub record_found : (long : ℕ) {rec rec' : List ℕ} {r : ℕ} → x ≡ next (placed (event_found own (Record long)) q) → Put rec 0 (take long own) rec' r → long ≤ length own
      → length own ≤ length rec → (next (placed (event_found rec' (Record long)) q) ≡ x) × (rec' ≡ puts rec 0 (record_in x))
  unfolding record_in
  record_found long {rec} {rec'} {r} e p h w =
      let n : length (take long own) ≡ long = length-take-le long own h in
      let k : r ≡ long = omega (arith, p.next, n) in
      let f : take long rec' ≡ take long own = ap (λ (j : ℕ). take j rec') (sym k) ∙ put_front p (omega (arith, n)) in
      (ap (λ (o : List ℕ). next (placed (told o) q)) f ∙ sym e, p.list ∙ ap (λ (o : Out Placed). puts rec 0 (record_in o)) (sym e))

  pub pause_found : (l : Line) (n : ℕ) (rec : List ℕ) → l ≡ Pause n → x ≡ next (placed (event_found own l) q)
      → (next (placed (event_found rec l) q) ≡ x) × (rec ≡ puts rec 0 (record_in x))
  unfolding record_in
  pause_found (Record long) n rec e f = absurd (cc)
  pause_found (Pause k) n rec e f = (sym f, ap (λ (o : Out Placed). puts rec 0 (record_in o)) (sym f))
