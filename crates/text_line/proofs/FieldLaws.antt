-- The fields of a line, one field further.
use Rattle.std.proofs.Common.{◌≡◌, ℕ, ◌+◌, ◌<◌, ◌≤◌, List, [], ◌∷◌, length, drop, slice_index_or, sym, ap, ◌∙◌}
use Rattle.std.proofs.Math.Seq.{drop-cons}
use Rattle.std.proofs.Math.ListN.{drop_of_length-le}
use native.Mathlib.Numerals.{add-one}
use Rattle.meaning.specs.Plain.{Out, refused, next, ◌and_then◌}
use Rattle.list_lines.specs.Text.{space, line_feed}
use Rattle.text_meaning.specs.Shapes.{wide}
use Rattle.text_meaning.specs.Grammar.{Part, part, expect, field_at, fields_at}
use Rattle.text_line.specs.declared.field.Field.{Field as Code-Field}
use Rattle.text_line.specs.declared.field.Field.TheVariants.{N8}
use Rattle.text_line.specs.Found.{field_named, fields_named, span}

-- a reading after another
pub and_refused : {A B : Type 0} {o : Out A} (f : A → Out B) → o ≡ refused → (o and_then f) ≡ refused
and_refused f e = ap (λ x. x and_then f) e

pub and_next : {A B : Type 0} {o : Out A} {x : A} (f : A → Out B) → o ≡ next x → (o and_then f) ≡ f x
and_next f e = ap (λ x. x and_then f) e

module _ (kinds : List Code-Field) (i : ℕ) (h : i < length kinds) where
  abbrev kind : Code-Field
  kind = slice_index_or kinds i N8

  split : drop i kinds ≡ kind ∷ drop (i + 1) kinds
  split = drop-cons kinds i N8 h ∙ ap (λ (k : ℕ). kind ∷ drop k kinds) (sym (add-one i))

  pub span_more : span (fields_named (drop i kinds)) ≡ wide (field_named kind) + span (fields_named (drop (i + 1) kinds))
  unfolding span
  span_more = ap (λ (l : List Code-Field). span (fields_named l)) split

  module _ (o t : List ℕ) where
    pub no_space : expect space t ≡ refused → fields_at (fields_named (drop i kinds)) o t ≡ refused
    unfolding fields_at
    no_space e = ap (λ (l : List Code-Field). fields_at (fields_named l) o t) split ∙ and_refused _ e

    module _ {s : List ℕ} (e : expect space t ≡ next s) where
      pub no_field : field_at (field_named kind) o s ≡ refused → fields_at (fields_named (drop i kinds)) o t ≡ refused
      unfolding fields_at
      no_field f = ap (λ (l : List Code-Field). fields_at (fields_named l) o t) split ∙ and_next _ e ∙ and_refused _ f

      pub one_field : {p : Part} → field_at (field_named kind) o s ≡ next p → fields_at (fields_named (drop i kinds)) o t ≡ fields_at (fields_named (drop (i + 1) kinds)) p.done p.rest
      unfolding fields_at
      one_field f = ap (λ (l : List Code-Field). fields_at (fields_named l) o t) split ∙ and_next _ e ∙ and_next _ f

module _ (kinds : List Code-Field) (i : ℕ) (h : length kinds ≤ i) where
  none : drop i kinds ≡ []
  none = drop_of_length-le kinds h

  pub span_none : span (fields_named (drop i kinds)) ≡ 0
  unfolding span
  span_none = ap (λ (l : List Code-Field). span (fields_named l)) none

  module _ (o t : List ℕ) where
    pub no_feed : expect line_feed t ≡ refused → fields_at (fields_named (drop i kinds)) o t ≡ refused
    unfolding fields_at
    no_feed e = ap (λ (l : List Code-Field). fields_at (fields_named l) o t) none ∙ and_refused _ e

    pub all_fields : {s : List ℕ} → expect line_feed t ≡ next s → fields_at (fields_named (drop i kinds)) o t ≡ next (part o s)
    unfolding fields_at
    all_fields e = ap (λ (l : List Code-Field). fields_at (fields_named l) o t) none ∙ and_next _ e
