-- Octets put behind others: one, and those of a number that fits its field.
use Rattle.std.proofs.Common.{◌≡◌, ℕ, ◌+◌, ◌/◌, ◌%◌, ◌<◌, ◌≤◌, Option, Bor, List, [], ◌∷◌, ◌++◌, length, take, refl, sym, ap, ◌∙◌, arith}
use Rattle.std.specs.Int.{w16, w32, to_be_bytes}
use borrow.Rule.Slice.PartMut.{put_mid}
use Rattle.std.proofs.lemmas.Slice.{take-put_mid}
use Rattle.meaning.specs.Plain.{refused, next}
use Rattle.text_meaning.specs.Shapes.{cell, wide, top, of16, of_field}
use Rattle.text_meaning.specs.Grammar.{number_of, number, part, hexes, field_at}
use Rattle.text_meaning.proofs.Octets.{of32_bytes}
use Rattle.text_line.specs.declared.field.Field.{Field as Code-Field}
use Rattle.text_line.specs.declared.field.Field.TheVariants.{N8, N16, N32, Cell}
use Rattle.text_line.specs.Found.{Finds, field_named}
use native.Mathlib.Numerals.{add-one}
use lib.ListN.{set}
use lib.Seq.{take-suc-set}

pub put_one : (l : List ℕ) (i a : ℕ) → i < length l → take (i + 1) (set l i a) ≡ take i l ++ (a ∷ [])
put_one l i a h = ap (λ (k : ℕ). take k (set l i a)) (add-one i) ∙ take-suc-set l i a h

of16_bytes : (n : ℕ) → n ≤ 65535 → of16 n ≡ to_be_bytes w16 n
of16_bytes n h = let e : n / 256 ≡ n / 256 % 256 = omega arith in ap (λ (x : ℕ). x ∷ n % 256 ∷ []) e

-- a field that is a number
module _ (o t : List ℕ) where
  pub no_number : (kind : Code-Field) → (field_named kind ≡ cell → ⊥) → number (top (field_named kind)) t ≡ refused → field_at (field_named kind) o t ≡ refused
  unfolding field_at
  no_number N8 z e = rw e
  no_number N16 z e = rw e
  no_number N32 z e = rw e
  no_number Cell z e = absurd (z refl)

  pub a_number : (kind : Code-Field) (n : ℕ) (s : List ℕ) → (field_named kind ≡ cell → ⊥) → number (top (field_named kind)) t ≡ next (number_of n s)
      → field_at (field_named kind) o t ≡ next (part (o ++ of_field (field_named kind) n) s)
  unfolding field_at
  a_number N8 n s z e = rw e refl
  a_number N16 n s z e = rw e refl
  a_number N32 n s z e = rw e refl
  a_number Cell n s z e = absurd (z refl)

  pub a_cell : (kind : Code-Field) (rec : List ℕ) (at : ℕ) (r : Option (Bor (List ℕ))) → kind ≡ Cell → Finds (λ s. part (take (at + 53) rec) s.now) r (hexes 53 o t)
      → Finds (λ s. part (take (at + wide (field_named kind)) rec) s.now) r (field_at (field_named kind) o t)
  unfolding field_at
  a_cell N8 rec at r e h = absurd (cc)
  a_cell N16 rec at r e h = absurd (cc)
  a_cell N32 rec at r e h = absurd (cc)
  a_cell Cell rec at r e h = h

pub only_32 : (kind : Code-Field) → (field_named kind ≡ cell → ⊥) → (kind ≡ N8 → ⊥) → (kind ≡ N16 → ⊥) → kind ≡ N32
only_32 N8 z a b = absurd (a refl)
only_32 N16 z a b = absurd (b refl)
only_32 N32 z a b = refl
only_32 Cell z a b = absurd (z refl)

-- a number's octets, put behind others as its field has it
module _ (rec : List ℕ) (at n : ℕ) (kind : Code-Field) (new : List ℕ) where
  abbrev Stands : Type 0
  Stands = take at rec ++ of_field (field_named kind) n ≡ take (at + wide (field_named kind)) new

  pub put_8 : kind ≡ N8 → at < length rec → new ≡ set rec at n → Stands
  put_8 e h f = rw e (sym (ap (take (at + 1)) f ∙ put_one rec at n h))

  put_wide : (u : ℕ) (l : List ℕ) → l ≡ of_field (field_named kind) n → length l ≡ wide (field_named kind) → at ≤ length rec → new ≡ put_mid at u rec l → Stands
  put_wide u l e w h f =
      ap (λ (k : List ℕ). take at rec ++ k) (sym e)
      ∙ sym (ap (take (at + wide (field_named kind))) f ∙ take-put_mid at u rec l (at + wide (field_named kind)) (omega (arith, w)) h)

  pub put_16 : (u : ℕ) (l : List ℕ) → kind ≡ N16 → n ≤ 65535 → l ≡ to_be_bytes w16 n → at ≤ length rec → new ≡ put_mid at u rec l → Stands
  put_16 u l e k b h f = put_wide u l (rw e (b ∙ sym (of16_bytes n k))) (rw e (ap length b)) h f

  pub put_32 : (u : ℕ) (l : List ℕ) → kind ≡ N32 → n < 4294967296 → l ≡ to_be_bytes w32 n → at ≤ length rec → new ≡ put_mid at u rec l → Stands
  put_32 u l e k b h f = put_wide u l (rw e (b ∙ sym (of32_bytes n k))) (rw e (ap length b)) h f
