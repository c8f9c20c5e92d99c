-- What the answers of the line's parser mean in the words of the grammar: None is a refusal, and the octets that an answer ends
-- with are those that are left.
--
--   Finds view r o        == the answer r, seen by view, is what the grammar finds, o
--   digit_at s, nibble_at s == the value of the digit that s begins with, and what is left
--   field_named f, fields_named fs == a field and fields, as the grammar names them
--   line_found rec r       == what the answer r means, where rec holds its octets
--   record_in l           == the octets of the record that a line says
use Rattle.std.specs.Prelude.{ℕ, ◌+◌, ◌≤◌, ◌<◌, ◌≡◌, List, [], ◌∷◌, take, map, Option, Some, None}
use Rattle.meaning.specs.Plain.{Out, refused, next, when◌then◌else◌, ◌=?◌}
use Rattle.text_meaning.specs.Shapes.{Field, n8, n16, n32, cell, wide, Shape, fields, slots}
use Rattle.text_meaning.specs.Events.{Event, told, pause}
use Rattle.text_meaning.specs.Grammar.{Number, number_of, digit_of, nibble_of}
use Rattle.text_meaning.specs.Writing.{Placed, placed}
use Rattle.text_line.specs.declared.Line.{Line}
use Rattle.text_line.specs.declared.Line.TheVariants.{Record, Pause}
use Rattle.text_line.specs.declared.field.Field.{Field as Code-Field}
use Rattle.text_line.specs.declared.field.Field.TheVariants.{N8, N16, N32, Cell}
use Rattle.text_line.specs.declared.Shape.{Shape as Code-Shape}
use Rattle.text_line.specs.declared.Shape.TheVariants.{Fields, Slots}

abbrev pub Finds : {X Y : Type 0} → (X → Y) → Option X → Out Y → Type 0
Finds view None o = o ≡ refused
Finds view (Some x) o = o ≡ next (view x)

-- a digit, decimal or hex, is a number and what is left
unfoldable pub digit_at : List ℕ → Out Number
digit_at [] = refused
digit_at (x ∷ s) = when digit_of x =? 10 then refused else next (number_of (digit_of x) s)

unfoldable pub nibble_at : List ℕ → Out Number
nibble_at [] = refused
nibble_at (x ∷ s) = when nibble_of x =? 16 then refused else next (number_of (nibble_of x) s)

abbrev pub field_named : Code-Field → Field
field_named N8 = n8
field_named N16 = n16
field_named N32 = n32
field_named Cell = cell

abbrev pub fields_named : List Code-Field → List Field
fields_named fs = map field_named fs

-- the octets of fields
unfoldable pub span : List Field → ℕ
span [] = 0
span (f ∷ fs) = wide f + span fs

abbrev pub shape_named : Code-Shape → Shape
shape_named (Fields fs) = fields (fields_named fs.now)
shape_named Slots = slots

-- fields behind a mark's two octets fit the room of the longest record
abbrev pub ShapeFits : Code-Shape → Type 0
ShapeFits (Fields fs) = 2 + span (fields_named fs.now) ≤ 55
ShapeFits Slots = 2 ≤ 55

abbrev pub event_found : List ℕ → Line → Event
event_found rec (Record long) = told (take long rec)
event_found rec (Pause n) = pause n

abbrev pub line_found : List ℕ → Option (Line × ℕ) → Out Placed
line_found rec None = refused
line_found rec (Some l) = next (placed (event_found rec l.0) l.1)

-- the octets of the record that a line says: a pause has none here, and a line that isn't good has none
abbrev octets_in : Event → List ℕ
octets_in (told o) = o
octets_in (pause n) = []

unfoldable pub record_in : Out Placed → List ℕ
record_in refused = []
record_in (next l) = octets_in l.event

-- a record has its mark and fits the room
abbrev pub LongWithin : Line → Type 0
LongWithin (Record long) = (2 ≤ long) × (long ≤ 55)
LongWithin (Pause n) = 0 ≤ 0

-- where a line lies: behind its place, within the text
abbrev pub LineWithin : ℕ → ℕ → Option (Line × ℕ) → Type 0
LineWithin p text None = 0 ≤ 0
LineWithin p text (Some l) = (p < l.1) × (l.1 ≤ text) × LongWithin l.0
