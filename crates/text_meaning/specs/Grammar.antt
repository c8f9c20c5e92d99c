-- Document 02 (viii): "each line is a record's mark and fields in order, one space between, a line feed after, numbers in
-- decimal without leading zeros, a cell as 106 hex digits of either case; a pause may be up to 4,294,967,295 slots."
-- Each definition reads the octets from some place on, s, and gives what it found and the octets that are left, or refuses.
--
--   number top s      == a decimal number of at most top
--   fields_at fs o s   == the fields fs, a space before each and a line feed after the last, put behind the octets o
--   line first s      == one line
use Rattle.std.specs.Prelude.{ℕ, zero, suc, ◌+◌, ◌-◌, ◌*◌, Bool, ◌&&◌, List, [], ◌∷◌, ◌++◌}
use Rattle.meaning.specs.Plain.{Out, refused, next, ◌and_then◌, when◌then◌else◌, ◌<?◌, ◌≤?◌, ◌=?◌}
use Rattle.meaning.specs.Numbers.{octets}
use Rattle.list_lines.specs.Text.{space, line_feed}
use Rattle.text_meaning.specs.Shapes.{Field, n8, n16, n32, cell, top, of16, of_field, Shape, fields, slots, shape_of}
use Rattle.text_meaning.specs.Events.{Event, told, pause}

-- a number, and what is left
pub record Number : Type 0 where
  pub value : ℕ
  pub rest : List ℕ

abbrev pub number_of : ℕ → List ℕ → Number
number_of v s = record { value = v; rest = s }

-- octets of a record, and what is left
pub record Part : Type 0 where
  pub done : List ℕ
  pub rest : List ℕ

abbrev pub part : List ℕ → List ℕ → Part
part o s = record { done = o; rest = s }

-- the very octet x
unfoldable pub expect : ℕ → List ℕ → Out (List ℕ)
expect x [] = refused
expect x (y ∷ s) = when y =? x then next s else refused

-- "0".."9" is 48 to 57: the digit's value, or 10 where the octet is none
unfoldable pub digit_of : ℕ → ℕ
digit_of x = when 48 ≤? x && x <? 58 then x - 48 else 10

-- all digits that follow, v being the value of those before
unfoldable pub digits : ℕ → List ℕ → Number
digits v [] = number_of v []
digits v (x ∷ s) = when digit_of x =? 10 then number_of v (x ∷ s) else digits (v * 10 + digit_of x) s

-- decimal = "0" / ("1".."9") *("0".."9"), at most top
unfoldable pub within : ℕ → Number → Out Number
within most n = when n.value ≤? most then next n else refused

unfoldable pub number : ℕ → List ℕ → Out Number
number most [] = refused
number most (x ∷ s) =
    when digit_of x =? 10 then refused
    else when digit_of x =? 0 then next (number_of 0 s)
    else within most (digits (digit_of x) s)

-- "0".."9", "A".."F" from 65, "a".."f" from 97: the digit's value, or 16 where the octet is none
unfoldable pub nibble_of : ℕ → ℕ
nibble_of x =
    when 48 ≤? x && x <? 58 then x - 48
    else when 65 ≤? x && x <? 71 then x - 55
    else when 97 ≤? x && x <? 103 then x - 87
    else 16

-- "106 hex digits of either case": k octets, the first digit of each being the high half
unfoldable pub hexes : ℕ → List ℕ → List ℕ → Out Part
hexes zero o s = next (part o s)
hexes (suc k) o [] = refused
hexes (suc k) o (x ∷ []) = refused
hexes (suc k) o (x ∷ y ∷ s) =
    when nibble_of x =? 16 then refused
    else when nibble_of y =? 16 then refused
    else hexes k (o ++ ((nibble_of x * 16 + nibble_of y) ∷ [])) s

-- one field, put behind the octets o
unfoldable pub field_at : Field → List ℕ → List ℕ → Out Part
field_at cell o s = hexes octets o s
field_at n8 o s = number (top n8) s and_then λ n. next (part (o ++ of_field n8 n.value) n.rest)
field_at n16 o s = number (top n16) s and_then λ n. next (part (o ++ of_field n16 n.value) n.rest)
field_at n32 o s = number (top n32) s and_then λ n. next (part (o ++ of_field n32 n.value) n.rest)

-- the fields of a line, with the line feed behind them
unfoldable pub fields_at : List Field → List ℕ → List ℕ → Out Part
fields_at [] o s = expect line_feed s and_then λ t. next (part o t)
fields_at (f ∷ fs) o s = expect space s and_then λ t. field_at f o t and_then λ p. fields_at fs p.done p.rest

-- an event, and what is left
pub record Told : Type 0 where
  pub event : Event
  pub rest : List ℕ

abbrev pub tells : Event → List ℕ → Told
tells e s = record { event = e; rest = s }

-- "a pause may be up to 4,294,967,295 slots"; the reader refuses "an SL of 0"
unfoldable pub slots_at : List ℕ → Out Told
slots_at s =
    expect space s and_then λ t. number (top n32) t and_then λ n.
    when n.value =? 0 then refused else expect line_feed n.rest and_then λ u. next (tells (pause n.value) u)

unfoldable pub shaped_line : ℕ → Out Shape → List ℕ → Out Told
shaped_line mark refused s = refused
shaped_line mark (next slots) s = slots_at s
shaped_line mark (next (fields fs)) s = fields_at fs (of16 mark) s and_then λ p. next (tells (told p.done) p.rest)

unfoldable pub line : Bool → List ℕ → Out Told
line first [] = refused
line first (a ∷ []) = refused
line first (a ∷ b ∷ s) = shaped_line (a * 256 + b) (shape_of first (a * 256 + b)) s
