-- Document 02 (viii), the program: what it hands to its two outputs, said of its whole input.
--
--   limit              == the octets of a text that it takes
--   said_of input       == the events of the input, or the first line that isn't good and wholly within the limit
--   trace_of s room     == what goes to the first output, where its buffer has that much room
--   error_of s room     == what goes to the second: nothing, or one line
use Rattle.std.specs.Prelude.{ℕ, List, [], ◌∷◌, length, take, Result, Ok, Err}
use Rattle.meaning.specs.Plain.{when◌then◌else◌, ◌<?◌}
use Rattle.list_lines.specs.Text.{line}
use Rattle.list_lines.specs.Lines.{stop_line}
use Rattle.list_lines.specs.Put.{Put}
use Rattle.text_meaning.specs.Events.{octets_all, merge}
use Rattle.text_meaning.specs.Writing.{Said, good, bad, events}

abbrev pub limit : ℕ
limit = 524_288

-- room for the longest line
abbrev pub line_room : ℕ
line_room = 64

-- a text that goes on behind n octets: where all lines within them are good, the line behind them isn't within
unfoldable pub goes_further : ℕ → Said → Said
goes_further n (good es) = bad n
goes_further n (bad p) = bad p

unfoldable pub said_of : List ℕ → Said
said_of input = when limit <? length input then goes_further limit (events (take limit input)) else events input

-- `stop 14`
unfoldable pub short_line : List ℕ
short_line = line ((115 ∷ 116 ∷ 111 ∷ 112 ∷ []) ∷ (49 ∷ 52 ∷ []) ∷ [])

unfoldable pub trace_of : Said → ℕ → List ℕ
trace_of (good es) room = when room <? length (octets_all (merge es)) then [] else octets_all (merge es)
trace_of (bad p) room = []

unfoldable pub error_of : Said → ℕ → List ℕ
error_of (good es) room = when room <? length (octets_all (merge es)) then short_line else []
error_of (bad p) room = stop_line p

-- how many octets of the two buffers are to be handed over: of the trace, or of the line
abbrev pub Scribed : Type 0
Scribed = Result ℕ ℕ

abbrev pub trace_long : Scribed → ℕ
trace_long (Ok n) = n
trace_long (Err n) = 0

abbrev pub line_long : Scribed → ℕ
line_long (Ok n) = 0
line_long (Err n) = n

-- both stand at the start of their buffers, and r says how long they are; every other octet is kept
pub record ScribePromise (input out line : List ℕ) (r : Scribed) (out' line' : List ℕ) : Type 0 where
  pub trace : Put out 0 (trace_of (said_of input) (length out)) out' (trace_long r)
  pub error : Put line 0 (error_of (said_of input) (length out)) line' (line_long r)
