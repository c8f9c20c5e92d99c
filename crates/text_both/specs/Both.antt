-- Document 02 (viii): "writing what was read gives the same octets for every trace already in that form", said of the two
-- programs. proofs/Both.antt: it holds of every trace that is readable throughout and in that form, where the programs take
-- the trace and its text.
use Rattle.std.specs.Prelude.{ℕ, ◌≡◌, List, [], length}
use Rattle.text_print.specs.Print.{text_of}
use Rattle.text_scribe.specs.Scribe.{said_of, trace_of, error_of}
use Rattle.text_show.specs.Shown.{stop_of}

-- `unscribe` says nothing on its second output; `scribe` of the text that it prints, with room for so many octets, hands over
-- the trace on its first output and nothing on its second
pub record ThereAndBack (trace : List ℕ) (room : ℕ) : Type 0 where
  pub printed : stop_of trace (length trace) ≡ []
  pub written : trace_of (said_of (text_of trace)) room ≡ trace
  pub silent : error_of (said_of (text_of trace)) room ≡ []
