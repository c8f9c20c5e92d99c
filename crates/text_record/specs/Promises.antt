-- What the writer of a record promises: its answer and every octet of the output, for every output, place and record, each by
-- an equation.
use Rattle.std.specs.Prelude.{ℕ, ◌+◌, ◌≡◌, List, length, Ok, Err}
use Rattle.meaning.specs.Plain.{when◌then◌else◌, ◌≤?◌, ◌=?◌}
use Rattle.list_lines.specs.Put.{puts}
use Rattle.text_meaning.specs.declared.WriteError.TheVariants.{Unreadable, TooShort}
use Rattle.text_meaning.specs.Writing.{Answer, number_in}
use Rattle.text_record.specs.Record.{Given, record_octets, allowed_at}

-- the place behind the record; "Refusals: 10 .. that the reader would refuse ..; after it 14, output too short."
unfoldable pub answer_at : List ℕ → ℕ → Given → Answer
answer_at out at r =
    when allowed_at at r then (when at + length (record_octets r) ≤? length out then Ok (at + length (record_octets r)) else Err (TooShort at))
    else Err (Unreadable at)

-- 0, 10 or 14
abbrev pub number_at : List ℕ → ℕ → Given → ℕ
number_at out at r = number_in (answer_at out at r)

-- "Neither changes an octet of the output"
unfoldable pub output_at : List ℕ → ℕ → Given → List ℕ
output_at out at r = when number_at out at r =? 0 then puts out at (record_octets r) else out

-- the answer w, and the output out' afterwards
pub record WritePromise (out : List ℕ) (at : ℕ) (r : Given) (w : Answer) (out' : List ℕ) : Type 0 where
  pub answer : w ≡ answer_at out at r
  pub output : out' ≡ output_at out at r
