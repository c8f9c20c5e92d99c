-- What a fill of the two lent buffers promises: it takes pieces while there are some and the next surely has room, no fewer
-- and no more; what they write and list stands at the buffers' starts, and every octet behind is kept.
--
--   fill_of trace n p a b == the pieces that are taken from place p on, with room for a octets of records and b of lines
--   end_of p ps           == the place behind the pieces ps that begin at p
--   number_at, number_of   == what a fill answers, 17 included
use Rattle.std.specs.Prelude.{ℕ, zero, suc, ◌+◌, ◌-◌, ◌≤◌, ◌≡◌, Bool, true, false, ◌&&◌, not, List, [], ◌∷◌, length, Result, Ok, Err}
use Rattle.meaning.specs.Plain.{when◌then◌else◌, ◌<?◌, ◌≤?◌, ◌=?◌}
use Rattle.list_lines.specs.Put.{Put}
use Rattle.trace_record.specs.Trace.{long_ca}
use Rattle.mend_step.specs.Salvage.{Reading, none, up_to, reads_to, step_at, next_of, Piece, keeps, skips, piece_of, written_of}
use Rattle.mend_fill.specs.declared.Filled.{Filled}
use Rattle.mend_fill.specs.declared.FillError.{FillError}
use Rattle.mend_fill.specs.declared.FillError.TheVariants.{NoHead}
use Rattle.mend_fill.specs.Lines.{lines_of}

-- the longest record; and twenty digits, a space, twenty digits, a line feed
abbrev pub record_room : ℕ
record_room = long_ca

abbrev pub line_room : ℕ
line_room = 42

unfoldable pub fill_from : List ℕ → ℕ → ℕ → ℕ → ℕ → ℕ → List Piece
fill_from trace n zero p a b = []
fill_from trace n (suc k) p a b =
    when p <? n && (record_room ≤? a && line_room ≤? b)
    then piece_of p (step_at trace n p)
    ∷ fill_from trace n k (next_of (step_at trace n p)) (a - length (written_of trace (piece_of p (step_at trace n p) ∷ [])))
    (b - length (lines_of (piece_of p (step_at trace n p) ∷ [])))
    else []

-- a piece has an octet, so there are no more pieces than octets
unfoldable pub fill_of : List ℕ → ℕ → ℕ → ℕ → ℕ → List Piece
fill_of trace n p a b = fill_from trace n (n - p) p a b

abbrev pub end_of : ℕ → List Piece → ℕ
end_of p [] = p
end_of p (keeps q l ∷ xs) = end_of (q + l) xs
end_of p (skips q l ∷ xs) = end_of (q + l) xs

-- what the pieces ps from place p do to two buffers
pub record Took (trace : List ℕ) (p : ℕ) (ps : List Piece) (out text : List ℕ) (r : Filled) (out' text' : List ℕ) : Type 0 where
  pub at : r.at ≡ end_of p ps
  pub written : Put out 0 (written_of trace ps) out' r.written
  pub listed : Put text 0 (lines_of ps) text' r.listed
  pub within : (r.written ≤ length out) × (r.listed ≤ length text)

-- "17, no readable GM at the start, and nothing is written"
abbrev pub begun : Reading → Bool
begun none = false
begun (up_to e) = true

unfoldable pub refuses : List ℕ → ℕ → Bool
refuses trace p = p =? 0 && not (begun (reads_to trace 0))

abbrev pub number_at : List ℕ → ℕ → ℕ
number_at trace p = when refuses trace p then 17 else 0

-- the number that an answer is, and what it says of the buffers: refused, they keep every octet
abbrev pub number_of : Result Filled FillError → ℕ
number_of (Ok f) = 0
number_of (Err NoHead) = 17

abbrev pub TookOrKept : List ℕ → ℕ → ℕ → List ℕ → List ℕ → Result Filled FillError → List ℕ → List ℕ → Type 0
TookOrKept trace n p out text (Ok f) out' text' = Took trace p (fill_of trace n p (length out) (length text)) out text f out' text'
TookOrKept trace n p out text (Err e) out' text' = (out' ≡ out) × (text' ≡ text)

pub record FillPromise (trace : List ℕ) (n p : ℕ) (out text : List ℕ) (r : Result Filled FillError) (out' text' : List ℕ) : Type 0 where
  pub number : number_of r ≡ number_at trace p
  pub took : TookOrKept trace n p out text r out' text'
