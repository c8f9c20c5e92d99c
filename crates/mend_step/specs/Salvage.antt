-- Document 02 (xii), "Mending a damaged trace": what is kept of a damaged trace, and what is skipped.
--
-- An input has n octets, and `trace` is all of it or its front: of what lies beyond the front it is known that it is there.
-- So a place in the front is the end only where it is n.
--
--   reads_to trace p      == the end of the record that the reader reads at place p, or none
--   known_mark trace e    == whether a mark stands at place e
--   meets_rule trace n q  == whether q is a place to resume at
--   resume trace n p     == the least place after p that meets the rule, or the input's end
--   step_at trace n p     == whether a record is kept at p, and the place after it or after the stretch
--   taken_at trace n p    == one step: nothing at the end, else a kept record or a stretch, and the place behind it
--   walk trace n         == the pieces, in order: each kept record and each stretch, by first octet and length
--   salvage_front trace n == the refusal 17, or the pieces;  salvage trace == that of a trace known to its end
--   salvage_input input   == what the program does with an input of any length
--   written_of trace ps   == what is written of the pieces ps;  stretches_of ps == what is listed of them
use Rattle.std.specs.Prelude.{ℕ, zero, suc, ◌+◌, ◌-◌, Bool, false, ◌&&◌, ◌||◌, List, [], ◌∷◌, ◌++◌, length, take, drop}
use Rattle.meaning.specs.Plain.{when◌then◌else◌, ◌<?◌, ◌≤?◌, ◌=?◌}
use Rattle.trace_record.specs.Trace.{Stands, event, finish, refusal, stands_at, be16, mark_octets}
use Rattle.trace_record.specs.Trace.{mark_gm, mark_gr, mark_gn, mark_vo, mark_vx, mark_ca, mark_sl, mark_vs, mark_po, mark_px}
use Rattle.std.specs.declared.option.Option.{Option}
use Rattle.std.specs.declared.option.Option.TheVariants.{None, Some}
use Rattle.mend_step.specs.declared.Stride.{Stride}
use Rattle.mend_step.specs.declared.Stride.TheVariants.{Kept, Skipped}

pub data Reading : Type 0 where
  none : Reading
  up_to : (end : ℕ) → Reading

abbrev pub reading_of : Stands → Reading
reading_of (event r next) = up_to next
reading_of finish = none
reading_of (refusal number place) = none

unfoldable pub reads_to : List ℕ → ℕ → Reading
reads_to trace p = reading_of (stands_at trace p)

-- "a known mark": any mark that the reader knows, GM, GR and GN too
abbrev pub marks : List ℕ
marks =
    mark_ca
    ∷ mark_sl
    ∷ mark_vo
    ∷ mark_vx
    ∷ mark_gm
    ∷ mark_gr
    ∷ mark_gn
    ∷ mark_vs
    ∷ mark_po
    ∷ mark_px
    ∷ []

abbrev pub among : ℕ → List ℕ → Bool
among m [] = false
among m (x ∷ xs) = m =? x || among m xs

unfoldable pub is_mark : ℕ → Bool
is_mark m = among m marks

unfoldable pub known_mark : List ℕ → ℕ → Bool
known_mark trace e = e + mark_octets ≤? length trace && is_mark (be16 trace e)

-- "where a whole readable record stands, directly followed by a known mark or the end"
abbrev pub followed : List ℕ → ℕ → Reading → Bool
followed trace n none = false
followed trace n (up_to e) = e =? n || known_mark trace e

unfoldable pub meets_rule : List ℕ → ℕ → ℕ → Bool
meets_rule trace n q = followed trace n (reads_to trace q)

-- "resumes at the first later octet where ..": the first of the k places from q, or the input's end
unfoldable pub first_of : List ℕ → ℕ → ℕ → ℕ → ℕ
first_of trace n zero q = n
first_of trace n (suc k) q = when meets_rule trace n q then q else first_of trace n k (suc q)

unfoldable pub resume : List ℕ → ℕ → ℕ → ℕ
resume trace n p = first_of trace n (length trace - suc p) (suc p)

abbrev pub step_of : List ℕ → ℕ → ℕ → Reading → Stride
step_of trace n p none = Skipped (resume trace n p)
step_of trace n p (up_to e) = Kept e

unfoldable pub step_at : List ℕ → ℕ → ℕ → Stride
step_at trace n p = step_of trace n p (reads_to trace p)

-- the place where the walk goes on
abbrev pub next_of : Stride → ℕ
next_of (Kept next) = next
next_of (Skipped next) = next

unfoldable pub taken_at : List ℕ → ℕ → ℕ → Option Stride
taken_at trace n p = when n ≤? p then None else Some (step_at trace n p)

-- "It writes the readable records and lists .. each skipped stretch by first octet and length"
pub data Piece : Type 0 where
  keeps : (first long : ℕ) → Piece
  skips : (first long : ℕ) → Piece

abbrev pub piece_of : ℕ → Stride → Piece
piece_of p (Kept next) = keeps p (next - p)
piece_of p (Skipped next) = skips p (next - p)

unfoldable pub walk_from : List ℕ → ℕ → ℕ → ℕ → List Piece
walk_from trace n zero p = []
walk_from trace n (suc k) p =
    when p <? n then piece_of p (step_at trace n p) ∷ walk_from trace n k (next_of (step_at trace n p))
    else []

-- a piece has an octet, so there are no more pieces than octets
unfoldable pub walk : List ℕ → ℕ → List Piece
walk trace n = walk_from trace n n 0

-- "Refusals: 17, no readable GM at the start, and nothing is written."
pub data Salvage : Type 0 where
  refused : (number : ℕ) → Salvage
  mended : List Piece → Salvage

abbrev pub salvage_of : List ℕ → ℕ → Reading → Salvage
salvage_of trace n none = refused 17
salvage_of trace n (up_to e) = mended (walk trace n)

unfoldable pub salvage_front : List ℕ → ℕ → Salvage
salvage_front trace n = salvage_of trace n (reads_to trace 0)

abbrev pub salvage : List ℕ → Salvage
salvage trace = salvage_front trace (length trace)

-- the program keeps up to so many octets of its input; "what lies beyond" it reads and counts
abbrev pub limit : ℕ
limit = 524_288

abbrev pub salvage_input : List ℕ → Salvage
salvage_input input = salvage_front (take limit input) (length input)

-- "It writes the readable records .. and nothing else is written": the kept records' octets
abbrev pub written_of : List ℕ → List Piece → List ℕ
written_of trace [] = []
written_of trace (keeps p l ∷ xs) = take l (drop p trace) ++ written_of trace xs
written_of trace (skips p l ∷ xs) = written_of trace xs

abbrev pub stretches_of : List Piece → List Piece
stretches_of [] = []
stretches_of (keeps p l ∷ xs) = stretches_of xs
stretches_of (skips p l ∷ xs) = skips p l ∷ stretches_of xs
