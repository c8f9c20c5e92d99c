-- Document 02 (viii), the other way: the text that a trace is made from, a line a record. "each line is a record's mark and
-- fields in order, one space between, a line feed after, numbers in decimal without leading zeros, a cell as 106 hex digits
-- of either case": small letters here.
--
--   hex_of octets       == octets as hex digits, the high half of each first
--   line_of trace r     == the line of a record that the reader found in a trace
--   text_of trace       == the lines of all records, up to the end or to the first that can't be read
use Rattle.std.specs.Prelude.{ℕ, zero, suc, ◌+◌, ◌/◌, ◌%◌, ◌≤◌, List, [], ◌∷◌, ◌++◌, length, take, drop}
use Rattle.meaning.specs.Plain.{when◌then◌else◌, ◌<?◌}
use Rattle.meaning.specs.Numbers.{octets}
use Rattle.trace_record.specs.Trace.{TraceRecord, GM, VO, VX, CA, SL, VS, PO, PX, Stands, event, finish, refusal, stands_at}
use Rattle.trace_record.specs.Trace.{head_mark, mark_vo, mark_vx, mark_ca, mark_sl, mark_vs, mark_po, mark_px}
use Rattle.list_lines.specs.Text.{decimal_of, line}
use Rattle.text_meaning.specs.Shapes.{of16}

-- "0".."9" from 48, "a".."f" from 97
abbrev pub hex_digit : ℕ → ℕ
hex_digit x = when x <? 10 then 48 + x else 87 + x

abbrev pub hex_pair : ℕ → List ℕ
hex_pair x = hex_digit (x / 16) ∷ hex_digit (x % 16) ∷ []

unfoldable pub hex_of : List ℕ → List ℕ
hex_of [] = []
hex_of (x ∷ xs) = hex_pair x ++ hex_of xs

-- an opening and a closing, by mark: PO and PX are VO and VX with the VPI
unfoldable pub opening_line : (mark c m F C : ℕ) → List ℕ
opening_line mark c m F C = line (of16 mark ∷ decimal_of c ∷ decimal_of m ∷ decimal_of F ∷ decimal_of C ∷ [])

unfoldable pub closing_line : (mark c : ℕ) → List ℕ
closing_line mark c = line (of16 mark ∷ decimal_of c ∷ [])

unfoldable pub line_of : List ℕ → TraceRecord → List ℕ
line_of trace (GM N z head) = line (of16 (head_mark head) ∷ decimal_of N ∷ decimal_of z ∷ [])
line_of trace (VO vci m F C) = opening_line mark_vo vci m F C
line_of trace (VX vci) = closing_line mark_vx vci
line_of trace (PO vpi m F C) = opening_line mark_po vpi m F C
line_of trace (PX vpi) = closing_line mark_px vpi
line_of trace (CA start) = line (of16 mark_ca ∷ hex_of (take octets (drop start trace)) ∷ [])
line_of trace (SL count) = line (of16 mark_sl ∷ decimal_of count ∷ [])
line_of trace (VS vci m F C x) =
    line
    (of16 mark_vs
    ∷ decimal_of vci
    ∷ decimal_of m
    ∷ decimal_of F
    ∷ decimal_of C
    ∷ decimal_of x.m
    ∷ decimal_of x.F
    ∷ decimal_of x.C
    ∷ decimal_of x.tag
    ∷ [])

-- no line is longer
abbrev pub line_room : ℕ
line_room = 128

-- a cell that a record names lies within the trace
abbrev pub CellWithin : List ℕ → TraceRecord → Type 0
CellWithin trace (GM N z head) = 0 ≤ 0
CellWithin trace (VO vci m F C) = 0 ≤ 0
CellWithin trace (VX vci) = 0 ≤ 0
CellWithin trace (CA start) = start + octets ≤ length trace
CellWithin trace (SL count) = 0 ≤ 0
CellWithin trace (VS vci m F C x) = 0 ≤ 0
CellWithin trace (PO vpi m F C) = 0 ≤ 0
CellWithin trace (PX vpi) = 0 ≤ 0

-- the line of what stands at a place, and what is said from the next on
unfoldable pub text_at : List ℕ → (ℕ → List ℕ) → Stands → List ℕ
text_at trace on (event r next) = line_of trace r ++ on next
text_at trace on finish = []
text_at trace on (refusal number place) = []

-- from place at on, of at most k records: k above the octets left is enough
unfoldable pub text_from : ℕ → List ℕ → ℕ → List ℕ
text_from zero trace at = []
text_from (suc k) trace at = text_at trace (text_from k trace) (stands_at trace at)

unfoldable pub text_of : List ℕ → List ℕ
text_of trace = text_from (length trace + 1) trace 0
