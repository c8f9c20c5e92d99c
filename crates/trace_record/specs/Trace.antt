-- Document 01, "Trace and listing": the records of a trace, and what stands at a place of it.
--
--   TraceRecord          == a record, by its mark, with its numbers in document 01's order
--   head_options head     == what a trace that begins so chooses at setup; head_mark head == its mark
--   Stands               == what stands at a place: a record and the next place, the end, or a refusal with its place
--   stands_at trace at    == what stands at place at of a trace
--   said_of r             == document 01's number and values of the reader's answer r, by case
use Rattle.std.specs.Prelude.{ℕ, ◌+◌, ◌*◌, ◌≤◌, ◌≡◌, Bool, true, false, ◌&&◌, List, length, get_or}
use Rattle.meaning.specs.Plain.{when◌then◌else◌, ◌<?◌, ◌≤?◌, ◌=?◌}
use Rattle.meaning.specs.Words.{Second, second_of}
use Rattle.meaning.specs.Calls.{Kind, UNI, NNI, Options, options_of}
pub use Rattle.trace_record.specs.Marks.{mark_octets, mark_gm, mark_gr, mark_gn, mark_vo, mark_vx, mark_ca, mark_sl, mark_vs, mark_po, mark_px}
pub use Rattle.trace_record.specs.Marks.{long_gm, long_vo, long_vx, long_ca, long_sl, long_vs, long_po, long_px}
use Rattle.trace_record.specs.Marks.{letters_of, is_head}
use Rattle.trace_record.specs.declared.mark.Mark.{Mark}
use Rattle.trace_record.specs.declared.Head.{Head}
use Rattle.trace_record.specs.declared.Head.TheVariants.{Gm, Gr, Gn}
use Rattle.trace_record.specs.declared.Event.{Event}
use Rattle.trace_record.specs.declared.Event.TheVariants.{Setup, Open, Close, Cell, Pause, Sustain, OpenPath, ClosePath}
use Rattle.trace_record.specs.declared.Found.{Found}
use Rattle.trace_record.specs.declared.Found.TheVariants.{Read, End, Unreadable}

-- The first record is a GM, or in its place a GR or GN. Document 02 (i): "a trace beginning GR instead of GM is raw"; (vi): "GN in
-- place of GM begins an NNI trace". There is no mark for a raw NNI trace.
abbrev head_raw : Head → Bool
head_raw Gm = false
head_raw Gr = true
head_raw Gn = false

abbrev head_kind : Head → Kind
head_kind Gm = UNI
head_kind Gr = UNI
head_kind Gn = NNI

-- Nor is there one for splits (xi): all connections are the second operator's.
abbrev pub head_options : Head → Options
head_options head = options_of (head_raw head) (head_kind head)

abbrev pub head_mark : Head → ℕ
head_mark Gm = mark_gm
head_mark Gr = mark_gr
head_mark Gn = mark_gn

-- "GM: N, V .. VO: VCI, m, F, C. VX: VCI. CA: 53 octets, one slot. SL: a count of empty slots": a CA names the place
-- where its 53 octets start. A GM is one by its head: GR and GN are GM otherwise. Document 02 (iv): "VS: as VO, then m (8), F (32),
-- C (32), flag (8)": the second bucket that the VC is opened with; (vi): "PO and PX are VO and VX with the VPI"
pub data TraceRecord : Type 0 where
  GM : (N z : ℕ) (head : Head) → TraceRecord
  VO : (vci m F C : ℕ) → TraceRecord
  VX : (vci : ℕ) → TraceRecord
  CA : (start : ℕ) → TraceRecord
  SL : (count : ℕ) → TraceRecord
  VS : (vci m F C : ℕ) (x : Second) → TraceRecord
  PO : (vpi m F C : ℕ) → TraceRecord
  PX : (vpi : ℕ) → TraceRecord

pub data Stands : Type 0 where
  event : TraceRecord → (next : ℕ) → Stands
  finish : Stands
  refusal : (number place : ℕ) → Stands

-- "10: trace: record unreadable, with its place"; "the place is the octet, from 0, where the record starts"
abbrev pub unreadable : ℕ → Stands
unreadable at = refusal 10 at

-- "numbers are high octet first": of 16 bits, of 32 bits, from place i
unfoldable pub be16 : List ℕ → ℕ → ℕ
be16 trace i = get_or trace i 0 * 256 + get_or trace (i + 1) 0

unfoldable pub be32 : List ℕ → ℕ → ℕ
be32 trace i = be16 trace i * 65_536 + be16 trace (i + 2)

-- a mark's two letters stand at a place
abbrev pub MarkAt : List ℕ → ℕ → Mark → Type 0
MarkAt trace at m = (at + mark_octets ≤ length trace) × (be16 trace at ≡ letters_of m)

-- "a short record .. is refused with 10": a record of so many octets that starts at place at
unfoldable pub whole : List ℕ → ℕ → ℕ → TraceRecord → Stands
whole trace at long r = when at + long ≤? length trace then event r (at + long) else unreadable at

unfoldable pub setup_at : List ℕ → ℕ → Head → Stands
setup_at trace at head = whole trace at long_gm (GM (be16 trace (at + 2)) (be16 trace (at + 4)) head)

unfoldable pub open_at : List ℕ → ℕ → Stands
open_at trace at =
    whole trace at long_vo
    (VO (be16 trace (at + 2)) (get_or trace (at + 4) 0) (be32 trace (at + 5)) (be32 trace (at + 9)))

unfoldable pub sustain_at : List ℕ → ℕ → Stands
sustain_at trace at =
    let x = second_of (get_or trace (at + 13) 0) (be32 trace (at + 14)) (be32 trace (at + 18)) (get_or trace (at + 22) 0) in
    whole trace at long_vs
    (VS (be16 trace (at + 2)) (get_or trace (at + 4) 0) (be32 trace (at + 5)) (be32 trace (at + 9)) x)

unfoldable pub close_at : List ℕ → ℕ → Stands
close_at trace at = whole trace at long_vx (VX (be16 trace (at + 2)))

unfoldable pub open_path_at : List ℕ → ℕ → Stands
open_path_at trace at =
    whole trace at long_po
    (PO (be16 trace (at + 2)) (get_or trace (at + 4) 0) (be32 trace (at + 5)) (be32 trace (at + 9)))

unfoldable pub close_path_at : List ℕ → ℕ → Stands
close_path_at trace at = whole trace at long_px (PX (be16 trace (at + 2)))

unfoldable pub cell_at : List ℕ → ℕ → Stands
cell_at trace at = whole trace at long_ca (CA (at + mark_octets))

-- "a count (16) of empty slots, at least 1 .. an SL of 0 .. is refused with 10"
unfoldable pub pause_at : List ℕ → ℕ → Stands
pause_at trace at =
    when be16 trace (at + 2) =? 0 then unreadable at
    else whole trace at long_sl (SL (be16 trace (at + 2)))

-- "GM .. first and only first .. An unknown mark .. a first record that isn't GM or a later GM is refused with 10"; so is
-- a later GR or GN
unfoldable pub first_at : List ℕ → ℕ → ℕ → Stands
first_at trace at mark =
    when mark =? mark_gm then setup_at trace at Gm
    else when mark =? mark_gr then setup_at trace at Gr
    else when mark =? mark_gn then setup_at trace at Gn
    else unreadable at

unfoldable pub later_at : List ℕ → ℕ → ℕ → Stands
later_at trace at mark =
    when mark =? mark_ca then cell_at trace at
    else when mark =? mark_sl then pause_at trace at
    else when mark =? mark_vo then open_at trace at
    else when mark =? mark_vx then close_at trace at
    else when mark =? mark_vs then sustain_at trace at
    else when mark =? mark_po then open_path_at trace at
    else when mark =? mark_px then close_path_at trace at
    else unreadable at

-- the record of a mark that stands where such a record may
unfoldable pub record_at : List ℕ → ℕ → Mark → Stands
record_at trace at mark = when is_head mark then first_at trace at (letters_of mark) else later_at trace at (letters_of mark)

-- What stands at a place. First is place 0. The place after the last octet of a trace that isn't empty is its end.
-- "A place past the trace's end is refused with 10 and that place"; so is an empty trace, at place 0.
unfoldable pub stands_at : List ℕ → ℕ → Stands
stands_at trace at =
    when 1 ≤? at && at =? length trace then finish
    else when length trace <? at + mark_octets then unreadable at
    else when at =? 0 then first_at trace at (be16 trace at)
    else later_at trace at (be16 trace at)

-- "For any answer that is an enum, a definition gives this paper's number and values for each case."
abbrev pub record_of : Event → TraceRecord
record_of (Setup n v head) = GM n v head
record_of (Open vci m f c) = VO vci m f c
record_of (Close vci) = VX vci
record_of (Cell start) = CA start
record_of (Pause slots) = SL slots
record_of (Sustain vci m f c m2 f2 c2 tag) = VS vci m f c (second_of m2 f2 c2 tag)
record_of (OpenPath vpi m f c) = PO vpi m f c
record_of (ClosePath vpi) = PX vpi

abbrev pub said_of : Found → Stands
said_of (Read e next) = event (record_of e) next
said_of End = finish
said_of (Unreadable place) = unreadable place
