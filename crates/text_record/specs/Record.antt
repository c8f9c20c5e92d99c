-- Document 02 (viii): "Add the writer for each record": a record as it is given to a writer, its octets, and where the
-- reader would read it.
--
--   Given            == a record, by its mark, with its numbers in document 01's order; a CA with its 53 octets
--   record_octets r   == its octets: its mark and its fields, numbers high octet first
--   given_event r     == what it says
--   allowed_at at r   == the reader reads such a record at place at
--   record_at at r    == the record as the reader names it there: a CA by the place where its octets start
use Rattle.std.specs.Prelude.{ℕ, ◌+◌, ◌≡◌, Bool, ◌&&◌, List, [], ◌∷◌, ◌++◌, length}
use Rattle.meaning.specs.Plain.{◌≤?◌, ◌=?◌}
use Rattle.meaning.specs.Numbers.{octets}
use Rattle.meaning.specs.Words.{Second}
use Rattle.trace_record.specs.declared.Head.{Head}
use Rattle.trace_record.specs.Trace.{TraceRecord, head_mark, mark_octets, mark_vo, mark_vx, mark_ca, mark_vs, mark_po, mark_px}
use Rattle.trace_record.specs.Trace.{GM as Trace-as-GM, VO as Trace-as-VO, VX as Trace-as-VX, CA as Trace-as-CA, SL as Trace-as-SL, VS as Trace-as-VS, PO as Trace-as-PO, PX as Trace-as-PX}
use Rattle.text_meaning.specs.Shapes.{of16, of32}
use Rattle.text_meaning.specs.Events.{Event, told, pause, sl_of, opening_of, closing_of}

pub data Given : Type 0 where
  GM : (N z : ℕ) (head : Head) → Given
  VO : (vci m F C : ℕ) → Given
  VX : (vci : ℕ) → Given
  CA : (cell : List ℕ) → Given
  SL : (count : ℕ) → Given
  VS : (vci m F C : ℕ) (x : Second) → Given
  PO : (vpi m F C : ℕ) → Given
  PX : (vpi : ℕ) → Given

unfoldable pub record_octets : Given → List ℕ
record_octets (GM N z head) = of16 (head_mark head) ++ (of16 N ++ of16 z)
record_octets (VO vci m F C) = opening_of mark_vo vci m F C
record_octets (VX vci) = closing_of mark_vx vci
record_octets (CA cell) = of16 mark_ca ++ cell
record_octets (SL count) = sl_of count
record_octets (VS vci m F C x) =
    of16 mark_vs ++ (of16 vci ++ (m ∷ (of32 F ++ (of32 C ++ (x.m ∷ (of32 x.F ++ (of32 x.C ++ (x.tag ∷ []))))))))
record_octets (PO vpi m F C) = opening_of mark_po vpi m F C
record_octets (PX vpi) = closing_of mark_px vpi

abbrev pub given_event : Given → Event
given_event (GM N z head) = told (record_octets (GM N z head))
given_event (VO vci m F C) = told (record_octets (VO vci m F C))
given_event (VX vci) = told (record_octets (VX vci))
given_event (CA cell) = told (record_octets (CA cell))
given_event (SL count) = pause count
given_event (VS vci m F C x) = told (record_octets (VS vci m F C x))
given_event (PO vpi m F C) = told (record_octets (PO vpi m F C))
given_event (PX vpi) = told (record_octets (PX vpi))

-- "GM .. first and only first"; "CA: 53 octets"; "SL: a count of empty slots, at least 1"
unfoldable pub allowed_at : ℕ → Given → Bool
allowed_at at (GM N z head) = at =? 0
allowed_at at (VO vci m F C) = 1 ≤? at
allowed_at at (VX vci) = 1 ≤? at
allowed_at at (CA cell) = 1 ≤? at && length cell =? octets
allowed_at at (SL count) = 1 ≤? at && 1 ≤? count
allowed_at at (VS vci m F C x) = 1 ≤? at
allowed_at at (PO vpi m F C) = 1 ≤? at
allowed_at at (PX vpi) = 1 ≤? at

unfoldable pub record_at : ℕ → Given → TraceRecord
record_at at (GM N z head) = Trace-as-GM N z head
record_at at (VO vci m F C) = Trace-as-VO vci m F C
record_at at (VX vci) = Trace-as-VX vci
record_at at (CA cell) = Trace-as-CA (at + mark_octets)
record_at at (SL count) = Trace-as-SL count
record_at at (VS vci m F C x) = Trace-as-VS vci m F C x
record_at at (PO vpi m F C) = Trace-as-PO vpi m F C
record_at at (PX vpi) = Trace-as-PX vpi

-- a record of these octets that may stand at every place but the first, whatever its mark
pub record Later (octets : List ℕ) (r : Given) : Type 0 where
  pub octets_are : record_octets r ≡ octets
  pub anywhere : (at : ℕ) → allowed_at at r ≡ (1 ≤? at)
