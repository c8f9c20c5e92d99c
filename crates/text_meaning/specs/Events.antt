-- Document 02 (viii): what a text and a trace say, and the octets that say it.
--
--   Event            == a record, by its octets; or a pause, which is any number of empty slots
--   octets_of e       == the octets of an event
--   merge es         == the events with adjoining pauses added together
--   octets_all es     == the octets of events, one after the other
--   event_of trace r  == the event of a record that the reader found in a trace
use Rattle.std.specs.Prelude.{ℕ, zero, suc, ◌+◌, ◌/◌, ◌%◌, List, [], ◌∷◌, ◌++◌, take, drop}
use Rattle.meaning.specs.Plain.{when◌then◌else◌, ◌=?◌}
use Rattle.meaning.specs.Numbers.{octets}
use Rattle.trace_record.specs.Trace.{TraceRecord, GM, VO, VX, CA, SL, VS, PO, PX, head_mark, mark_vo, mark_vx, mark_ca, mark_sl, mark_vs, mark_po, mark_px}
use Rattle.text_meaning.specs.Shapes.{of16, of32}

pub data Event : Type 0 where
  told : (octets : List ℕ) → Event
  pause : (slots : ℕ) → Event

-- the most slots of one SL, and an SL of n slots
abbrev pub full : ℕ
full = 65_535

abbrev pub sl_of : ℕ → List ℕ
sl_of n = of16 mark_sl ++ of16 n

-- "the full ones of 65,535 first": k of them
unfoldable pub fulls : ℕ → List ℕ
fulls zero = []
fulls (suc k) = sl_of full ++ fulls k

-- what is left when the full ones are written: nothing, or one record
unfoldable pub rest_of : ℕ → List ℕ
rest_of r = when r =? 0 then [] else sl_of r

-- "Adjoining pauses go into as few SL records as possible, the full ones of 65,535 first"
unfoldable pub octets_of : Event → List ℕ
octets_of (told o) = o
octets_of (pause n) = fulls (n / full) ++ rest_of (n % full)

unfoldable pub octets_all : List Event → List ℕ
octets_all [] = []
octets_all (e ∷ es) = octets_of e ++ octets_all es

-- "adjoining pauses added together": a pause of n before events of which no two pauses adjoin
unfoldable pub join : ℕ → List Event → List Event
join n [] = pause n ∷ []
join n (told o ∷ es) = pause n ∷ told o ∷ es
join n (pause m ∷ es) = pause (n + m) ∷ es

unfoldable pub merge : List Event → List Event
merge [] = []
merge (told o ∷ es) = told o ∷ merge es
merge (pause n ∷ es) = join n (merge es)

-- an opening and a closing, by mark: PO and PX are VO and VX with the VPI
abbrev pub opening_of : (mark c m F C : ℕ) → List ℕ
opening_of mark c m F C = of16 mark ++ (of16 c ++ (m ∷ (of32 F ++ of32 C)))

abbrev pub closing_of : (mark c : ℕ) → List ℕ
closing_of mark c = of16 mark ++ of16 c

-- A record found by the reader, by its own numbers, so that a VS with zeros stays a VS; a CA by the 53 octets that stand in the trace where it says.
unfoldable pub event_of : List ℕ → TraceRecord → Event
event_of trace (GM N z head) = told (of16 (head_mark head) ++ (of16 N ++ of16 z))
event_of trace (VO vci m F C) = told (opening_of mark_vo vci m F C)
event_of trace (VX vci) = told (closing_of mark_vx vci)
event_of trace (CA start) = told (of16 mark_ca ++ take octets (drop start trace))
event_of trace (SL count) = pause count
event_of trace (VS vci m F C x) = told (of16 mark_vs ++ (of16 vci ++ (m ∷ (of32 F ++ (of32 C ++ (x.m ∷ (of32 x.F ++ (of32 x.C ++ (x.tag ∷ [])))))))))
event_of trace (PO vpi m F C) = told (opening_of mark_po vpi m F C)
event_of trace (PX vpi) = told (closing_of mark_px vpi)
