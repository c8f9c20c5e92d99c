-- The reader's promise determines its answer, for every trace and every number: two answers that it allows coincide,
-- since no two answers mean the same in document 01's numbers and values.
use Prim.Native.Nat.{ℕ}
use mathlib.Core.Path.{◌≡◌, refl, sym, ap, ◌∙◌}
use mathlib.Core.List.{List}
use Rattle.trace_record.specs.Trace.{TraceRecord, GM, VO, VX, CA, SL, VS, PO, PX, Stands, event, finish, refusal, said_of}
use Rattle.trace_record.specs.Promises.{event_promise, place_promise}
use Rattle.trace_record.specs.declared.Event.{Event}
use Rattle.trace_record.specs.declared.Event.TheVariants.{Setup, Open, Close, Cell, Pause, Sustain, OpenPath, ClosePath}
use Rattle.trace_record.specs.declared.Found.{Found}
use Rattle.trace_record.specs.declared.Found.TheVariants.{Read, End, Unreadable}

-- the answer that means so much
abbrev event_of : TraceRecord → Event
event_of (GM N z head) = Setup N z head
event_of (VO vci m F C) = Open vci m F C
event_of (VX vci) = Close vci
event_of (CA start) = Cell start
event_of (SL count) = Pause count
event_of (VS vci m F C x) = Sustain vci m F C x.m x.F x.C x.tag
event_of (PO vpi m F C) = OpenPath vpi m F C
event_of (PX vpi) = ClosePath vpi

abbrev pub found_of : Stands → Found
found_of (event r next) = Read (event_of r) next
found_of finish = End
found_of (refusal number place) = Unreadable place

pub found_of_said : (r : Found) → found_of (said_of r) ≡ r
found_of_said (Read (Setup n v head) next) = refl
found_of_said (Read (Open vci m f c) next) = refl
found_of_said (Read (Close vci) next) = refl
found_of_said (Read (Cell start) next) = refl
found_of_said (Read (Pause slots) next) = refl
found_of_said (Read (Sustain vci m f c m2 f2 c2 tag) next) = refl
found_of_said (Read (OpenPath vpi m f c) next) = refl
found_of_said (Read (ClosePath vpi) next) = refl
found_of_said End = refl
found_of_said (Unreadable place) = refl

pub event_once : (trace : List ℕ) (at : ℕ) (a b : Found) → event_promise trace at a → event_promise trace at b → a ≡ b
event_once trace at a b p q = sym (found_of_said a) ∙ ap found_of (p ∙ sym q) ∙ found_of_said b

pub place_once : (found : Found) (at a b : ℕ) → place_promise found at a → place_promise found at b → a ≡ b
place_once found at a b p q = p ∙ sym q
