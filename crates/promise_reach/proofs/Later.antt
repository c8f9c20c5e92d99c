-- Behind its first record a trace asks for no setup, and lends a slot no octets or 53.
use Prim.Native.Nat.{ℕ, zero, suc, ◌+◌, ◌-◌, ◌≤◌, ◌<◌}
use mathlib.Core.Path.{◌≡◌, refl}
use mathlib.Core.Bool.{Bool, true, false, ◌||◌}
use mathlib.Core.List.{List}
use native.Mathlib.Omega.{arith}
use borrow.Author.Tests.{eq-eqb, ne_eqb}
use lib.ListN.{length, drop, length-take, length-drop}
use Rattle.meaning.specs.Plain.{when◌then◌else◌, ◌=?◌}
use Rattle.meaning.specs.Numbers.{octets}
use Rattle.trace_record.specs.Trace.{TraceRecord, GM, VO, VX, CA, SL, VS, PO, PX, Stands, event, finish, refusal, stands_at}
use Rattle.trace_record.specs.Fits.{Fits, stands_fits}
use Rattle.list_meaning.specs.Trace.{Call, set_up, open_connection, close_connection, serve, Calls, finished, stopped, call, pauses, cell_of, record_calls, calls_at, calls_from}

abbrev pub LaterCall : Call → Type 0
LaterCall (set_up N z o) = ⊥
LaterCall (open_connection name m F C x) = 0 ≤ 0
LaterCall (close_connection name) = 0 ≤ 0
LaterCall (serve cell) = length cell =? 0 || length cell =? octets ≡ true

abbrev pub Later : Calls → Type 0
Later finished = 0 ≤ 0
Later (stopped place) = 0 ≤ 0
Later (call c rest) = LaterCall c × Later rest

pub pauses_later : (k : ℕ) (cs : Calls) → Later cs → Later (pauses k cs)
unfolding pauses
pauses_later zero cs l = l
pauses_later (suc k) cs l = (refl, pauses_later k cs l)

cell_long : (trace : List ℕ) (start : ℕ) → start + octets ≤ length trace → length (cell_of trace start) ≡ octets
unfolding cell_of
cell_long trace start h =
    omega (arith, length-take octets (drop start trace), length-drop start trace)

cell_later : (n : ℕ) → n ≡ octets → n =? 0 || n =? octets ≡ true
cell_later n e = simp (ne_eqb n 0 (λ z. omega arith), eq-eqb n octets e)

record_later : (trace : List ℕ) (at : ℕ) (r : TraceRecord) (next : ℕ) (cs : Calls) → 0 < at → Fits trace at (event r next) → Later cs
    → Later (record_calls trace r cs)
unfolding record_calls
record_later trace at (GM N z head) next cs p f l = absurd (omega (arith, p, f.2))
record_later trace at (VO vci m F C) next cs p f l = (omega arith, l)
record_later trace at (VX vci) next cs p f l = (omega arith, l)
record_later trace at (CA start) next cs p f l =
    (cell_later (length (cell_of trace start)) (cell_long trace start (omega (arith, f.0, f.1, f.2.1))), l)
record_later trace at (SL count) next cs p f l = pauses_later count cs l
record_later trace at (VS vci m F C x) next cs p f l = (omega arith, l)
record_later trace at (PO vpi m F C) next cs p f l = (omega arith, l)
record_later trace at (PX vpi) next cs p f l = (omega arith, l)

event_next : (trace : List ℕ) (at : ℕ) (r : TraceRecord) (next : ℕ) → Fits trace at (event r next) → 0 < next
event_next trace at (GM N z head) next f = omega (arith, f.0)
event_next trace at (VO vci m F C) next f = omega (arith, f.0)
event_next trace at (VX vci) next f = omega (arith, f.0)
event_next trace at (CA start) next f = omega (arith, f.0)
event_next trace at (SL count) next f = omega (arith, f.0)
event_next trace at (VS vci m F C x) next f = omega (arith, f.0)
event_next trace at (PO vpi m F C) next f = omega (arith, f.0)
event_next trace at (PX vpi) next f = omega (arith, f.0)

stands_later : (more : Bool) (trace : List ℕ) (go : ℕ → Calls) (at : ℕ) (s : Stands) → 0 < at → Fits trace at s
    → ((next : ℕ) → 0 < next → Later (go next)) → Later (calls_at more trace go at s)
unfolding calls_at
stands_later more trace go at (event r next) p f g = record_later trace at r next (go next) p f (g next (event_next trace at r next f))
stands_later more trace go at finish p f g = ends_later more
  where
    ends_later : (b : Bool) → Later (when b then stopped at else finished)
    ends_later true = omega arith
    ends_later false = omega arith
stands_later more trace go at (refusal number place) p f g = omega arith

pub calls_later : (k : ℕ) (more : Bool) (trace : List ℕ) (at : ℕ) → 0 < at → Later (calls_from k more trace at)
unfolding calls_from
calls_later zero more trace at p = omega arith
calls_later (suc k) more trace at p =
    stands_later more trace (calls_from k more trace) at (stands_at trace at) p (stands_fits trace at) (λ next h. calls_later k more trace next h)
