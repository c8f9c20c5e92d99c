-- A cell that the reader finds lies within the trace, and a record leads on: both are in what every answer of it fits.
use Prim.Native.Nat.{ℕ, ◌≤◌, ◌<◌}
use mathlib.Core.Path.{◌≡◌, subst}
use mathlib.Core.List.{List}
use lib.ListN.{length}
use native.Mathlib.Omega.{arith}
use Rattle.trace_record.specs.Trace.{TraceRecord, GM, VO, VX, CA, SL, VS, PO, PX, event, stands_at}
use Rattle.trace_record.specs.Fits.{Fits, stands_fits}
use Rattle.text_print.specs.Print.{CellWithin}

within_by : (trace : List ℕ) (at : ℕ) (r : TraceRecord) (next : ℕ) → Fits trace at (event r next)
    → CellWithin trace r × (at < next) × (next ≤ length trace)
within_by trace at (GM N z head) next f = (omega arith, omega arith, f.1)
within_by trace at (VO vci m F C) next f = (omega arith, omega arith, f.1)
within_by trace at (VX vci) next f = (omega arith, omega arith, f.1)
within_by trace at (CA start) next f = (omega (arith, f.0, f.1, f.2.1), omega arith, f.1)
within_by trace at (SL count) next f = (omega arith, omega arith, f.1)
within_by trace at (VS vci m F C x) next f = (omega arith, omega arith, f.1)
within_by trace at (PO vpi m F C) next f = (omega arith, omega arith, f.1)
within_by trace at (PX vpi) next f = (omega arith, omega arith, f.1)

pub read_within : (trace : List ℕ) (at : ℕ) (r : TraceRecord) (next : ℕ) → stands_at trace at ≡ event r next
    → CellWithin trace r × (at < next) × (next ≤ length trace)
read_within trace at r next e = within_by trace at r next (subst (Fits trace at) e (stands_fits trace at))
