-- A record that was read leads on and lies within the trace, and so do the octets of its cell; a refusal's place is where the
-- reader stood.
use Prim.Native.Nat.{ℕ, ◌≤◌, ◌<◌}
use mathlib.Core.Path.{◌≡◌, sym, subst}
use mathlib.Core.List.{List}
use native.Mathlib.Omega.{arith}
use lib.ListN.{length}
use Rattle.trace_record.specs.Trace.{TraceRecord, GM, VO, VX, CA, SL, VS, PO, PX, Stands, event, refusal, stands_at}
use Rattle.trace_record.specs.Fits.{Fits, stands_fits}
use Rattle.list_whole.specs.Fill.{CellWithin}

pub within : (trace : List ℕ) (at : ℕ) (r : TraceRecord) (next : ℕ) → Fits trace at (event r next)
    → (at < next) × (next ≤ length trace) × CellWithin trace r
within trace at (GM N z head) next h = (omega arith, h.1, omega arith)
within trace at (VO vci m F C) next h = (omega arith, h.1, omega arith)
within trace at (VX vci) next h = (omega arith, h.1, omega arith)
within trace at (CA start) next h = (omega arith, h.1, omega (arith, h.0, h.1, h.2.1))
within trace at (SL count) next h = (omega arith, h.1, omega arith)
within trace at (VS vci m F C x) next h = (omega arith, h.1, omega arith)
within trace at (PO vpi m F C) next h = (omega arith, h.1, omega arith)
within trace at (PX vpi) next h = (omega arith, h.1, omega arith)

pub read_within : (trace : List ℕ) (at : ℕ) (r : TraceRecord) (next : ℕ) → event r next ≡ stands_at trace at
    → (at < next) × (next ≤ length trace) × CellWithin trace r
read_within trace at r next e = within trace at r next (subst (λ (s : Stands). Fits trace at s) (sym e) (stands_fits trace at))

pub refused_at : (trace : List ℕ) (at number place : ℕ) → refusal number place ≡ stands_at trace at → place ≡ at
refused_at trace at number place e = (subst (λ (s : Stands). Fits trace at s) (sym e) (stands_fits trace at)).1
