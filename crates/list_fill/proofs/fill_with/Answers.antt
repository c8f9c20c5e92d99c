-- `list_fill::fill_with` fills the buffer: the first 65,536 octets of the input are the trace.
use mathlib.Core.Path.{sym}
use native.Mathlib.Omega.{arith}
use lib.ListN.{length-take}
use lib.Seq.{length-take-le}
use Rattle.list_whole.proofs.Cut.{fill_cut}
use Rattle.list_fill.proofs.fill_with.Goals as goal

pub slice_bounds-fill_trace-end : goal.slice_bounds-fill_trace-end
slice_bounds-fill_trace-end c =
    let l = c.min-end in
    sym (length-take-le l.result c.args.input.now (omega (arith, l.ensures)))

pub fill_trace-requires : goal.fill_trace-requires
fill_trace-requires c =
    let l = c.min-end in
    omega (arith, length-take l.result c.args.input.now, l.ensures)

pub returns : goal.returns
returns c = record { filled = fill_cut _ _ _ _ _ _ _ c.min-end.ensures c.fill_trace.ensures.fill; same = c.fill_trace.ensures.same }
