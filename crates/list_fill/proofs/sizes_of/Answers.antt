-- `list_fill::sizes_of` answers the sizes for an input: the first record of its first 65,536 octets.
use Prim.Native.Nat.{ℕ, ◌≤◌}
use mathlib.Core.Path.{sym, ap, subst, ◌∙◌}
use mathlib.Core.List.{List}
use native.Mathlib.Omega.{arith}
use lib.Seq.{length-take-le}
use Rattle.meaning.specs.Numbers.{most_n, most_v}
use Rattle.trace_record.specs.Trace.{stands_at}
use Rattle.list_whole.specs.declared.Sizes.{Sizes}
use Rattle.list_whole.specs.Fill.{sizes_at, sizes_of}
use Rattle.list_whole.proofs.Cut.{take_cut}
use Rattle.list_fill.proofs.Lent.{sizes_small}
use Rattle.list_fill.proofs.sizes_of.Goals as goal

pub slice_bounds-event_at-end : goal.slice_bounds-event_at-end
slice_bounds-event_at-end c =
    let l = c.min-end in
    sym (length-take-le l.result c.args.input.now (omega (arith, l.ensures)))

pub returns : goal.returns
unfolding sizes_of
returns c =
    let e = c.sizes_at.ensures ∙ ap sizes_at c.event_at.ensures
    ∙ ap (λ (x : List ℕ). sizes_at (stands_at x 0)) (take_cut c.args.input.now _ c.min-end.ensures) in
    record { value = e; n_le_most_n = subst (λ (x : Sizes). (x.n ≤ most_n) × (x.v ≤ most_v)) (sym e) (sizes_small _) }
